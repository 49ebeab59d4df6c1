-- Tries come before answers, in each list of the desk's steps.
use Rattle.std.proofs.Common.{◌≡◌, ◌≢◌, ℕ, zero, suc, ◌<◌, inl, inr, ⊎_elim, nat_eq, eq-eqb, Bool, true, false, ◌||◌, List, [], ◌∷◌, length, get_or, set, replicate, sym, refl, ap, ◌∙◌, subst, arith, length-set, get_or-set_other, get_or-set_same, Some, None}
use mathlib.Core.Logic.{dite}
use mathlib.Core.Option.{some, some-injective, some-ne-none}
use native.Mathlib.Decide.{ℕ_discrete}
use lib.ListN.{get_elem?}
use Rattle.atomic_table.specs.Table.{State, opening}
use Rattle.atomic_table.proofs.Lists.{at_set}
use Rattle.world_terms.specs.declared.event.Event.TheVariants as event
use Rattle.world_terms.specs.declared.event.EventAnswer.TheVariants as answer
use Rattle.desk_rule.specs.declared.view.DeskView.{DeskView}
use Rattle.desk_rule.specs.declared.view.DeskView.TheVariants.{Lane, Round, Spent}
use Rattle.desk_rule.specs.declared.view.LaneSlot.{LaneSlot}
use Rattle.desk_rule.specs.declared.view.LaneView.{LaneView}
use Rattle.desk_rule.specs.declared.view.RoundView.{RoundView}
use Rattle.desk_rule.specs.declared.view.TraceView.{TraceView}
use Rattle.desk_rule.specs.Lanes.{any_due, dealer_after, dealt_to, first_round, has_collected, has_missed, has_posted, is_due, lane_in, taken_in, trace_in, untraced, with_answer, with_lane, with_trace}
use Rattle.desk_rule.specs.Steps.{Done, StepOn, TableRuns}
use Rattle.desk_rule.proofs.Keeps.{at_end}
use Rattle.lane_desk.specs.Held.{round_in}
use Rattle.round_events.specs.Tries.{TriesComeFirst, is_tried}

-- the claim about the round's seat: it is seat 0
abbrev Told : List Done → ℕ → RoundView → Type 0
Told past id v = (id ≡ 0) × (v.answering ≡ false → (i : ℕ) → i < length v.traces → is_due (get_or v.traces i untraced) ≡ true → is_tried i past ≡ true)

or_right : (b c : Bool) → c ≡ true → b || c ≡ true
or_right true c e = refl
or_right false c e = e

or_left : (b c : Bool) → b ≡ true → b || c ≡ true
or_left true c e = refl
or_left false c e = absurd (cc)

due_any : (ts : List TraceView) (i : ℕ) → i < length ts → is_due (get_or ts i untraced) ≡ true → any_due ts ≡ true
due_any [] i less e = absurd (omega arith)
due_any (t ∷ ts) zero less e = or_left (is_due t) (any_due ts) e
due_any (t ∷ ts) (suc i) less e = or_right (is_due t) (any_due ts) (due_any ts i (omega arith) e)

none_due : (k i : ℕ) → is_due (get_or (replicate k untraced) i untraced) ≡ false
none_due zero i = refl
none_due (suc k) zero = refl
none_due (suc k) (suc i) = none_due k i

told_lane : (past : List Done) (id i : ℕ) (x : LaneView) (u : DeskView) (v : RoundView) → ((w : RoundView) → u ≡ Round w → Told past id w) → with_lane i x u ≡ Round v → Told past id v
told_lane past id i x Spent v k e = absurd (cc)
told_lane past id i x (Lane q y) v k e = absurd (cc)
told_lane past id i x (Round sh) v k e = subst (λ (d : DeskView). Told past id (round_in d)) e (k sh refl)

told_got : (past : List Done) (id j : ℕ) (t : TraceView) (u : DeskView) (v : RoundView) → ((w : RoundView) → u ≡ Round w → Told past id w) → with_trace j t u ≡ Round v → Told (Some (event.Collect j, answer.Got) ∷ past) id v
told_got past id j t Spent v k e = absurd (cc)
told_got past id j t (Lane q y) v k e = absurd (cc)
told_got past id j t (Round sh) v k e = subst (λ (d : DeskView). Told (Some (event.Collect j, answer.Got) ∷ past) id (round_in d)) e (
  (k sh refl).0,
  λ quiet i less due. dite (ℕ_discrete i j)
      (λ same. or_left (nat_eq j i) (is_tried i past) (eq-eqb j i (sym same)))
      (λ other. or_right (nat_eq j i) (is_tried i past) ((k sh refl).1 quiet i (subst (λ (n : ℕ). i < n) (length-set sh.traces j t) less) (ap is_due (sym (get_or-set_other sh.traces j i t untraced other)) ∙ due))),
)

told_missed : (past : List Done) (id j : ℕ) (u : DeskView) (v : RoundView) → ((w : RoundView) → u ≡ Round w → Told past id w) → with_trace j (has_missed (trace_in j u)) u ≡ Round v → Told past id v
told_missed past id j Spent v k e = absurd (cc)
told_missed past id j (Lane q y) v k e = absurd (cc)
told_missed past id j (Round sh) v k e = subst (λ (d : DeskView). Told past id (round_in d)) e (
  (k sh refl).0,
  λ quiet i less due.
      let t : TraceView = has_missed (get_or sh.traces j untraced) in
      let near : i < length sh.traces = subst (λ (n : ℕ). i < n) (length-set sh.traces j t) less in
      (k sh refl).1 quiet i near (dite (ℕ_discrete i j)
      (λ same. subst (λ (n : ℕ). is_due (get_or sh.traces n untraced) ≡ true) (sym same)
      (ap is_due (sym (get_or-set_same sh.traces j t untraced (subst (λ (n : ℕ). n < length sh.traces) same near))) ∙ subst (λ (n : ℕ). is_due (get_or (set sh.traces j t) n untraced) ≡ true) same due))
      (λ other. ap is_due (sym (get_or-set_other sh.traces j i t untraced other)) ∙ due)),
)

told_posted : (past : List Done) (id j : ℕ) (t : TraceView) (a : Done) (u : DeskView) (v : RoundView) → ((w : RoundView) → u ≡ Round w → Told past id w) → with_answer j t u ≡ Round v → Told (a ∷ past) id v
told_posted past id j t a Spent v k e = absurd (cc)
told_posted past id j t a (Lane q y) v k e = absurd (cc)
told_posted past id j t a (Round sh) v k e = subst (λ (d : DeskView). Told (a ∷ past) id (round_in d)) e (
  (k sh refl).0,
  λ quiet i less due. let f : true ≡ false = sym (due_any (set sh.traces j t) i less due) ∙ quiet in absurd (cc),
)

one_view : (v : DeskView) (j : ℕ) (u : DeskView) → get_elem? (v ∷ []) j ≡ some u → (j ≡ 0) × (v ≡ u)
one_view v zero u e = (refl, some-injective v u e)
one_view v (suc j) u e = absurd (some-ne-none u (sym e))

module _ {N : Type 0} where
  abbrev Known : List Done → State (LaneSlot N) DeskView → Type 0
  Known past s = (id : ℕ) (v : RoundView) → get_elem? s.views id ≡ some (Round v) → Told past id v

  -- the view of one seat changes
  known_set : (past past' : List Done) (s : State (LaneSlot N) DeskView) (id : ℕ) (u : DeskView) → ((v : RoundView) → u ≡ Round v → Told past' id v) → ((j : ℕ) (v : RoundView) → j ≢ id → get_elem? s.views j ≡ some (Round v) → Told past' j v) → (j : ℕ) (v : RoundView) → get_elem? (set s.views id u) j ≡ some (Round v) → Told past' j v
  known_set past past' s id u here else j v e = ⊎_elim
      (λ (y : (j ≡ id) × (u ≡ Round v)). subst (λ (n : ℕ). Told past' n v) (sym y.0) (here v y.1))
      (λ (y : (j ≢ id) × (get_elem? s.views j ≡ some (Round v))). else j v y.0 y.1)
      (at_set s.views id j u (Round v) e)

  of_seat : (past : List Done) (s : State (LaneSlot N) DeskView) (id : ℕ) (u : DeskView) → get_elem? s.views id ≡ some u → Known past s → (w : RoundView) → u ≡ Round w → Told past id w
  of_seat past s id u at k w e = k id w (at ∙ ap some e)

  step : (d : Done) (past : List Done) (s s' : State (LaneSlot N) DeskView) → Known past s → StepOn d s s' → Known (d ∷ past) s'
  step None past s s' k (inl c) = subst (Known past) (sym c.5) (known_set past past s c.0 _ (λ v e. told_lane past c.0 c.1 _ c.2 v (of_seat past s c.0 c.2 c.3.0 k) e) (λ j v ne e. k j v e))
  step None past s s' k (inr (inl c)) = subst (Known past) (sym c.4) (λ j v e. ⊎_elim
      (λ (old : (j < length (set s.views c.0 (dealer_after (Round c.1)))) × (get_elem? (set s.views c.0 (dealer_after (Round c.1))) j ≡ some (Round v))). known_set past past s c.0 (dealer_after (Round c.1)) (λ w f. subst (λ (d : DeskView). Told past c.0 (round_in d)) f (k c.0 c.1 c.2)) (λ i w ne f. k i w f) j v old.1)
      (λ (new : (j ≡ length (set s.views c.0 (dealer_after (Round c.1)))) × (dealt_to (Round c.1) ≡ Round v)). absurd (let f : ◌≡◌ {A = DeskView} (dealt_to (Round c.1)) (Round v) = new.1 in cc))
      (at_end (set s.views c.0 (dealer_after (Round c.1))) (dealt_to (Round c.1)) (Round v) j e))
  step None past s s' k (inr (inr c)) =
      let views : List DeskView = set s.views c.0 (taken_in (Round c.1) (Lane (length c.1.back) c.3)) in
      let mid : State (LaneSlot N) DeskView = record { words = s.words; homes = s.homes; views = views } in
      let known : Known past mid = known_set past past s c.0 (taken_in (Round c.1) (Lane (length c.1.back) c.3)) (λ w f. subst (λ (d : DeskView). Told past c.0 (round_in d)) f (k c.0 c.1 c.4)) (λ i w ne f. k i w f) in
      subst (Known past) (sym c.7) (known_set past past mid c.2 Spent (λ w f. absurd (cc)) (λ i w ne f. known i w f))
  step (Some (event.Sit i, answer.Done)) past s s' k c = subst (Known past) (sym c.4) (known_set past past s c.0 _ (λ v e. told_lane past c.0 i _ c.1 v (of_seat past s c.0 c.1 c.2.0 k) e) (λ j v ne e. k j v e))
  step (Some (event.Asked i a, answer.Done)) past s s' k c = subst (Known past) (sym c.4) (known_set past past s c.0 _ (λ v e. told_lane past c.0 i _ c.1 v (of_seat past s c.0 c.1 c.2.0 k) e) (λ j v ne e. k j v e))
  step (Some (event.Taken i, answer.Taken n)) past s s' k c = subst (Known past) (sym c.7) (known_set past past s c.0 _ (λ v e. told_lane past c.0 i _ c.1 v (of_seat past s c.0 c.1 c.3.0 k) e) (λ j v ne e. k j v e))
  step (Some (event.Rise i, answer.Done)) past s s' k c = subst (Known past) (sym c.4) (known_set past past s c.0 _ (λ v e. told_lane past c.0 i _ c.1 v (of_seat past s c.0 c.1 c.2.0 k) e) (λ j v ne e. k j v e))
  step (Some (event.Collect i, answer.Got)) past s s' k c = subst (Known (Some (event.Collect i, answer.Got) ∷ past)) (sym c.7) (known_set past (Some (event.Collect i, answer.Got) ∷ past) s c.0 _ (λ v e. told_got past c.0 i _ c.1 v (of_seat past s c.0 c.1 c.3.0 k) e)
      (λ j v ne e. let h = k j v e in (h.0, λ quiet q less due. or_right (nat_eq i q) (is_tried q past) (h.1 quiet q less due))))
  step (Some (event.Collect i, answer.Missed)) past s s' k c = subst (Known past) (sym c.5) (known_set past past s c.0 _ (λ v e. told_missed past c.0 i c.1 v (of_seat past s c.0 c.1 c.2.0 k) e) (λ j v ne e. k j v e))
  step (Some (event.Post i, answer.Posted n)) past s s' k c = subst (Known (Some (event.Post i, answer.Posted n) ∷ past)) (sym c.8) (known_set past (Some (event.Post i, answer.Posted n) ∷ past) s c.0 _ (λ v e. told_posted past c.0 i _ (Some (event.Post i, answer.Posted n)) c.1 v (of_seat past s c.0 c.1 c.3.0 k) e)
      (λ j v ne e. absurd (ne ((k j v e).0 ∙ sym (leads_first past s c.0 i c.1 c.3.0 c.3.1 k)))))
    where
      leads_first : (past : List Done) (s : State (LaneSlot N) DeskView) (id i : ℕ) (u : DeskView) → get_elem? s.views id ≡ some u → Rattle.desk_rule.specs.Lanes.Leads i u → Known past s → id ≡ 0
      leads_first past s id i Spent at o k = absurd o
      leads_first past s id i (Lane q y) at o k = absurd o
      leads_first past s id i (Round sh) at o k = (k id sh at).0
  step (Some (e, a)) past s s' k c = absurd c

  opened : (words : List ℕ) (slots : List (LaneSlot N)) (k : ℕ) → Known [] (opening words slots (Round (first_round k)))
  opened words slots k id v e =
      let o = one_view (Round (first_round k)) id (Round v) e in
      subst (λ (d : DeskView). Told [] id (round_in d)) o.1 (o.0, λ quiet i less due. let f : false ≡ true = sym (none_due k i) ∙ due in absurd (cc))

  known : (words : List ℕ) (slots : List (LaneSlot N)) (k : ℕ) (past : List Done) (s : State (LaneSlot N) DeskView) → TableRuns (opening words slots (Round (first_round k))) past s → Known past s
  known words slots k [] s h = subst (Known []) (sym h) (opened words slots k)
  known words slots k (d ∷ past) s h = step d past h.0 s (known words slots k past h.0 h.1) h.2

  pub tries_first : TriesComeFirst N
  tries_first words slots k past s id i v h at quiet less due = (known words slots k past s h id v at).1 quiet i less due
