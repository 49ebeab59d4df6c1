-- One step of a merge: a step on the table, with the decision or the spending that goes with it.
use Rattle.std.proofs.Common.{◌≡◌, ◌≢◌, ℕ, ◌+◌, ◌-◌, ◌<◌, inl, Bool, cond, nat_eq, eq-eqb, ne_eqb, List, [], ◌∷◌, ◌++◌, flat_map, length, map, zip, get_or, set, sym, refl, ap, ◌∙◌, subst, arith, append_assoc, get_or-set_other, get_or-set_same, length-set, Option, Some, None}
use Rattle.std.proofs.lemmas.List.{map-append}
use Rattle.line_rates.specs.declared.ask.Ask.{Ask}
use Rattle.line_rates.specs.Rates.{Rates}
use Rattle.line_rates.specs.TickTree.{Asker}
use Rattle.world_terms.specs.declared.event.Event.TheVariants as event
use Rattle.world_terms.specs.declared.event.EventAnswer.TheVariants as answer
use Rattle.world_terms.specs.declared.event.LaneState.{LaneState}
use Rattle.world_terms.specs.declared.event.LaneState.TheVariants as state
use Rattle.world_terms.specs.Lanes.{Hidden, Shown, hidden, shown}
use Rattle.desk_rule.specs.declared.view.LaneSlot.{LaneSlot}
use Rattle.desk_rule.specs.Lanes.{Kept}
use Rattle.desk_rule.specs.Shown.{shown_in}
use Rattle.desk_rule.specs.Steps.{Done, TableStep}
use Rattle.desk_rule.proofs.Events.{collect_is}
use Rattle.round_events.specs.Desk.{DeskState}
use Rattle.round_events.specs.Merged.{IsMerged}
use Rattle.round_events.specs.Results.{AreResults, RoundResult, RoundStep, answer_of, find_of, finds, round_steps, steps_of, with_ask}
use Rattle.round_events.proofs.Decides.{none_decided}
use Rattle.round_events.proofs.DeskDecision.{IsDueOn}
use Rattle.round_events.proofs.DueAsks.{found_more, none_is_due, still_none}
use Rattle.round_events.proofs.MergeState.{Now, Phase, Shows, next, not_answering, phase_after}
use Rattle.round_events.proofs.Merging.{merged_step, same_held}
use Rattle.round_events.proofs.SpendLists.{none_kept}
use Rattle.round_events.proofs.TableSteps.{Onward, Table, near, quiet}

-- a lane whose state is this, with the same ask
pub shows_still : (last : ℕ → Option Ask) (os : List (Option Ask)) (i : ℕ) (p q : Shown) (st : LaneState) (ps ts : List ℕ) → q ≡ shown st p.ask ps ts → p.state ≢ state.Round → st ≢ state.Round → Shows last os i p → Shows last os i q
shows_still last os i p q st ps ts e ne ne' h = subst (Shows last os i) (sym e) (h.0, still_none (get_or os i None) p (shown st p.ask ps ts) h.1 ne ne')

pub other_state : (a b c : LaneState) → a ≡ b → b ≢ c → a ≢ c
other_state a b c e ne f = ne (sym e ∙ f)

with_ask_here : (i : ℕ) (a : Ask) (last : ℕ → Option Ask) → with_ask i a last i ≡ Some a
with_ask_here i a last = ap (λ (b : Bool). cond b (Some a) (last i)) (eq-eqb i i refl)

with_ask_else : (i : ℕ) (a : Ask) (last : ℕ → Option Ask) (j : ℕ) → j ≢ i → with_ask i a last j ≡ last j
with_ask_else i a last j ne = ap (λ (b : Bool). cond b (Some a) (last j)) (ne_eqb i j (λ e. ne (sym e)))

pub shows_else : (last : ℕ → Option Ask) (os : List (Option Ask)) (i : ℕ) (o : Option Ask) (j : ℕ) (y : Shown) → j ≢ i → Shows last os j y → Shows last (set os i o) j y
shows_else last os i o j y ne h = (h.0, subst (λ (p : Option Ask). IsDueOn p y) (sym (get_or-set_other os i j o None ne)) h.1)

-- what a worker has after it spends a grant
abbrev spent_of : List ℕ → ℕ → ℕ → Hidden → Hidden
spent_of [] n i x = x
spent_of (m ∷ ms) n i x = hidden (x.moved + m) (x.back + (n - m)) None x.decided

module _ {N : Type 0} (rates : ℕ → Rates) (words : List ℕ) (slots : List (LaneSlot N)) (k : ℕ) (s : Table N) (begun : List Asker) (left : List (ℕ × ℕ)) where
  -- the steps of rounds that are to come are those of the rounds that are to come
  abbrev pub Meets : (ℕ → Option Ask) → List Done → List Asker → List ℕ → List ℕ → List RoundResult → Type 0
  Meets last ds had lanes amounts rounds = ◌≡◌ {A = List RoundStep} (map find_of had ++ (round_steps last ds ++ map answer_of left)) (map answer_of (zip lanes amounts) ++ (flat_map steps_of rounds ++ map find_of begun))

  -- from wherever a merge is, it goes on to the end of these steps
  abbrev pub Goes : List Done → Type 0
  Goes ds = (x : DeskState N) (past : List Done) (last : ℕ → Option Ask) (os : List (Option Ask)) (spent : ℕ → List ℕ) (kept late : ℕ → ℕ) (had : List Asker) (lanes amounts : List ℕ) (rounds : List RoundResult)
      → Now words slots k x past ds last os spent kept late → Phase x.held.lanes past os had lanes amounts → AreResults rates x.held.last_tick x.held.issued rounds → Meets last ds had lanes amounts rounds → Onward x.table ds s → IsMerged rates x ds rounds spent s

  pub silent_step : (ds : List Done) → Goes ds → Goes (None ∷ ds)
  silent_step ds go x past last os spent kept late had lanes amounts rounds now phase results meets h =
      let q = quiet x.table now.rule h.0 h.1 in
      let y : DeskState N = record { table = h.0; held = x.held } in
      merged_step rates s None x y ds rounds spent (h.1, refl) refl (λ es. refl) (λ es. refl) (λ i es. refl) (go y (None ∷ past) last os spent kept late had lanes amounts rounds
      (record {
        rule = q.0;
        ran = (x.table, now.ran, h.1);
        long = now.long ∙ sym q.1;
        wide = now.wide ∙ sym q.1;
        shows = λ i less. subst (Shows last os i) (sym (q.2 i)) (now.shows i (subst (λ (n : ℕ). i < n) q.1 less));
        fits = λ i. let f = now.fits i in record { moves = f.moves; all = f.all; one = f.one };
        hands = now.hands;
      })
      (phase_after x.held.lanes past (None ∷ past) os had lanes amounts (λ j. refl) phase) results meets h.2)

  pub sit_step : (i : ℕ) (ds : List Done) → Goes ds → Goes (Some (event.Sit i, answer.Done) ∷ ds)
  sit_step i ds go x past last os spent kept late had lanes amounts rounds now phase results meets h =
      let d : Done = Some (event.Sit i, answer.Done) in
      let y : DeskState N = record { table = h.0; held = x.held } in
      let close : i < length x.held.lanes = omega (arith, near (event.Sit i) answer.Done x.table now.rule h.0 h.1, now.long) in
      merged_step rates s d x y ds rounds spent (h.1, same_held (event.Sit i) answer.Done x.held close (λ z e. refl)) refl (λ es. refl) (λ es. refl) (λ i es. refl) (go y (d ∷ past) last os spent kept late had lanes amounts rounds
      (next words slots k x past (d ∷ ds) ds (event.Sit i) answer.Done h.0 x.held last last os os spent spent kept kept late late now h.1 refl refl (λ j z ne sh. sh)
      (λ p q c sh. shows_still last os i p q state.Worker p.posted p.taken c.1 (other_state p.state state.Free state.Round c.0 (λ e. cc)) (λ e. cc) sh)
      (λ j. let f = now.fits j in record { moves = f.moves; all = f.all; one = f.one }) now.hands)
      (phase_after x.held.lanes past (d ∷ past) os had lanes amounts (λ j. refl) phase) results meets h.2)

  pub ask_step : (i : ℕ) (a : Ask) (ds : List Done) → Goes ds → Goes (Some (event.Asked i a, answer.Done) ∷ ds)
  ask_step i a ds go x past last os spent kept late had lanes amounts rounds now phase results meets h =
      let d : Done = Some (event.Asked i a, answer.Done) in
      let y : DeskState N = record { table = h.0; held = x.held } in
      let close : i < length x.held.lanes = omega (arith, near (event.Asked i a) answer.Done x.table now.rule h.0 h.1, now.long) in
      let empty : kept i ≡ 0 = let f = now.fits i in none_kept (spent i) (kept i) (late i) i ds f.all f.one in
      merged_step rates s d x y ds rounds spent (h.1, same_held (event.Asked i a) answer.Done x.held close (λ z e. (now.hands i z e empty, refl))) refl (λ es. refl) (λ es. refl) (λ i es. refl)
      (go y (d ∷ past) (with_ask i a last) os spent kept (λ j. cond (nat_eq i j) 0 (late j)) had lanes amounts rounds
      (next words slots k x past (d ∷ ds) ds (event.Asked i a) answer.Done h.0 x.held last (with_ask i a last) os os spent spent kept kept late (λ j. cond (nat_eq i j) 0 (late j)) now h.1 refl refl
      (λ j z ne sh. (sh.0 ∙ sym (with_ask_else i a last j ne), sh.1))
      (λ p q c sh. subst (Shows (with_ask i a last) os i) (sym c.1) (sym (with_ask_here i a last), still_none (get_or os i None) p (shown state.Asked (Some a) p.posted p.taken) sh.1 (other_state p.state state.Worker state.Round c.0 (λ e. cc)) (λ e. cc)))
      (λ j. let f = now.fits j in record { moves = f.moves; all = f.all; one = f.one }) now.hands)
      (phase_after x.held.lanes past (d ∷ past) os had lanes amounts (λ j. refl) phase) results meets h.2)

  pub rise_step : (i : ℕ) (ds : List Done) → Goes ds → Goes (Some (event.Rise i, answer.Done) ∷ ds)
  rise_step i ds go x past last os spent kept late had lanes amounts rounds now phase results meets h =
      let d : Done = Some (event.Rise i, answer.Done) in
      let y : DeskState N = record { table = h.0; held = x.held } in
      let close : i < length x.held.lanes = omega (arith, near (event.Rise i) answer.Done x.table now.rule h.0 h.1, now.long) in
      let empty : kept i ≡ 0 = let f = now.fits i in none_kept (spent i) (kept i) (late i) i ds f.all f.one in
      merged_step rates s d x y ds rounds spent (h.1, same_held (event.Rise i) answer.Done x.held close (λ z e. (now.hands i z e empty, refl))) refl (λ es. refl) (λ es. refl) (λ i es. refl)
      (go y (d ∷ past) last os spent kept (λ j. cond (nat_eq i j) 0 (late j)) had lanes amounts rounds
      (next words slots k x past (d ∷ ds) ds (event.Rise i) answer.Done h.0 x.held last last os os spent spent kept kept late (λ j. cond (nat_eq i j) 0 (late j)) now h.1 refl refl (λ j z ne sh. sh)
      (λ p q c sh. shows_still last os i p q state.Free p.posted p.taken c.1 (other_state p.state state.Worker state.Round c.0 (λ e. cc)) (λ e. cc) sh)
      (λ j. let f = now.fits j in record { moves = f.moves; all = f.all; one = f.one }) now.hands)
      (phase_after x.held.lanes past (d ∷ past) os had lanes amounts (λ j. refl) phase) results meets h.2)

  pub missed_step : (i : ℕ) (ds : List Done) → Goes ds → Goes (Some (event.Collect i, answer.Missed) ∷ ds)
  missed_step i ds go x past last os spent kept late had [] amounts rounds now phase results meets h =
      let d : Done = Some (event.Collect i, answer.Missed) in
      let y : DeskState N = record { table = h.0; held = x.held } in
      let close : i < length x.held.lanes = omega (arith, near (event.Collect i) answer.Missed x.table now.rule h.0 h.1, now.long) in
      merged_step rates s d x y ds rounds spent (h.1, same_held (event.Collect i) answer.Missed x.held close (λ z e. refl), none_decided x.held.lanes phase.2) refl (λ es. refl) (λ es. refl) (λ i es. refl)
      (go y (d ∷ past) last os spent kept late had [] amounts rounds
      (next words slots k x past (d ∷ ds) ds (event.Collect i) answer.Missed h.0 x.held last last os os spent spent kept kept late late now h.1 refl refl (λ j z ne sh. sh)
      (λ p q c sh. subst (Shows last os i) (sym c.1) sh)
      (λ j. let f = now.fits j in record { moves = f.moves; all = f.all; one = f.one }) now.hands)
      phase results meets h.2)
  missed_step i ds go x past last os spent kept late had (l ∷ ls) amounts rounds now phase results meets h =
      let c = h.1 in absurd (not_answering words slots k x past (Some (event.Collect i, answer.Missed) ∷ ds) last os spent kept late now c.0 i c.1 c.2 c.4 had l ls amounts phase)

  -- the ask that a try finds is the lane's last
  found_ask : (t u : Table N) (r : Kept t) (i : ℕ) → TableStep (event.Collect i) answer.Got t u → (a : Ask) × ((shown_in r i).ask ≡ Some a)
  found_ask t u r i c = let g = collect_is t r c.0 i c.1 c.3 c.4 in (g.0, g.2.1.0.0)

  pub got_step : (i : ℕ) (ds : List Done) → Goes ds → Goes (Some (event.Collect i, answer.Got) ∷ ds)
  got_step i ds go x past last os spent kept late had [] amounts rounds now phase results meets h =
      let d : Done = Some (event.Collect i, answer.Got) in
      let y : DeskState N = record { table = h.0; held = x.held } in
      let around : i < length x.table.homes = near (event.Collect i) answer.Got x.table now.rule h.0 h.1 in
      let close : i < length x.held.lanes = omega (arith, around, now.long) in
      let got = found_ask x.table h.0 now.rule i h.1 in
      let a : Ask = got.0 in
      let is : last i ≡ Some a = sym (now.shows i around).0 ∙ got.1 in
      let within : i < length os = omega (arith, around, now.wide) in
      let st = Rattle.round_events.proofs.TableSteps.stepped (event.Collect i) answer.Got x.table now.rule h.0 h.1 in
      let free : get_or os i None ≡ None = none_is_due (get_or os i None) (shown_in now.rule i) (now.shows i around).1 (other_state (shown_in now.rule i).state state.Asked state.Round st.0.1.0.0 (λ e. cc)) in
      let os' : List (Option Ask) = set os i (Some a) in
      merged_step rates s d x y ds rounds spent (h.1, same_held (event.Collect i) answer.Got x.held close (λ z e. refl), none_decided x.held.lanes phase.2) refl (λ es. refl) (λ es. refl) (λ i es. refl)
      (go y (d ∷ past) last os' spent kept late (had ++ (i, a) ∷ []) [] amounts rounds
      (next words slots k x past (d ∷ ds) ds (event.Collect i) answer.Got h.0 x.held last last os os' spent spent kept kept late late now h.1 refl (length-set os i (Some a)) (λ j z ne sh. shows_else last os i (Some a) j z ne sh)
      (λ p q c sh. subst (Shows last os' i) (sym c.1) (sh.0, subst (λ (o : Option Ask). IsDueOn o (shown state.Round p.ask p.posted p.taken)) (sym (get_or-set_same os i (Some a) None within)) (inl (refl, sym is ∙ sym sh.0, (a, sh.0 ∙ is)))))
      (λ j. let f = now.fits j in record { moves = f.moves; all = f.all; one = f.one }) now.hands)
      (phase.0, found_more had os i a phase.1 within free, phase.2) results
      (ap (λ (xs : List RoundStep). xs ++ (round_steps last ds ++ map answer_of left)) (map-append find_of had ((i, a) ∷ [])) ∙ append_assoc (map find_of had) (finds i (Some a) ∷ []) (round_steps last ds ++ map answer_of left)
      ∙ ap (λ (o : Option Ask). map find_of had ++ (finds i o ∷ (round_steps last ds ++ map answer_of left))) (sym is) ∙ meets) h.2)
  got_step i ds go x past last os spent kept late had (l ∷ ls) amounts rounds now phase results meets h =
      let c = h.1 in absurd (not_answering words slots k x past (Some (event.Collect i, answer.Got) ∷ ds) last os spent kept late now c.0 i c.1 c.3 c.6 had l ls amounts phase)
