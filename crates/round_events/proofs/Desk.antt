-- Runs of the desk are runs of the core: exchanges on the table.
use Rattle.std.proofs.Common.{◌≡◌, ◌≢◌, ℕ, zero, suc, ◌+◌, ◌≤◌, List, [], ◌∷◌, length, get_or, set, sym, refl, ap, ◌∙◌, subst, arith, Some, None, slice_get}
use mathlib.Core.Logic.{dite}
use mathlib.Core.Option.{none, some}
use native.Mathlib.Decide.{ℕ_discrete}
use lib.ListN.{get_elem?}
use Rattle.std.proofs.lemmas.List.{length-set}
use Rattle.std.proofs.lemmas.List.Elements.{All-cons, All-head, All-nil, All-tail}
use Rattle.atomic_table.specs.Table.{State}
use Rattle.grant_ledger.specs.Books.{GrantView}
use Rattle.line_rates.specs.declared.ask.Ask.{Ask}
use Rattle.world_terms.specs.declared.event.Event.{Event}
use Rattle.world_terms.specs.declared.event.Event.TheVariants as event
use Rattle.world_terms.specs.declared.event.EventAnswer.{EventAnswer}
use Rattle.world_terms.specs.declared.event.EventAnswer.TheVariants as answer
use Rattle.world_terms.specs.Decisions.{AllPosted, IsPosted}
use Rattle.world_terms.specs.Lanes.{Hidden, Lane, Shown, World}
use Rattle.world_terms.specs.Shown.{ShownStep}
use Rattle.world_terms.specs.Steps.{HiddenStep, IsChange, lane_of}
use Rattle.desk_rule.specs.declared.view.DeskView.{DeskView}
use Rattle.desk_rule.specs.declared.view.LaneSlot.{LaneSlot}
use Rattle.desk_rule.specs.declared.view.LaneSlot.TheVariants.{Blank, WithAsk, WithGrant}
use Rattle.desk_rule.specs.Events.{HasLane, HasTraces, after}
use Rattle.desk_rule.specs.Lanes.{Kept, has_collected, has_posted, has_taken, lane_in, trace_in, with_answer, with_lane, with_trace}
use Rattle.desk_rule.specs.Shown.{Changes, StepsTo, shown_in}
use Rattle.desk_rule.proofs.Events.{sit_is, ask_is, collect_is, miss_is, post_is, take_is, look_is, rise_is}
use Rattle.desk_rule.specs.Steps.{LookStep, TableStep}
use Rattle.round_events.specs.Desk.{HoldStep, Holdings, NoneDecided, held_lanes, lanes_by, world_of}

pub lanes_same : (f g : ℕ → Shown) (k : ℕ) (xs : List Hidden) → ((j : ℕ) → k ≤ j → g j ≡ f j) → lanes_by g k xs ≡ lanes_by f k xs
lanes_same f g k [] h = refl
lanes_same f g k (x ∷ xs) h = λ q. record { shown = h k (omega arith) q; hidden = x } ∷ lanes_same f g (suc k) xs (λ j less. h j (omega arith)) q

-- one lane changes
lanes_set : (f g : ℕ → Shown) (k : ℕ) (xs : List Hidden) (i : ℕ) (x y : Hidden) → slice_get xs i ≡ Some x → ((j : ℕ) → j ≢ k + i → g j ≡ f j) → lanes_by g k (set xs i y) ≡ set (lanes_by f k xs) i (record { shown = g (k + i); hidden = y })
lanes_set f g k [] i x y e h = absurd (cc)
lanes_set f g k (z ∷ xs) zero x y e h =
    let at : k ≡ k + 0 = omega arith in
    λ q. record { shown = g (at q); hidden = y } ∷ lanes_same f g (suc k) xs (λ j less. h j (λ same. omega arith)) q
lanes_set f g k (z ∷ xs) (suc i) x y e h =
    let at : suc k + i ≡ k + suc i = omega arith in
    (λ q. record { shown = h k (λ same. omega arith) q; hidden = z } ∷ lanes_set f g (suc k) xs i x y e (λ j ne. h j (λ same. ne (same ∙ sym at))) q)
    ∙ ap (λ (n : ℕ). record { shown = f k; hidden = z } ∷ set (lanes_by f (suc k) xs) i (record { shown = g n; hidden = y })) at

pub lane_at : (f : ℕ → Shown) (k : ℕ) (xs : List Hidden) (i : ℕ) (x : Hidden) → slice_get xs i ≡ Some x → slice_get (lanes_by f k xs) i ≡ Some (record { shown = f (k + i); hidden = x })
lane_at f k [] i x e = absurd (cc)
lane_at f k (z ∷ xs) zero x e = let same : z ≡ x = cc in let at : k ≡ k + 0 = omega arith in λ q. Some (record { shown = f (at q); hidden = same q })
lane_at f k (z ∷ xs) (suc i) x e = let at : suc k + i ≡ k + suc i = omega arith in lane_at f (suc k) xs i x e ∙ ap (λ (n : ℕ). Some (record { shown = f n; hidden = x })) at

pub all_decided : (f : ℕ → Shown) (k : ℕ) (xs : List Hidden) → NoneDecided xs → AllPosted (lanes_by f k xs)
all_decided f k [] h = All-nil IsPosted
all_decided f k (x ∷ xs) h = All-cons IsPosted (record { shown = f k; hidden = x }) (lanes_by f (suc k) xs) (All-head (λ (y : Hidden). y.decided ≡ None) x xs h) (all_decided f (suc k) xs (All-tail (λ (y : Hidden). y.decided ≡ None) x xs h))

module _ {N : Type 0} where
  -- the rule after a step, and what the step is in the world
  abbrev pub Leads : {s : State (LaneSlot N) DeskView} → Kept s → Holdings → State (LaneSlot N) DeskView → Holdings → (World → World → Type 0) → Type 0
  Leads r h t h' P = (r' : Kept t) × (length h'.lanes ≡ length t.homes) × P (world_of r h) (world_of r' h')

  change_of : {s t : State (LaneSlot N) DeskView} (r : Kept s) (r' : Kept t) (h h' : Holdings) (i : ℕ) (e : Event) (a : EventAnswer) (x y : Hidden)
      → Changes r r' i (ShownStep e a) → slice_get h.lanes i ≡ Some x → HiddenStep e a x y → h' ≡ held_lanes (set h.lanes i y) h → IsChange (world_of r h) i e a (world_of r' h')
  change_of r r' h h' i e a x y c there step rest =
      let at : 0 + i ≡ i = omega arith in
      record {
        before = record { shown = shown_in r i; hidden = x };
        after = record { shown = shown_in r' i; hidden = y };
        there = lane_at (shown_in r) 0 h.lanes i x there ∙ ap (λ (n : ℕ). Some (record { shown = shown_in r n; hidden = x })) at;
        step = (c.0, step);
        rest = ap (world_of r') rest ∙ ap (λ (ls : List Lane). record { lanes = ls; last_tick = h.last_tick; issued = h.issued })
            (lanes_set (shown_in r) (shown_in r') 0 h.lanes i x y there (λ j ne. c.1 j (λ same. ne (same ∙ sym at)))
            ∙ ap (λ (n : ℕ). set (lanes_by (shown_in r) 0 h.lanes) i (record { shown = shown_in r' n; hidden = y })) at);
      }

  -- an exchange of lane i, from the law of its kind
  exchange : {s : State (LaneSlot N) DeskView} (r : Kept s) (t t' : State (LaneSlot N) DeskView) (h h' : Holdings) (i : ℕ) (e : Event) (a : EventAnswer) (x y : Hidden)
      → t ≡ t' → length t'.homes ≡ length s.homes → length h.lanes ≡ length s.homes → StepsTo r t' i (ShownStep e a) → slice_get h.lanes i ≡ Some x → HiddenStep e a x y → h' ≡ held_lanes (set h.lanes i y) h
      → Leads r h t h' (λ w w'. IsChange w i e a w')
  exchange r t t' h h' i e a x y same homes long c there step rest =
      subst (λ (u : State (LaneSlot N) DeskView). Leads r h u h' (λ w w'. IsChange w i e a w')) (sym same) (
        c.0,
        ap (λ (k : Holdings). length k.lanes) rest ∙ length-set h.lanes i y ∙ long ∙ sym homes,
        change_of r c.0 h h' i e a x y c.1 there step rest,
      )

  same_ask : {o : mathlib.Core.Option.Option (mathlib.Core.Option.Option (LaneSlot N))} (a b : Ask) → o ≡ some (some (WithAsk a)) → o ≡ some (some (WithAsk b)) → a ≡ b
  same_ask a b e f = cc

  same_grant : {o : mathlib.Core.Option.Option (mathlib.Core.Option.Option (LaneSlot N))} (g k : GrantView) → o ≡ some (some (WithGrant g)) → o ≡ some (some (WithGrant k)) → g ≡ k
  same_grant g k e f = cc

  -- collecting the ask that is in the slot
  pub collected_step : (s : State (LaneSlot N) DeskView) (r : Kept s) (id i : ℕ) (v : DeskView) (a : Ask) → HasTraces s id i v → get_or s.words i 0 ≡ 2 → get_elem? s.homes i ≡ some (some (WithAsk a))
      → StepsTo r (after s i 3 none id (with_trace i (has_collected a (trace_in i v)) v)) i (ShownStep (event.Collect i) answer.Got)
  collected_step s r id i v a at hit slot =
      let c = collect_is s r id i v at hit in
      subst (λ (b : Ask). StepsTo r (after s i 3 none id (with_trace i (has_collected b (trace_in i v)) v)) i (ShownStep (event.Collect i) answer.Got)) (same_ask c.0 a c.1 slot) (c.2.0, (c.2.1.0.1, c.2.1.1))

  -- taking the grant that is in the slot
  pub taken_step : (s : State (LaneSlot N) DeskView) (r : Kept s) (id i : ℕ) (v : DeskView) (g : GrantView) → HasLane s id i v → get_or s.words i 0 ≡ 4 → get_elem? s.homes i ≡ some (some (WithGrant g))
      → StepsTo r (after s i 1 none id (with_lane i (has_taken g.octets (lane_in i v)) v)) i (ShownStep (event.Taken i) (answer.Taken g.octets))
  taken_step s r id i v g at hit slot =
      let c = take_is s r id i v at hit in
      subst (λ (k : GrantView). StepsTo r (after s i 1 none id (with_lane i (has_taken k.octets (lane_in i v)) v)) i (ShownStep (event.Taken i) (answer.Taken k.octets))) (same_grant c.0 g c.1 slot) c.3

  -- an exchange on the table is the core's change of its lane
  pub exchanged : (e : Event) (a : EventAnswer) {s : State (LaneSlot N) DeskView} (r : Kept s) (t : State (LaneSlot N) DeskView) (h h' : Holdings) → length h.lanes ≡ length s.homes → TableStep e a s t → HoldStep e a h h'
      → Leads r h t h' (λ w w'. IsChange w (lane_of e) e a w')
  exchanged (event.Sit i) answer.Done {s} r t h h' long c k =
      exchange r t _ h h' i (event.Sit i) answer.Done k.before k.after c.4 (length-set s.homes i none) long (sit_is s r c.0 i c.1 c.2 c.3) k.there k.step k.rest
  exchanged (event.Asked i a) answer.Done {s} r t h h' long c k =
      exchange r t _ h h' i (event.Asked i a) answer.Done k.before k.after c.4 (length-set s.homes i (some (WithAsk a))) long (ask_is s r c.0 i c.1 a c.2 c.3) k.there k.step k.rest
  exchanged (event.Collect i) answer.Got {s} r t h h' long c k =
      exchange r t _ h h' i (event.Collect i) answer.Got k.before k.after c.7 (length-set s.homes i none) long (collected_step s r c.0 i c.1 c.2 c.3 c.4 c.5) k.there k.step k.rest
  exchanged (event.Collect i) answer.Missed {s} r t h h' long c k =
      exchange r t _ h h' i (event.Collect i) answer.Missed k.before k.after c.5 refl long (miss_is s r c.0 i c.1 c.2 c.3) k.there k.step k.rest
  exchanged (event.Post i) (answer.Posted n) {s} r t h h' long c k =
      exchange r t _ h h' i (event.Post i) (answer.Posted n) k.before k.after c.8 (length-set s.homes i (some (WithGrant c.2))) long
      (subst (λ (m : ℕ). StepsTo r (after s i 4 (some (WithGrant c.2)) c.0 (with_answer i (has_posted c.2.octets (trace_in i c.1)) c.1)) i (ShownStep (event.Post i) (answer.Posted m))) c.7 (post_is s r c.0 i c.1 c.2 c.3 c.4 c.5 c.6)) k.there k.step k.rest
  exchanged (event.Taken i) (answer.Taken n) {s} r t h h' long c k =
      exchange r t _ h h' i (event.Taken i) (answer.Taken n) k.before k.after c.7 (length-set s.homes i none) long
      (subst (λ (m : ℕ). StepsTo r (after s i 1 none c.0 (with_lane i (has_taken c.2.octets (lane_in i c.1)) c.1)) i (ShownStep (event.Taken i) (answer.Taken m))) c.6 (taken_step s r c.0 i c.1 c.2 c.3 c.4 c.5)) k.there k.step k.rest
  exchanged (event.Rise i) answer.Done {s} r t h h' long c k =
      exchange r t _ h h' i (event.Rise i) answer.Done k.before k.after c.4 (length-set s.homes i (some Blank)) long (rise_is s r c.0 i c.1 c.2 c.3) k.there k.step k.rest
  exchanged e a r t h h' long c k = absurd c

  -- what a worker does with its grant is no step on the table
  pub spent : {s : State (LaneSlot N) DeskView} (r : Kept s) (t : State (LaneSlot N) DeskView) (h h' : Holdings) (i n : ℕ) (a : EventAnswer) → length h.lanes ≡ length s.homes → t ≡ s → HoldStep (event.Moved i n) a h h' → ShownStep (event.Moved i n) a (shown_in r i) (shown_in r i)
      → Leads r h t h' (λ w w'. IsChange w i (event.Moved i n) a w')
  spent {s} r t h h' i n a long same k shows = exchange r t s h h' i (event.Moved i n) a k.before k.after same refl long (r, (shows, λ j ne. refl)) k.there k.step k.rest

  -- a look changes nothing
  pub looked : {s : State (LaneSlot N) DeskView} (r : Kept s) (t : State (LaneSlot N) DeskView) (h h' : Holdings) → length h.lanes ≡ length s.homes → LookStep s t → h' ≡ h → Leads r h t h' (λ w w'. w' ≡ w)
  looked {s} r t h h' long c same =
      let l = look_is s r c.0 c.1 c.2 c.3 c.4 in
      subst (λ (z : State (LaneSlot N) DeskView × Holdings). Leads r h z.0 z.1 (λ w w'. w' ≡ w)) (λ q. (sym c.5 q, sym same q)) (
        l.0,
        long,
        ap (λ (ls : List Lane). record { lanes = ls; last_tick = h.last_tick; issued = h.issued }) (lanes_same (shown_in r) (shown_in l.0) 0 h.lanes (λ j less. dite (ℕ_discrete j c.1) (λ e. subst (λ (n : ℕ). shown_in l.0 n ≡ shown_in r n) (sym e) l.1.0) (λ ne. l.1.1 j ne))),
      )
