-- Runs of the desk are runs of the core: any list of steps.
use Rattle.std.proofs.Common.{◌≡◌, ℕ, ◌/◌, inl, inr, List, [], ◌∷◌, map, length, sym, refl, ap, ◌∙◌, subst, Some, None, Ok}
use Rattle.atomic_table.specs.Table.{State}
use Rattle.line_rates.specs.Rates.{Rates}
use Rattle.world_terms.specs.declared.event.Event.{Event}
use Rattle.world_terms.specs.declared.event.Event.TheVariants as event
use Rattle.world_terms.specs.declared.event.EventAnswer.{EventAnswer}
use Rattle.world_terms.specs.declared.event.EventAnswer.TheVariants as answer
use Rattle.world_terms.specs.Lanes.{Lane, World}
use Rattle.world_terms.specs.Runs.{IsRun, tick_of}
use Rattle.world_terms.specs.Steps.{Step}
use Rattle.desk_rule.specs.declared.view.DeskView.{DeskView}
use Rattle.desk_rule.specs.declared.view.LaneSlot.{LaneSlot}
use Rattle.desk_rule.specs.Lanes.{Kept}
use Rattle.desk_rule.specs.Shown.{shown_in}
use Rattle.desk_rule.specs.Steps.{SilentStep}
use Rattle.round_events.specs.Desk.{DecideStep, DeskRunsAreRuns, DeskState, DeskStep, Holdings, done_event, done_reply, events_of, grant_on, world_of}
use Rattle.round_events.proofs.Decides.{length-decided}
use Rattle.round_events.proofs.Desk.{Leads, all_decided, exchanged, lanes_same, looked, spent}
use Rattle.round_events.proofs.DeskEnds.{dealt_kept, dealt_shown, joined_kept, joined_shown}
use Rattle.round_events.proofs.DeskDecision.{decided_step}
use Rattle.round_events.proofs.Runs.{run_from, run_none}

abbrev Follows : (ℕ → Rates) → Event → EventAnswer → World → World → Type 0
Follows rates e a w w' = Step (rates (tick_of e)) w e (Ok a) w'

module _ {N : Type 0} where
  decides : (rates : ℕ → Rates) (m tick total : ℕ) (x y : DeskState N) (r : Kept x.table) → length x.held.lanes ≡ length x.table.homes → DecideStep (rates (m / 100)) m tick total x y → Leads r x.held y.table y.held (Follows rates (event.Decide m) (answer.Decided tick total))
  decides rates m tick total x y r long d =
      subst (λ (t : State (LaneSlot N) DeskView). Leads r x.held t y.held (Follows rates (event.Decide m) (answer.Decided tick total))) (sym d.still) (
        r,
        ap (λ (h : Holdings). length h.lanes) d.holds.rest ∙ length-decided (grant_on d.holds.lanes d.holds.grants) 0 x.held.lanes ∙ long,
        decided_step x.table r x.held y.held long d.seat d.view d.there (rates (m / 100)) m tick total d.holds,
      )

  -- a step that is an event
  done_step : (rates : ℕ → Rates) (e : Event) (a : EventAnswer) (x y : DeskState N) (r : Kept x.table) → length x.held.lanes ≡ length x.table.homes → DeskStep rates (Some (e, a)) x y → Leads r x.held y.table y.held (Follows rates e a)
  done_step rates (event.Decide m) (answer.Decided tick total) x y r long d = decides rates m tick total x y r long d
  done_step rates (event.Decide m) a x y r long d = absurd d.0
  done_step rates (event.Moved i n) answer.Done x y r long d = spent r y.table x.held y.held i n answer.Done long d.0 d.1 refl
  done_step rates (event.Moved i n) a x y r long d = absurd d.0
  done_step rates (event.Collect i) a x y r long d =
      let l = exchanged (event.Collect i) a r y.table x.held y.held long d.0 d.1 in
      (l.0, l.1, (all_decided (shown_in r) 0 x.held.lanes d.2, l.2))
  done_step rates (event.Sit i) a x y r long d = exchanged (event.Sit i) a r y.table x.held y.held long d.0 d.1
  done_step rates (event.Asked i b) a x y r long d = exchanged (event.Asked i b) a r y.table x.held y.held long d.0 d.1
  done_step rates (event.Post i) a x y r long d = exchanged (event.Post i) a r y.table x.held y.held long d.0 d.1
  done_step rates (event.Taken i) a x y r long d = exchanged (event.Taken i) a r y.table x.held y.held long d.0 d.1
  done_step rates (event.Rise i) a x y r long d = exchanged (event.Rise i) a r y.table x.held y.held long d.0 d.1

  same_world : (s t : State (LaneSlot N) DeskView) (r : Kept s) (r' : Kept t) (h : Holdings) → ((i : ℕ) → shown_in r' i ≡ shown_in r i) → world_of r' h ≡ world_of r h
  same_world s t r r' h same = ap (λ (ls : List Lane). record { lanes = ls; last_tick = h.last_tick; issued = h.issued }) (lanes_same (shown_in r) (shown_in r') 0 h.lanes (λ j less. same j))

  -- a step that is no event
  silent : (s : State (LaneSlot N) DeskView) (r : Kept s) (t : State (LaneSlot N) DeskView) (h h' : Holdings) → length h.lanes ≡ length s.homes → SilentStep s t → h' ≡ h → Leads r h t h' (λ w w'. w' ≡ w)
  silent s r t h h' long (inl c) same = looked r t h h' long c same
  silent s r t h h' long (inr (inl c)) same =
      let k = dealt_kept s r c.0 c.1 c.2 c.3 in
      subst (λ (z : State (LaneSlot N) DeskView × Holdings). Leads r h z.0 z.1 (λ w w'. w' ≡ w)) (λ q. (sym c.4 q, sym same q)) (k, long, same_world s _ r k h (dealt_shown s r c.0 c.1 c.2 c.3))
  silent s r t h h' long (inr (inr c)) same =
      let k = joined_kept s r c.0 c.1 c.4 c.2 c.3 c.5 c.6 in
      subst (λ (z : State (LaneSlot N) DeskView × Holdings). Leads r h z.0 z.1 (λ w w'. w' ≡ w)) (λ q. (sym c.7 q, sym same q)) (k, long, same_world s _ r k h (joined_shown s r c.0 c.1 c.4 c.2 c.3 c.5 c.6))

  pub desk_runs : DeskRunsAreRuns N
  desk_runs rates x [] z r long h =
      subst (λ (y : DeskState N). (r' : Kept y.table) × (length y.held.lanes ≡ length y.table.homes) × IsRun rates (world_of r x.held) [] [] (world_of r' y.held)) (sym h) (r, long, run_none rates (world_of r x.held))
  desk_runs rates x (None ∷ ds) z r long h =
      let l = silent x.table r h.0.table x.held h.0.held long h.1.0 h.1.1 in
      let rest = desk_runs rates h.0 ds z l.0 l.1 h.2 in
      (rest.0, rest.1, subst (λ (w : World). IsRun rates w (map done_event (events_of ds)) (map done_reply (events_of ds)) (world_of rest.0 z.held)) l.2 rest.2)
  desk_runs rates x (Some (e, a) ∷ ds) z r long h =
      let l = done_step rates e a x h.0 r long h.1 in
      let rest = desk_runs rates h.0 ds z l.0 l.1 h.2 in
      (rest.0, rest.1, run_from rates (world_of r x.held) (world_of l.0 h.0.held) (world_of rest.0 z.held) e (Ok a) (map done_event (events_of ds)) (map done_reply (events_of ds)) l.2 rest.2)
