-- What a step on the desk's table does to what is shown, and lists of steps, the oldest first.
use Rattle.std.proofs.Common.{◌≡◌, ℕ, ◌<◌, inl, inr, List, [], ◌∷◌, ◌++◌, length, reverse, sym, refl, subst, arith, length-set}
use mathlib.Core.List.{reverse-cons}
use mathlib.Core.Logic.{dite}
use mathlib.Core.Option.{none, some}
use native.Mathlib.Decide.{ℕ_discrete}
use Rattle.atomic_table.specs.Table.{State}
use Rattle.world_terms.specs.declared.event.Event.{Event}
use Rattle.world_terms.specs.declared.event.Event.TheVariants as event
use Rattle.world_terms.specs.declared.event.EventAnswer.{EventAnswer}
use Rattle.world_terms.specs.declared.event.EventAnswer.TheVariants as answer
use Rattle.world_terms.specs.Shown.{ShownStep}
use Rattle.world_terms.specs.Steps.{lane_of}
use Rattle.desk_rule.specs.declared.view.DeskView.{DeskView}
use Rattle.desk_rule.specs.declared.view.LaneSlot.{LaneSlot}
use Rattle.desk_rule.specs.declared.view.LaneSlot.TheVariants.{Blank, WithAsk, WithGrant}
use Rattle.desk_rule.specs.Events.{HasLane, HasTraces, after}
use Rattle.desk_rule.specs.Lanes.{Kept, dealer_after, dealt_to, has_posted, lane_in, taken_in, trace_in, with_answer, with_lane, with_trace}
use Rattle.desk_rule.specs.Shown.{StepsTo, shown_in}
use Rattle.desk_rule.specs.Steps.{Done, SilentStep, StepOn, TableRuns, TableStep}
use Rattle.desk_rule.proofs.Events.{ask_is, look_is, miss_is, post_is, rise_is, sit_is}
use Rattle.desk_rule.proofs.Keeps.{own, ruled}
use Rattle.round_events.proofs.Desk.{collected_step, taken_step}
use Rattle.round_events.proofs.DeskEnds.{dealt_kept, dealt_shown, joined_kept, joined_shown}

abbrev pub Table : Type 0 → Type 0
Table N = State (LaneSlot N) DeskView

module _ {N : Type 0} where
  -- the rule after a step that is an event, and the change of its lane
  abbrev Stepped : (e : Event) → EventAnswer → {s : Table N} → Kept s → Table N → Type 0
  Stepped e a {s} r t = StepsTo r t (lane_of e) (ShownStep e a) × (length t.homes ≡ length s.homes)

  pub stepped : (e : Event) (a : EventAnswer) (s : Table N) (r : Kept s) (t : Table N) → TableStep e a s t → Stepped e a r t
  stepped (event.Sit i) answer.Done s r t c = subst (Stepped (event.Sit i) answer.Done r) (sym c.4) (sit_is s r c.0 i c.1 c.2 c.3, length-set s.homes i none)
  stepped (event.Asked i a) answer.Done s r t c = subst (Stepped (event.Asked i a) answer.Done r) (sym c.4) (ask_is s r c.0 i c.1 a c.2 c.3, length-set s.homes i (some (WithAsk a)))
  stepped (event.Collect i) answer.Got s r t c = subst (Stepped (event.Collect i) answer.Got r) (sym c.7) (collected_step s r c.0 i c.1 c.2 c.3 c.4 c.5, length-set s.homes i none)
  stepped (event.Collect i) answer.Missed s r t c = subst (Stepped (event.Collect i) answer.Missed r) (sym c.5) (miss_is s r c.0 i c.1 c.2 c.3, refl)
  stepped (event.Post i) (answer.Posted n) s r t c = subst (Stepped (event.Post i) (answer.Posted n) r) (sym c.8) (
    subst (λ (m : ℕ). StepsTo r (after s i 4 (some (WithGrant c.2)) c.0 (with_answer i (has_posted c.2.octets (trace_in i c.1)) c.1)) i (ShownStep (event.Post i) (answer.Posted m))) c.7 (post_is s r c.0 i c.1 c.2 c.3 c.4 c.5 c.6),
    length-set s.homes i (some (WithGrant c.2)),
  )
  stepped (event.Taken i) (answer.Taken n) s r t c = subst (Stepped (event.Taken i) (answer.Taken n) r) (sym c.7) (
    subst (λ (m : ℕ). StepsTo r (after s i 1 none c.0 (with_lane i (Rattle.desk_rule.specs.Lanes.has_taken c.2.octets (lane_in i c.1)) c.1)) i (ShownStep (event.Taken i) (answer.Taken m))) c.6 (taken_step s r c.0 i c.1 c.2 c.3 c.4 c.5),
    length-set s.homes i none,
  )
  stepped (event.Rise i) answer.Done s r t c = subst (Stepped (event.Rise i) answer.Done r) (sym c.4) (rise_is s r c.0 i c.1 c.2 c.3, length-set s.homes i (some Blank))
  stepped e a s r t c = absurd c

  lane_near : (s : Table N) (r : Kept s) (id i : ℕ) (v : DeskView) → HasLane s id i v → i < length s.homes
  lane_near s r id i v at = let k = own (length s.homes) r.lane r.trace r.owner r.desk r.dealt id i v (r.each_view id v at.0) at.1 in omega (arith, k.2, r.few)

  trace_near : (s : Table N) (r : Kept s) (id i : ℕ) (v : DeskView) → HasTraces s id i v → i < length s.homes
  trace_near s r id i v at = (ruled (length s.homes) r.lane r.trace r.owner r.desk r.dealt id i v (r.each_view id v at.0) at.1).2

  -- the lane of a step is there
  pub near : (e : Event) (a : EventAnswer) (s : Table N) (r : Kept s) (t : Table N) → TableStep e a s t → lane_of e < length s.homes
  near (event.Sit i) answer.Done s r t c = lane_near s r c.0 i c.1 c.2
  near (event.Asked i a) answer.Done s r t c = lane_near s r c.0 i c.1 c.2
  near (event.Collect i) answer.Got s r t c = trace_near s r c.0 i c.1 c.3
  near (event.Collect i) answer.Missed s r t c = trace_near s r c.0 i c.1 c.2
  near (event.Post i) (answer.Posted n) s r t c = trace_near s r c.0 i c.1 c.3
  near (event.Taken i) (answer.Taken n) s r t c = lane_near s r c.0 i c.1 c.3
  near (event.Rise i) answer.Done s r t c = lane_near s r c.0 i c.1 c.2
  near e a s r t c = absurd c

  -- a step that is no event changes nothing that is shown
  abbrev Quiet : {s : Table N} → Kept s → Table N → Type 0
  Quiet {s} r t = (r' : Kept t) × (length t.homes ≡ length s.homes) × ((i : ℕ) → shown_in r' i ≡ shown_in r i)

  pub quiet : (s : Table N) (r : Kept s) (t : Table N) → SilentStep s t → Quiet r t
  quiet s r t (inl c) =
      let l = look_is s r c.0 c.1 c.2 c.3 c.4 in
      subst (Quiet r) (sym c.5) (l.0, refl, λ j. dite (ℕ_discrete j c.1) (λ e. subst (λ (n : ℕ). shown_in l.0 n ≡ shown_in r n) (sym e) l.1.0) (λ ne. l.1.1 j ne))
  quiet s r t (inr (inl c)) = subst (Quiet r) (sym c.4) (dealt_kept s r c.0 c.1 c.2 c.3, refl, dealt_shown s r c.0 c.1 c.2 c.3)
  quiet s r t (inr (inr c)) = subst (Quiet r) (sym c.7) (joined_kept s r c.0 c.1 c.4 c.2 c.3 c.5 c.6, refl, joined_shown s r c.0 c.1 c.4 c.2 c.3 c.5 c.6)

  -- these steps, the oldest first, lead from one table to another
  abbrev pub Onward : Table N → List Done → Table N → Type 0
  Onward s [] t = t ≡ s
  Onward s (d ∷ ds) t = (u : Table N) × StepOn d s u × Onward u ds t

  onward_then : (s u t : Table N) (ds es : List Done) → Onward s ds u → Onward u es t → Onward s (ds ++ es) t
  onward_then s u t [] es h k = subst (λ (x : Table N). Onward x es t) h k
  onward_then s u t (d ∷ ds) es h k = (h.0, h.1, onward_then h.0 u t ds es h.2 k)

  pub onward : (s : Table N) (past : List Done) (t : Table N) → TableRuns s past t → Onward s (reverse past) t
  onward s [] t h = h
  onward s (d ∷ past) t h = subst (λ (ds : List Done). Onward s ds t) (sym (reverse-cons d past)) (onward_then s h.0 t (reverse past) (d ∷ []) (onward s past h.0 h.1) (t, h.2, refl))
