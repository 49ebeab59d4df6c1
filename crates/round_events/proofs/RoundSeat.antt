-- The round's seat is the first, in each list of the table's steps.
use Rattle.std.proofs.Common.{◌≡◌, ℕ, inl, inr, List, [], ◌∷◌, length, set, sym, refl, ap, ◌∙◌, subst, Some, None}
use mathlib.Core.Logic.{dite}
use mathlib.Core.Option.{some, some-injective}
use native.Mathlib.Decide.{ℕ_discrete}
use lib.ListN.{get_elem?}
use Rattle.atomic_table.specs.Table.{State, opening}
use Rattle.atomic_table.proofs.Lists.{at_longer, set_else, set_here}
use Rattle.world_terms.specs.declared.event.Event.TheVariants as event
use Rattle.world_terms.specs.declared.event.EventAnswer.TheVariants as answer
use Rattle.desk_rule.specs.declared.view.DeskView.{DeskView}
use Rattle.desk_rule.specs.declared.view.DeskView.TheVariants.{Lane, Round, Spent}
use Rattle.desk_rule.specs.declared.view.LaneSlot.{LaneSlot}
use Rattle.desk_rule.specs.declared.view.LaneView.{LaneView}
use Rattle.desk_rule.specs.declared.view.RoundView.{RoundView}
use Rattle.desk_rule.specs.declared.view.TraceView.{TraceView}
use Rattle.desk_rule.specs.Lanes.{dealer_after, dealt_to, first_round, taken_in, with_answer, with_lane, with_trace}
use Rattle.desk_rule.specs.Steps.{Done, StepOn, TableRuns}
use Rattle.desk_rule.proofs.Keeps.{at_length}

-- the first seat is the round's
abbrev pub HasRound : List DeskView → Type 0
HasRound vs = (v : RoundView) × (get_elem? vs 0 ≡ some (Round v))

-- if one view was the round's, so is the other
abbrev KeepsRound : DeskView → DeskView → Type 0
KeepsRound v u = (w : RoundView) → v ≡ Round w → (w' : RoundView) × (u ≡ Round w')

lane_keeps : (i : ℕ) (x : LaneView) (v : DeskView) → KeepsRound v (with_lane i x v)
lane_keeps i x Spent w e = absurd (cc)
lane_keeps i x (Lane k y) w e = absurd (cc)
lane_keeps i x (Round sh) w e = (_, refl)

trace_keeps : (i : ℕ) (t : TraceView) (v : DeskView) → KeepsRound v (with_trace i t v)
trace_keeps i t Spent w e = absurd (cc)
trace_keeps i t (Lane k y) w e = absurd (cc)
trace_keeps i t (Round sh) w e = (_, refl)

answer_keeps : (i : ℕ) (t : TraceView) (v : DeskView) → KeepsRound v (with_answer i t v)
answer_keeps i t Spent w e = absurd (cc)
answer_keeps i t (Lane k y) w e = absurd (cc)
answer_keeps i t (Round sh) w e = (_, refl)

seat_set : (vs : List DeskView) (id : ℕ) (v u : DeskView) → get_elem? vs id ≡ some v → KeepsRound v u → HasRound vs → HasRound (set vs id u)
seat_set vs id v u at keeps r = dite (ℕ_discrete 0 id)
    (λ same.
    let now : v ≡ Round r.0 = some-injective _ _ (sym at ∙ subst (λ (n : ℕ). get_elem? vs n ≡ some (Round r.0)) same r.1) in
    let k = keeps r.0 now in
    (k.0, subst (λ (n : ℕ). get_elem? (set vs id u) n ≡ some (Round k.0)) (sym same) (set_here vs id u (at_length vs id v at) ∙ ap some k.1)))
    (λ ne. (r.0, set_else vs id 0 u ne ∙ r.1))

module _ {N : Type 0} where
  step : (d : Done) (s t : State (LaneSlot N) DeskView) → HasRound s.views → StepOn d s t → HasRound t.views
  step None s t r (inl c) = subst (λ (u : State (LaneSlot N) DeskView). HasRound u.views) (sym c.5) (seat_set s.views c.0 c.2 _ c.3.0 (lane_keeps c.1 _ c.2) r)
  step None s t r (inr (inl c)) =
      let k = seat_set s.views c.0 (Round c.1) (dealer_after (Round c.1)) c.2 (λ w e. (_, refl)) r in
      subst (λ (u : State (LaneSlot N) DeskView). HasRound u.views) (sym c.4) (k.0, at_longer (set s.views c.0 (dealer_after (Round c.1))) (dealt_to (Round c.1) ∷ []) 0 (Round k.0) k.1)
  step None s t r (inr (inr c)) =
      let vs : List DeskView = set s.views c.0 (taken_in (Round c.1) (Lane (length c.1.back) c.3)) in
      let k : HasRound vs = seat_set s.views c.0 (Round c.1) (taken_in (Round c.1) (Lane (length c.1.back) c.3)) c.4 (λ w e. (_, refl)) r in
      let at : get_elem? vs c.2 ≡ some (Lane (length c.1.back) c.3) = set_else s.views c.0 c.2 (taken_in (Round c.1) (Lane (length c.1.back) c.3)) c.5 ∙ c.6 in
      subst (λ (u : State (LaneSlot N) DeskView). HasRound u.views) (sym c.7) (seat_set vs c.2 (Lane (length c.1.back) c.3) Spent at (λ w e. absurd (cc)) k)
  step (Some (event.Sit i, answer.Done)) s t r c = subst (λ (u : State (LaneSlot N) DeskView). HasRound u.views) (sym c.4) (seat_set s.views c.0 c.1 _ c.2.0 (lane_keeps i _ c.1) r)
  step (Some (event.Asked i a, answer.Done)) s t r c = subst (λ (u : State (LaneSlot N) DeskView). HasRound u.views) (sym c.4) (seat_set s.views c.0 c.1 _ c.2.0 (lane_keeps i _ c.1) r)
  step (Some (event.Collect i, answer.Got)) s t r c = subst (λ (u : State (LaneSlot N) DeskView). HasRound u.views) (sym c.7) (seat_set s.views c.0 c.1 _ c.3.0 (trace_keeps i _ c.1) r)
  step (Some (event.Collect i, answer.Missed)) s t r c = subst (λ (u : State (LaneSlot N) DeskView). HasRound u.views) (sym c.5) (seat_set s.views c.0 c.1 _ c.2.0 (trace_keeps i _ c.1) r)
  step (Some (event.Post i, answer.Posted n)) s t r c = subst (λ (u : State (LaneSlot N) DeskView). HasRound u.views) (sym c.8) (seat_set s.views c.0 c.1 _ c.3.0 (answer_keeps i _ c.1) r)
  step (Some (event.Taken i, answer.Taken n)) s t r c = subst (λ (u : State (LaneSlot N) DeskView). HasRound u.views) (sym c.7) (seat_set s.views c.0 c.1 _ c.3.0 (lane_keeps i _ c.1) r)
  step (Some (event.Rise i, answer.Done)) s t r c = subst (λ (u : State (LaneSlot N) DeskView). HasRound u.views) (sym c.4) (seat_set s.views c.0 c.1 _ c.2.0 (lane_keeps i _ c.1) r)
  step (Some (e, a)) s t r c = absurd c

  pub has_round : (words : List ℕ) (slots : List (LaneSlot N)) (k : ℕ) (past : List Done) (s : State (LaneSlot N) DeskView) → TableRuns (opening words slots (Round (first_round k))) past s → HasRound s.views
  has_round words slots k [] s h = subst (λ (u : State (LaneSlot N) DeskView). HasRound u.views) (sym h) (first_round k, refl)
  has_round words slots k (d ∷ past) s h = step d h.0 s (has_round words slots k past h.0 h.1) h.2
