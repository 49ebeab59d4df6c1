-- The example, step by step.
use Rattle.std.proofs.Common.{◌≡◌, ℕ, zero, suc, ◌+◌, ◌<◌, ◌≤◌, inl, inr, Bool, true, false, cond, nat_eq, List, [], ◌∷◌, length, get_or, refl, sym, subst, arith, Some, None}
use mathlib.Core.Option.{none, some}
use lib.ListN.{get_elem?}
use Rattle.atomic_table.specs.Table.{opening}
use Rattle.grant_ledger.specs.Books.{GrantView}
use Rattle.world_terms.specs.declared.event.Event.TheVariants as event
use Rattle.world_terms.specs.declared.event.EventAnswer.TheVariants as answer
use Rattle.desk_rule.specs.declared.view.DeskView.TheVariants.{Lane, Round}
use Rattle.desk_rule.specs.declared.view.LaneSlot.{LaneSlot}
use Rattle.desk_rule.specs.declared.view.LaneSlot.TheVariants.{Blank, WithAsk, WithGrant}
use Rattle.desk_rule.specs.declared.view.LaneView.{LaneView}
use Rattle.desk_rule.specs.declared.view.TraceView.{TraceView}
use Rattle.desk_rule.specs.Lanes.{Kept, first_round, fresh, has_asked, has_collected, has_posted, has_taken, sat_down, untraced}
use Rattle.desk_rule.specs.Steps.{Done, Ran, TableRuns}
use Rattle.desk_rule.proofs.Keeps.{opens}
use Rattle.round_events.specs.Results.{RoundsFit}
use Rattle.round_events.specs.Spends.{AreMovedOf, SpendsFit}
use Rattle.round_events.specs.TwoLanes.{IsExample, example_ask, example_round, example_spent, example_steps, free_rates}
use Rattle.round_events.proofs.TableSteps.{Table, quiet, stepped}
use Rattle.round_events.proofs.TwoLanesPlan.{example_plan, example_tree}

abbrev grant_on_lane : ℕ → GrantView
grant_on_lane i = record { octets = 5; lane = i; tick = 123 }

module _ {N : Type 0} where
  -- a table of two lanes after its seats are dealt
  abbrev table : ℕ → ℕ → mathlib.Core.Option.Option (LaneSlot N) → mathlib.Core.Option.Option (LaneSlot N) → TraceView → TraceView → Bool → LaneView → LaneView → Table N
  table a b g h t u answering x y = record {
    words = a ∷ b ∷ [];
    homes = g ∷ h ∷ [];
    views = Round record { dealt = 2; traces = t ∷ u ∷ []; back = []; answering = answering } ∷ Lane 0 x ∷ Lane 1 y ∷ [];
  }

  -- the rule holds after each list of steps, if it holds before
  kept_on : (s t : Table N) (past : List Done) → Kept s → TableRuns s past t → Kept t
  kept_on s t [] r h = subst Kept (sym h) r
  kept_on s t (None ∷ past) r h = (quiet h.0 (kept_on s h.0 past r h.1) t h.2).0
  kept_on s t (Some (e, a) ∷ past) r h = (stepped e a h.0 (kept_on s h.0 past r h.1) t h.2).0.0

module _ (N : Type 0) where
  abbrev begin : Table N
  begin = opening (0 ∷ 0 ∷ []) (Blank ∷ Blank ∷ []) (Round (first_round 2))

  abbrev sitting : LaneView
  sitting = sat_down fresh

  abbrev asking : ℕ → LaneView
  asking session = has_asked (example_ask session) sitting

  abbrev has_it : ℕ → LaneView
  has_it session = has_taken 5 (asking session)

  abbrev got_of : ℕ → TraceView
  got_of session = has_collected (example_ask session) untraced

  abbrev gave_to : ℕ → TraceView
  gave_to session = has_posted 5 (got_of session)

  abbrev half_dealt : Table N
  half_dealt = record {
    words = 0 ∷ 0 ∷ [];
    homes = some Blank ∷ some Blank ∷ [];
    views = Round record { dealt = 1; traces = untraced ∷ untraced ∷ []; back = []; answering = false } ∷ Lane 0 fresh ∷ [];
  }

  at_0 : TableRuns begin [] begin
  at_0 = refl

  at_1 : TableRuns begin (None ∷ []) half_dealt
  at_1 = (begin, at_0, inr (inl (0, first_round 2, refl, omega arith, refl)))

  at_2 : TableRuns begin (None ∷ None ∷ []) (table 0 0 (some Blank) (some Blank) untraced untraced false fresh fresh)
  at_2 = (half_dealt, at_1, inr (inl (0, record { dealt = 1; traces = untraced ∷ untraced ∷ []; back = []; answering = false }, refl, omega arith, refl)))

  abbrev past_3 : List Done
  past_3 = Some (event.Sit 0, answer.Done) ∷ None ∷ None ∷ []

  at_3 : TableRuns begin past_3 (table 1 0 none (some Blank) untraced untraced false sitting fresh)
  at_3 = (table 0 0 (some Blank) (some Blank) untraced untraced false fresh fresh, at_2, (1, Lane 0 fresh, (refl, refl), refl, refl))

  abbrev past_4 : List Done
  past_4 = Some (event.Sit 1, answer.Done) ∷ past_3

  at_4 : TableRuns begin past_4 (table 1 1 none none untraced untraced false sitting sitting)
  at_4 = (table 1 0 none (some Blank) untraced untraced false sitting fresh, at_3, (2, Lane 1 fresh, (refl, refl), refl, refl))

  abbrev past_5 : List Done
  past_5 = Some (event.Asked 0 (example_ask 1), answer.Done) ∷ past_4

  at_5 : TableRuns begin past_5 (table 2 1 (some (WithAsk (example_ask 1))) none untraced untraced false (asking 1) sitting)
  at_5 = (table 1 1 none none untraced untraced false sitting sitting, at_4, (1, Lane 0 sitting, (refl, refl), refl, refl))

  abbrev past_6 : List Done
  past_6 = Some (event.Asked 1 (example_ask 2), answer.Done) ∷ past_5

  at_6 : TableRuns begin past_6 (table 2 2 (some (WithAsk (example_ask 1))) (some (WithAsk (example_ask 2))) untraced untraced false (asking 1) (asking 2))
  at_6 = (table 2 1 (some (WithAsk (example_ask 1))) none untraced untraced false (asking 1) sitting, at_5, (2, Lane 1 sitting, (refl, refl), refl, refl))

  abbrev past_7 : List Done
  past_7 = Some (event.Collect 0, answer.Got) ∷ past_6

  at_7 : TableRuns begin past_7 (table 3 2 none (some (WithAsk (example_ask 2))) (got_of 1) untraced false (asking 1) (asking 2))
  at_7 = (
    table 2 2 (some (WithAsk (example_ask 1))) (some (WithAsk (example_ask 2))) untraced untraced false (asking 1) (asking 2),
    at_6,
    (0, Round record { dealt = 2; traces = untraced ∷ untraced ∷ []; back = []; answering = false }, example_ask 1, (refl, omega arith), refl, refl, refl, refl),
  )

  abbrev past_8 : List Done
  past_8 = Some (event.Collect 1, answer.Got) ∷ past_7

  at_8 : TableRuns begin past_8 (table 3 3 none none (got_of 1) (got_of 2) false (asking 1) (asking 2))
  at_8 = (
    table 3 2 none (some (WithAsk (example_ask 2))) (got_of 1) untraced false (asking 1) (asking 2),
    at_7,
    (0, Round record { dealt = 2; traces = got_of 1 ∷ untraced ∷ []; back = []; answering = false }, example_ask 2, (refl, omega arith), refl, refl, refl, refl),
  )

  abbrev past_9 : List Done
  past_9 = Some (event.Post 0, answer.Posted 5) ∷ past_8

  at_9 : TableRuns begin past_9 (table 4 3 (some (WithGrant (grant_on_lane 0))) none (gave_to 1) (got_of 2) true (asking 1) (asking 2))
  at_9 = (
    table 3 3 none none (got_of 1) (got_of 2) false (asking 1) (asking 2),
    at_8,
    (0, Round record { dealt = 2; traces = got_of 1 ∷ got_of 2 ∷ []; back = []; answering = false }, grant_on_lane 0, (refl, omega arith), refl, refl, omega arith, refl, refl),
  )

  abbrev past_10 : List Done
  past_10 = Some (event.Post 1, answer.Posted 5) ∷ past_9

  at_10 : TableRuns begin past_10 (table 4 4 (some (WithGrant (grant_on_lane 0))) (some (WithGrant (grant_on_lane 1))) (gave_to 1) (gave_to 2) false (asking 1) (asking 2))
  at_10 = (
    table 4 3 (some (WithGrant (grant_on_lane 0))) none (gave_to 1) (got_of 2) true (asking 1) (asking 2),
    at_9,
    (0, Round record { dealt = 2; traces = gave_to 1 ∷ got_of 2 ∷ []; back = []; answering = true }, grant_on_lane 1, (refl, omega arith), refl, refl, omega arith, refl, refl),
  )

  abbrev past_11 : List Done
  past_11 = Some (event.Taken 0, answer.Taken 5) ∷ past_10

  at_11 : TableRuns begin past_11 (table 1 4 none (some (WithGrant (grant_on_lane 1))) (gave_to 1) (gave_to 2) false (has_it 1) (asking 2))
  at_11 = (
    table 4 4 (some (WithGrant (grant_on_lane 0))) (some (WithGrant (grant_on_lane 1))) (gave_to 1) (gave_to 2) false (asking 1) (asking 2),
    at_10,
    (1, Lane 0 (asking 1), grant_on_lane 0, (refl, refl), refl, refl, refl, refl),
  )

  abbrev past_12 : List Done
  past_12 = Some (event.Taken 1, answer.Taken 5) ∷ past_11

  abbrev last_table : Table N
  last_table = table 1 1 none none (gave_to 1) (gave_to 2) false (has_it 1) (has_it 2)

  at_12 : TableRuns begin past_12 last_table
  at_12 = (
    table 1 4 none (some (WithGrant (grant_on_lane 1))) (gave_to 1) (gave_to 2) false (has_it 1) (asking 2),
    at_11,
    (2, Lane 1 (asking 2), grant_on_lane 1, (refl, refl), refl, refl, refl, refl),
  )

  zeros : (i : ℕ) → i < 2 → ◌≡◌ {A = ℕ} (get_or (0 ∷ 0 ∷ []) i 0) 0
  zeros zero less = refl
  zeros (suc zero) less = refl
  zeros (suc (suc i)) less = absurd (omega (arith, less))

  blanks : (i : ℕ) → i < 2 → ◌≡◌ {A = mathlib.Core.Option.Option (LaneSlot N)} (get_elem? (Blank ∷ Blank ∷ []) i) (some Blank)
  blanks zero less = refl
  blanks (suc zero) less = refl
  blanks (suc (suc i)) less = absurd (omega (arith, less))

  kept_begin : Kept begin
  kept_begin = (opens (0 ∷ 0 ∷ []) (Blank ∷ Blank ∷ []) 2 refl (omega arith) zeros blanks).kept

  ran : Ran last_table
  ran = record { kept = kept_on begin last_table past_12 kept_begin at_12; words = 0 ∷ 0 ∷ []; slots = Blank ∷ Blank ∷ []; lanes = 2; long = refl; past = past_12; ran = at_12 }

rounds_fit : RoundsFit (λ tick. free_rates) (example_round example_tree ∷ []) example_steps
rounds_fit = record {
  results = ((λ e. cc), record { shares = example_plan 123; small = refl; later = tt; room = omega arith }, tt);
  begun = [];
  left = [];
  steps = refl;
}

moved_of : (a b : Bool) → AreMovedOf (cond a (5 ∷ cond b (5 ∷ []) []) (cond b (5 ∷ []) [])) (cond a (4 ∷ []) [])
moved_of true true = record { many = omega arith; each = λ k less. at k less }
  where
    at : (k : ℕ) → k < 1 → get_or (4 ∷ []) k 0 ≤ get_or (5 ∷ 5 ∷ []) k 0
    at zero less = omega arith
    at (suc k) less = absurd (omega (arith, less))
moved_of true false = record { many = omega arith; each = λ k less. at k less }
  where
    at : (k : ℕ) → k < 1 → get_or (4 ∷ []) k 0 ≤ get_or (5 ∷ []) k 0
    at zero less = omega arith
    at (suc k) less = absurd (omega (arith, less))
moved_of false true = record { many = omega arith; each = λ k less. absurd (omega (arith, less)) }
moved_of false false = record { many = omega arith; each = λ k less. absurd (omega (arith, less)) }

all_of : (a b : Bool) (n : ℕ) → length {A = ℕ} (cond a (5 ∷ cond b (5 ∷ []) []) (cond b (5 ∷ []) [])) ≤ length {A = ℕ} (cond a (4 ∷ []) []) + cond b 1 (cond a 1 n)
all_of true true n = omega arith
all_of true false n = omega arith
all_of false true n = omega arith
all_of false false n = omega arith

spends_fit : SpendsFit example_spent example_steps
spends_fit = record {
  moved = λ i. moved_of (nat_eq 0 i) (nat_eq 1 i);
  all = λ i. all_of (nat_eq 0 i) (nat_eq 1 i) (cond (nat_eq 1 i) 0 (cond (nat_eq 0 i) 0 0));
}

pub example : (N : Type 0) → IsExample N
unfolding ran
example N = record {
  table = last_table N;
  ran = ran N;
  two = refl;
  steps = refl;
  opened = kept_begin N;
  tree = example_tree;
  rounds = rounds_fit;
  spends = spends_fit;
}
