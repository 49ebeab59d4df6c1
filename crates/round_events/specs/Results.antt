-- The results of rounds, and their steps among those of the desk's table.
use Rattle.std.specs.Prelude.{◌≡◌, ◌≢◌, ℕ, ◌+◌, ◌/◌, ◌≤◌, nat_eq, if◌then◌else◌, List, [], ◌∷◌, ◌++◌, flat_map, map, sum, zip, Option, Some, None, ⊤}
use Rattle.grant_ledger.specs.declared.ledger.TheConstants.{MAX_ISSUED}
use Rattle.limit_tree.specs.Sharing.{LimitTree}
use Rattle.line_rates.specs.declared.ask.Ask.{Ask}
use Rattle.line_rates.specs.Rates.{Rates}
use Rattle.line_rates.specs.TickTree.{Asker}
use Rattle.share_world.specs.Shares.{IsFairPlan}
use Rattle.world_terms.specs.declared.event.Event.TheVariants as event
use Rattle.world_terms.specs.declared.event.EventAnswer.TheVariants as answer
use Rattle.world_terms.specs.Decisions.{IsLater}
use Rattle.desk_rule.specs.Steps.{Done}
use Rattle.round_events.specs.Rounds.{AreSmall}

-- a decision at a moment in milliseconds: a tree, and for each of its leaves the lane and the grant
pub record RoundDecision : Type 0 where
  pub moment : ℕ
  pub tree : LimitTree
  pub lanes : List ℕ
  pub grants : List ℕ

-- A round: the asks that it found, in the order of its tries, and its decision. A refused round has
-- none, nor has an ask that is turned away at the end of the desk.
pub record RoundResult : Type 0 where
  pub found : List Asker
  pub decision : Option RoundDecision

-- a step of a round on the table: an ask found on a lane, or an amount that answers one
pub data RoundStep : Type 0 where
  finds : ℕ → Option Ask → RoundStep
  answers : ℕ → ℕ → RoundStep

-- the last ask of each lane, after an ask on lane i
abbrev pub with_ask : ℕ → Ask → (ℕ → Option Ask) → ℕ → Option Ask
with_ask i a last j = if nat_eq i j then Some a else last j

-- the steps of rounds among these of the desk, the oldest first, if the lanes had these last asks
abbrev pub round_steps : (ℕ → Option Ask) → List Done → List RoundStep
round_steps last [] = []
round_steps last (Some (event.Asked i a, answer.Done) ∷ ds) = round_steps (with_ask i a last) ds
round_steps last (Some (event.Collect i, answer.Got) ∷ ds) =
    finds i (last i) ∷ round_steps last ds
round_steps last (Some (event.Post i, answer.Posted n) ∷ ds) = answers i n ∷ round_steps last ds
round_steps last (d ∷ ds) = round_steps last ds

abbrev pub find_of : Asker → RoundStep
find_of x = finds x.0 (Some x.1)

-- an answer on a lane, with its amount
abbrev pub answer_of : ℕ × ℕ → RoundStep
answer_of x = answers x.0 x.1

abbrev pub nothing_to : Asker → RoundStep
nothing_to x = answers x.0 0

-- the answers of a round: to each leaf its grant, or 0 to each ask found if it was refused
abbrev pub answers_to : List Asker → Option RoundDecision → List RoundStep
answers_to found None = map nothing_to found
answers_to found (Some d) = map answer_of (zip d.lanes d.grants)

-- a round finds all its asks, and then answers them
abbrev pub steps_of : RoundResult → List RoundStep
steps_of r = map find_of r.found ++ answers_to r.found r.decision

-- the octets that a round issues
abbrev pub issued_by : Option RoundDecision → ℕ
issued_by None = 0
issued_by (Some d) = sum d.grants

abbrev pub total_of : RoundResult → ℕ
total_of r = issued_by r.decision

-- the tick of the last decision after a round, if it was this before
abbrev pub tick_after : Option ℕ → Option RoundDecision → Option ℕ
tick_after last None = last
tick_after last (Some d) = Some (d.moment / 100)

-- A decision for these asks, if this is the tick of the last one and these octets are issued: its
-- grants are fair under the rates of its tick.
pub record IsDecisionFor (rates : ℕ → Rates) (found : List Asker) (last : Option ℕ) (issued : ℕ)
    (d : RoundDecision) : Type 0 where
  pub shares : IsFairPlan (rates (d.moment / 100)) (d.moment / 100) found d.tree d.lanes d.grants
  pub small : AreSmall found
  pub later : IsLater (d.moment / 100) last
  pub room : issued + sum d.grants ≤ MAX_ISSUED

abbrev pub IsResultFor : (ℕ → Rates) → List Asker → Option ℕ → ℕ → Option RoundDecision → Type 0
IsResultFor rates found last issued None = ⊤
IsResultFor rates found last issued (Some d) = IsDecisionFor rates found last issued d

-- the results of rounds, one after another, each of which found an ask
abbrev pub AreResults : (ℕ → Rates) → Option ℕ → ℕ → List RoundResult → Type 0
AreResults rates last issued [] = ⊤
AreResults rates last issued (r ∷ rs) =
    (r.found ≢ []) × IsResultFor rates r.found last issued r.decision
    × AreResults rates (tick_after last r.decision) (issued + total_of r) rs

-- no lane has asked yet
abbrev pub unasked : ℕ → Option Ask
unasked i = None

-- The steps of rounds among these of a desk, the oldest first, are exactly those of rounds with
-- these results, one after another. At the end a round may not have answered all asks that it
-- found (`left`), or not have decided for them (`begun`).
pub record RoundsFit (rates : ℕ → Rates) (rounds : List RoundResult) (ds : List Done) : Type 0 where
  pub results : AreResults rates None 0 rounds
  pub begun : List Asker
  pub left : List (ℕ × ℕ)
  pub steps : round_steps unasked ds ++ map answer_of left
      ≡ flat_map steps_of rounds ++ map find_of begun
