-- The octets that the workers of a desk moved of the grants that they took.
use Rattle.std.specs.Prelude.{ℕ, ◌+◌, ◌<◌, ◌≤◌, nat_eq, if◌then◌else◌, List, [], ◌∷◌, length, slice_index, Some}
use Rattle.world_terms.specs.declared.event.Event.TheVariants as event
use Rattle.world_terms.specs.declared.event.EventAnswer.TheVariants as answer
use Rattle.desk_rule.specs.Steps.{Done}

-- the amounts taken on lane i by these steps, the oldest first
abbrev pub taken_on : ℕ → List Done → List ℕ
taken_on i [] = []
taken_on i (Some (event.Taken j, answer.Taken n) ∷ ds) =
    if nat_eq j i then n ∷ taken_on i ds else taken_on i ds
taken_on i (d ∷ ds) = taken_on i ds

-- 1 if the worker of lane i took a grant and has neither asked nor risen since, otherwise 0; n if
-- these steps have none of the three
abbrev pub in_hand : ℕ → ℕ → List Done → ℕ
in_hand i n [] = n
in_hand i n (Some (event.Taken j, answer.Taken m) ∷ ds) =
    in_hand i (if nat_eq j i then 1 else n) ds
in_hand i n (Some (event.Asked j b, a) ∷ ds) = in_hand i (if nat_eq j i then 0 else n) ds
in_hand i n (Some (event.Rise j, a) ∷ ds) = in_hand i (if nat_eq j i then 0 else n) ds
in_hand i n (d ∷ ds) = in_hand i n ds

-- the octets moved of the first of these amounts, of each at most the amount
pub record AreMovedOf (taken moved : List ℕ) : Type 0 where
  pub many : length moved ≤ length taken
  pub each : (k : ℕ) → k < length moved → slice_index moved k ≤ slice_index taken k

-- For each lane, the octets moved of each grant taken, the oldest first. Each grant was spent, but
-- for the one that is in hand at the end, of which none may have been moved yet.
pub record SpendsFit (spent : ℕ → List ℕ) (ds : List Done) : Type 0 where
  pub moved : (i : ℕ) → AreMovedOf (taken_on i ds) (spent i)
  pub all : (i : ℕ) → length (taken_on i ds) ≤ length (spent i) + in_hand i 0 ds
