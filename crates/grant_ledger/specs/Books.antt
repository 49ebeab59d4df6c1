-- Books, grants, purses and tallies as contracts see them.
use Rattle.std.specs.Prelude.{◌≢◌, ◌+◌, ◌<◌, ℕ, List, [], ◌∷◌, replicate, slice_set, min, Option, Some, None}
use Rattle.grant_ledger.specs.declared.ledger.TheConstants.{MAX_LANES}

-- the octets issued, the tick of the last entry, for each lane the amount not yet drawn, and the
-- tick of the entry that these amounts are from
pub record BookView : Type 0 where
  pub issued : ℕ
  pub last_tick : Option ℕ
  pub undrawn : List (Option ℕ)
  pub entry_tick : Option ℕ

pub record GrantView : Type 0 where
  pub octets : ℕ
  pub lane : ℕ
  pub tick : ℕ

pub record PurseView : Type 0 where
  pub left : ℕ
  pub tick : ℕ

pub record TallyView : Type 0 where
  pub moved : ℕ
  pub back : ℕ

-- nothing is left to draw
abbrev pub nothing_undrawn : List (Option ℕ)
nothing_undrawn = replicate MAX_LANES None

-- the amounts of an entry, each at its lane
abbrev pub by_lane : List ℕ → List ℕ → List (Option ℕ)
by_lane [] grants = nothing_undrawn
by_lane (lane ∷ lanes) [] = nothing_undrawn
by_lane (lane ∷ lanes) (grant ∷ grants) = slice_set (by_lane lanes grants) lane (Some grant)

-- the list does not contain the lane
abbrev pub NamesNot : ℕ → List ℕ → Type 0
NamesNot lane [] = Unit {0}
NamesNot lane (other ∷ lanes) = (lane ≢ other) × NamesNot lane lanes

-- the lanes are below `MAX_LANES`, and none occurs twice
abbrev pub AreLanes : List ℕ → Type 0
AreLanes [] = Unit {0}
AreLanes (lane ∷ lanes) = (lane < MAX_LANES) × NamesNot lane lanes × AreLanes lanes

-- a sum that saturates at the greatest u64
abbrev pub capped : ℕ → ℕ → ℕ
capped a b = min (a + b) 18446744073709551615
