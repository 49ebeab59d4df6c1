-- Two transfers in the same rounds, by the grants to each.
use Rattle.std.specs.Prelude.{ℕ, ◌+◌, ◌<◌, ◌≤◌, List, [], ◌∷◌}
use Rattle.std.specs.List.{sum_by}

pub record Shared : Type 0 where
  pub one : ℕ
  pub other : ℕ

abbrev pub one_of : Shared → ℕ
one_of r = r.one

abbrev pub other_of : Shared → ℕ
other_of r = r.other

-- In each round the grants differ by at most one octet, and the transfer that had less before it is
-- not granted less: it comes first.
abbrev pub AreTurns : ℕ → ℕ → List Shared → Type 0
AreTurns c d [] = Unit {0}
AreTurns c d (r ∷ rs) = (r.one ≤ r.other + 1) × (r.other ≤ r.one + 1)
    × (c < d → r.other ≤ r.one) × (d < c → r.one ≤ r.other)
    × AreTurns (c + r.one) (d + r.other) rs

-- the numbers differ by at most one
pub record IsEven (c d : ℕ) : Type 0 where
  pub one : c ≤ d + 1
  pub other : d ≤ c + 1

-- So they are after any rounds, if they were before: as a second begins both have had nothing.
abbrev pub EvenByTurns : Type 0
EvenByTurns = (c d : ℕ) (rs : List Shared) → IsEven c d → AreTurns c d rs
    → IsEven (c + sum_by one_of rs) (d + sum_by other_of rs)
