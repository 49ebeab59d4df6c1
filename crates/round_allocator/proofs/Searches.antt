-- The search for a level.
use Rattle.std.proofs.Common.{◌≡◌, ℕ, ◌+◌, ◌-◌, ◌<◌, ◌≤◌, List, ap, arith, inl, inr, Some}
use Rattle.std.proofs.lemmas.Bool.{cases_lt}
use Rattle.limit_tree.specs.Flat.{IsFlat, taken_below}
use Rattle.limit_tree.specs.declared.place.Place.{Place}
use Rattle.limit_tree.proofs.Rows.{taken-floors}
use Rattle.round_allocator.specs.Levels.{IsBranchAt, IsLevel}

-- at level 0 the kids of a branch keep its limit
pub keeps-at_zero : (ps : List Place) (node most : ℕ) → IsFlat ps → IsBranchAt ps node (Some most) → taken_below 0 ps node ≤ most
keeps-at_zero ps node most flat branch = taken-floors ps node branch.0 most flat branch.1 branch.2

-- so that a level at which they do not is not 0
pub level-some : (ps : List Place) (node most level : ℕ) → IsFlat ps → IsBranchAt ps node (Some most) → most < taken_below level ps node → 0 < level
level-some ps node most level flat branch above = elim (cases_lt 0 level) [
  | inl some ↦ some
  | inr none ↦
      let zero : level ≡ 0 = omega arith in
      absurd (omega (arith, above, ap (λ (l : ℕ). taken_below l ps node) zero, keeps-at_zero ps node most flat branch))
]

-- neighbours, of which the lower is kept and the higher is not
pub level-found : (ps : List Place) (node most low high taken : ℕ) → taken ≡ taken_below low ps node → taken ≤ most → most < taken_below high ps node → low < high → high ≤ low + 1 → IsLevel ps node most (record { level = low; spare = most - taken })
level-found ps node most low high taken is fits above order near = record {
  fits = omega arith;
  greatest = let next : high ≡ low + 1 = omega arith in omega (arith, above, ap (λ (l : ℕ). taken_below l ps node) next);
}
