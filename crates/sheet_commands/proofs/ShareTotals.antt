-- The total of grants that are taken by their leaf numbers.
use Rattle.std.proofs.Common.{◌≤◌, ◌<◌, ◌*◌, ◌^◌, take, ℕ, List, length, get_or, arith, sum, inl, inr}
use Rattle.std.specs.List.{sum_by}
use Rattle.std.proofs.Math.Nat.{mul-le-mul_right}
use Rattle.std.proofs.lemmas.Bool.{cases_lt}
use Rattle.std.proofs.lemmas.List.{get_or_past}
use Rattle.std.proofs.lemmas.List.Sums.{sum_by-le, sum_by-take-le, get_or-le-sum_by}

-- no grant is above the sum of all
pub grant_le : (g : List ℕ) (i : ℕ) → get_or g i 0 ≤ sum g
grant_le g i = elim (cases_lt i (length g)) [
  | inl inside ↦ get_or-le-sum_by (λ (n : ℕ). n) g i 0 inside
  | inr past ↦ omega (arith, get_or_past g i 0 past)
]

-- so many leaves have at most so many times the sum of all
total_le : (g leaves : List ℕ) → sum_by (λ leaf. get_or g leaf 0) leaves ≤ length leaves * sum g
total_le g leaves = sum_by-le (λ (leaf : ℕ). get_or g leaf 0) (sum g) leaves (λ k d less. grant_le g (get_or leaves k d))

-- the total of the first of some leaves, at most 4,096, is below the largest number where so many times the sum is
pub total_fits : (g leaves : List ℕ) (i : ℕ) → length leaves ≤ 4096 → 4096 * sum g < 2 ^ 64 → sum_by (λ leaf. get_or g leaf 0) (take i leaves) < 2 ^ 64
total_fits g leaves i few fits =
    let part = sum_by-take-le (λ (leaf : ℕ). get_or g leaf 0) leaves i in
    let whole = total_le g leaves in
    let most : length leaves * sum g ≤ 4096 * sum g = mul-le-mul_right (sum g) few in
    omega (arith, part, whole, most)
