-- Sorted numbers that are those below the length of their list, in another order, are at their own places.
use Rattle.std.proofs.Common.{◌≡◌, ◌<◌, ◌≤◌, ◌+◌, ◌-◌, ℕ, zero, suc, List, length, get_or, refl, ap, arith, false}
use Rattle.std.specs.Prelude.{IsPermutation, nat_eq}
use Rattle.std.specs.List.{All, IsDistinct}
use Rattle.std.specs.List.Sorted.{IsNonDecreasing, IsStrictlyIncreasing}
use Rattle.std.proofs.lemmas.Map.Keys.{IsDistinct-IsPermutation, IsDistinct-from_apart, IsStrictlyIncreasing-from_distinct}
use Rattle.line_rates.proofs.RowLemmas.{other_number}

at_same : (xs : List ℕ) (i j : ℕ) → i ≡ j → get_or xs i 0 ≡ get_or xs j 0
at_same xs i j same = ap (λ k. get_or xs k 0) same

far : (xs : List ℕ) → IsStrictlyIncreasing xs → (i k : ℕ) → i + k < length xs → get_or xs i 0 + k ≤ get_or xs (i + k) 0
far xs rises i zero less = le (get_or xs i 0) (get_or xs (i + 0) 0) (at_same xs i (i + 0) (omega arith))
  where
    le : (a b : ℕ) → a ≡ b → a + 0 ≤ b
    le a b same = omega (arith, same)
far xs rises i (suc k) less =
    next (get_or xs i 0) (get_or xs (i + k) 0) (get_or xs (i + k + 1) 0) (get_or xs (i + suc k) 0) k (far xs rises i k (omega arith)) (rises (i + k) (omega arith)) (at_same xs (i + k + 1) (i + suc k) (omega arith))
  where
    next : (a b c d k : ℕ) → a + k ≤ b → b < c → c ≡ d → a + suc k ≤ d
    next a b c d k le less same = omega (arith, le, less, same)

flips : (x y : ℕ) → nat_eq x y ≡ nat_eq y x
flips x y = grind arith

-- numbers at their own places are distinct
pub distinct : (xs : List ℕ) → ((i d : ℕ) → i < length xs → get_or xs i d ≡ i) → IsDistinct nat_eq xs
distinct xs at = IsDistinct-from_apart nat_eq xs (λ i j d less within.
    let one = at i d (omega arith) in
    let other = at j d within in
    other_number (get_or xs i d) (get_or xs j d) (λ same. omega (arith, one, other, same)))

pub placed : (xs ys : List ℕ) → ((i d : ℕ) → i < length xs → get_or xs i d ≡ i) → IsPermutation xs ys → IsNonDecreasing ys → All (λ y. y < length ys) ys → (i : ℕ) → i < length ys → get_or ys i 0 ≡ i
placed xs ys at same rises within i less =
    let strict = IsStrictlyIncreasing-from_distinct ys rises (IsDistinct-IsPermutation nat_eq flips xs ys same (distinct xs at)) in
    let low = far ys strict 0 i (omega arith) in
    let high = far ys strict i (length ys - 1 - i) (omega arith) in
    let low_at = at_same ys (0 + i) i (omega arith) in
    let last_at = at_same ys (i + (length ys - 1 - i)) (length ys - 1) (omega arith) in
    let last = within (length ys - 1) 0 (omega arith) in
    both (get_or ys 0 0) (get_or ys i 0) (get_or ys (0 + i) 0) (get_or ys (i + (length ys - 1 - i)) 0) (get_or ys (length ys - 1) 0) (length ys) i less low low_at high last_at last
  where
    both : (a b c d e n i : ℕ) → i < n → a + i ≤ c → c ≡ b → b + (n - 1 - i) ≤ d → d ≡ e → e < n → b ≡ i
    both a b c d e n i less low low_at high last_at last = omega (arith, less, low, low_at, high, last_at, last)
