-- Sums over a range of leaves, as a loop over the range adds them up.
use Rattle.std.proofs.Common.{◌≡◌, ℕ, zero, suc, ◌+◌, ◌<◌, ◌≤◌, Bool, true, false, List, length, refl, ap, arith, sum, inl, inr}
use Rattle.std.specs.Prelude.{if◌then◌else◌, IsTrue, slice_index}
use Rattle.std.proofs.lemmas.Bool.{cases_lt, le-leb, lt-leb, lt-ltb, le-ltb, and_left, and_right, and_from}
use Rattle.std.proofs.lemmas.List.Sums.{sum_by_more, sum_by-take-le}
use Rattle.limit_tree.specs.Outline.{leaf_range}
use Rattle.limit_tree.proofs.Sums.{sum_below-le, sum_by-places, sum_in, sum_in-none}

pub leaf_range-inside : (first leaves i : ℕ) → first ≤ i → i < first + leaves → IsTrue (leaf_range first leaves i)
leaf_range-inside first leaves i low high = and_from _ _ (le-leb first i low) (lt-ltb i (first + leaves) high)

leaf_range-before : (first leaves i : ℕ) → i < first → leaf_range first leaves i ≡ false
leaf_range-before first leaves i low = and_left _ _ (lt-leb first i low)

leaf_range-after : (first leaves i : ℕ) → first + leaves ≤ i → leaf_range first leaves i ≡ false
leaf_range-after first leaves i high = and_right _ _ (le-ltb i (first + leaves) high)

-- nothing before the range
pub sum_in-range_none : (first leaves : ℕ) (f : ℕ → ℕ) (k : ℕ) → k ≤ first → sum_in k (leaf_range first leaves) f ≡ 0
sum_in-range_none first leaves f k low = sum_in-none k (leaf_range first leaves) f (λ i l. leaf_range-before first leaves i (omega arith))

-- one term more within it
pub sum_in-range_more : (first leaves : ℕ) (f : ℕ → ℕ) (k : ℕ) → first ≤ k → k < first + leaves → sum_in (k + 1) (leaf_range first leaves) f ≡ sum_in k (leaf_range first leaves) f + f k
sum_in-range_more first leaves f k low high =
    let next : k + 1 ≡ suc k = omega arith in
    rw next (ap (λ (b : Bool). sum_in k (leaf_range first leaves) f + (if b then f k else 0)) (leaf_range-inside first leaves k low high))

-- nothing more past its end
pub sum_in-range_all : (first leaves : ℕ) (f : ℕ → ℕ) (n : ℕ) → first + leaves ≤ n → sum_in n (leaf_range first leaves) f ≡ sum_in (first + leaves) (leaf_range first leaves) f
sum_in-range_all first leaves f n past = go n past
  where
    term : (b : Bool) (x : ℕ) → b ≡ false → (if b then x else 0) ≡ 0
    term b x out = ap (λ (c : Bool). if c then x else 0) out

    go : (n : ℕ) → first + leaves ≤ n → sum_in n (leaf_range first leaves) f ≡ sum_in (first + leaves) (leaf_range first leaves) f
    go zero past = let e : first + leaves ≡ 0 = omega arith in rw e refl
    go (suc n) past = elim (cases_lt n (first + leaves)) [
      | inl last ↦ let e : first + leaves ≡ suc n = omega arith in rw e refl
      | inr after ↦ omega (arith, go n after, term (leaf_range first leaves n) (f n) (leaf_range-after first leaves n after))
    ]

-- the sum so far and the next grant are within the whole sum
pub sum_in-range_fits : (first leaves : ℕ) (g : List ℕ) (k : ℕ) → k < length g → sum_in k (leaf_range first leaves) (λ i. slice_index g i) + slice_index g k ≤ sum g
sum_in-range_fits first leaves g k inside =
    let part = sum_below-le k (λ i. if leaf_range first leaves i then slice_index g i else 0) (λ i. slice_index g i) (λ i l. term (leaf_range first leaves i) (slice_index g i)) in
    omega (arith, part, sum_by-places (λ x. x) g k (omega arith), sum_by_more (λ x. x) g k 0 inside, sum_by-take-le (λ x. x) g (k + 1))
  where
    term : (b : Bool) (x : ℕ) → (if b then x else 0) ≤ x
    term true x = omega arith
    term false x = omega arith
