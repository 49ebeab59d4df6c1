-- Sums of a user's grants, as a loop over all leaves adds them up.
use Rattle.std.proofs.Common.{◌≡◌, ℕ, suc, ◌+◌, ◌<◌, ◌≤◌, Bool, true, false, List, length, ap, arith, sum}
use Rattle.std.specs.Prelude.{if◌then◌else◌, slice_index}
use Rattle.std.proofs.lemmas.List.Sums.{sum_by_more, sum_by-take-le}
use Rattle.limit_tree.specs.Sharing.{LeafSet}
use Rattle.limit_tree.proofs.Sums.{sum_below-le, sum_by-places, sum_in}

-- the sum so far and the next grant are within the whole sum
pub in_fits : (set : LeafSet) (g : List ℕ) (k : ℕ) → k < length g → sum_in k set (λ i. slice_index g i) + slice_index g k ≤ sum g
in_fits set g k inside =
    let part = sum_below-le k (λ i. if set i then slice_index g i else 0) (λ i. slice_index g i) (λ i l. term (set i) (slice_index g i)) in
    omega (arith, part, sum_by-places (λ x. x) g k (omega arith), sum_by_more (λ x. x) g k 0 inside, sum_by-take-le (λ x. x) g (k + 1))
  where
    term : (b : Bool) (x : ℕ) → (if b then x else 0) ≤ x
    term true x = omega arith
    term false x = omega arith

-- one more leaf of the set, or of no leaf of it
pub in_more : (set : LeafSet) (f : ℕ → ℕ) (k : ℕ) → set k ≡ true → sum_in (k + 1) set f ≡ sum_in k set f + f k
in_more set f k held =
    let next : k + 1 ≡ suc k = omega arith in
    rw next (ap (λ (b : Bool). sum_in k set f + (if b then f k else 0)) held)

pub in_none : (set : LeafSet) (f : ℕ → ℕ) (k : ℕ) → set k ≡ false → sum_in (k + 1) set f ≡ sum_in k set f
in_none set f k out =
    let next : k + 1 ≡ suc k = omega arith in
    let zero : (if set k then f k else 0) ≡ 0 = ap (λ (b : Bool). if b then f k else 0) out in
    rw next (omega (arith, zero))
