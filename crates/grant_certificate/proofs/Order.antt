-- Backed grants are best.
use Rattle.std.proofs.Common.{ℕ, ◌+◌, ◌<◌, List, [], ◌∷◌, length, get_or, refl, arith, sum_by, min, ltb, inl, inr, Option}
use Rattle.std.specs.Prelude.{slice_index}
use Rattle.std.specs.List.{insert, prefix_len}
use Rattle.std.specs.List.Sorted.{IsNonDecreasing}
use Rattle.std.proofs.lemmas.Bool.{cases_lt, ltb-true, ltb-false}
use Rattle.std.proofs.lemmas.List.Sums.{prefix_len-le-length, prefix_len_passes, prefix_len_stops}
use Rattle.std.proofs.lemmas.List.Sorted.{IsPermutation-refl, IsPermutation-trans, IsPermutation-cons, IsPermutation-insert, IsNonDecreasingBy-insert, sum_by-IsPermutation}
use Rattle.limit_tree.specs.Sharing.{LimitTree, HasNestedBranches, IsWithin, IsBackedBy, IsAscending, IsGreater, IsBest}
use Rattle.limit_tree.proofs.Sums.{sum_below-lt}
use Rattle.grant_certificate.proofs.Levels.{up_to, up_to-sum, backed-largest}

-- the level just above the first difference
abbrev level_above : (a b : List ℕ) → IsGreater a b → ℕ
level_above a b greater = slice_index a greater.place + 1

-- up to it the greater list has the larger sum
pub larger_sum : (a b : List ℕ) (greater : IsGreater a b) → IsNonDecreasing b → sum_by (λ x. min x (level_above a b greater)) a < sum_by (λ x. min x (level_above a b greater)) b
larger_sum a b greater up =
    let less = sum_below-lt (length a) (up_to (level_above a b greater) a) (up_to (level_above a b greater) b) greater.place
    (λ i l. elim (cases_lt i greater.place) [
      | inl before ↦ omega (arith, greater.before i before)
      | inr after ↦ omega (arith, greater.larger, up greater.place i 0 after (omega (arith, greater.lengths)))
    ])
    greater.within
    (omega (arith, greater.larger)) in
    omega (arith, less, up_to-sum a (level_above a b greater) (length a) refl, up_to-sum b (level_above a b greater) (length a) greater.lengths)

pub backed-best : (t : LimitTree) (g : List ℕ) (c : List (Option ℕ)) → HasNestedBranches t → IsWithin t g → IsBackedBy t g c → IsBest t g
backed-best t g c tree within backed = record {
  within = within;
  greatest = λ h a b within_h up_g up_h greater.
      let most = backed-largest t g c tree within backed h (level_above a b greater) within_h in
      let more = larger_sum a b greater up_h.1 in
      let same_g = sum_by-IsPermutation (λ x. min x (level_above a b greater)) g a up_g.0 in
      let same_h = sum_by-IsPermutation (λ x. min x (level_above a b greater)) h b up_h.0 in
      omega (arith, most, more, same_g, same_h);
}

-- how many at the head of a list are below x
abbrev place_of : ℕ → List ℕ → ℕ
place_of x s = prefix_len (λ y. ltb y x) s

-- a number goes into an ascending list behind those that are smaller
insert-ascending : (x : ℕ) (s : List ℕ) → IsNonDecreasing s → IsNonDecreasing (insert s (place_of x s) x)
insert-ascending x s up =
    IsNonDecreasingBy-insert (λ y. y) s (place_of x s) x up (prefix_len-le-length (λ y. ltb y x) s)
    (λ k d before. omega (arith, ltb-true (get_or s k d) x (prefix_len_passes (λ y. ltb y x) s k d before)))
    (λ k d after inside. omega (arith, ltb-false (get_or s (place_of x s) d) x (prefix_len_stops (λ y. ltb y x) s d (omega arith)), up (place_of x s) k d after inside))

-- each list has an ascending rearrangement
pub ascending-exists : (g : List ℕ) → (s : List ℕ) × IsAscending g s
ascending-exists [] = ([], (IsPermutation-refl [], λ i j d le l. absurd (omega arith)))
ascending-exists (x ∷ g) =
    let rest : (s : List ℕ) × IsAscending g s = ascending-exists g in (
      insert rest.0 (place_of x rest.0) x,
      (
        IsPermutation-trans (x ∷ g) (x ∷ rest.0) (insert rest.0 (place_of x rest.0) x) (IsPermutation-cons x g rest.0 rest.1.0) (IsPermutation-insert rest.0 (place_of x rest.0) x),
        insert-ascending x rest.0 rest.1.1,
      ),
    )
