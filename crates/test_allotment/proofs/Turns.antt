-- The leaf whose turn is next, among the first leaves.
use Rattle.std.proofs.Common.{◌≡◌, ℕ, ◌+◌, ◌<◌, List, sym, subst, arith, inl, inr, Option, Some, None}
use Rattle.std.specs.Prelude.{MatchOption}
use Rattle.std.proofs.lemmas.Bool.{cases_lt}
use Rattle.limit_tree.specs.Sharing.{LimitTree, HasRoom}
use Rattle.test_allotment.specs.Turns.{IsBetter, IsNextBelow, IsBestBelow}

-- a leaf with room more
pub best-more : (t : LimitTree) (g : List ℕ) (k i : ℕ) (best : ℕ) → IsNextBelow t g i k → HasRoom t g i → IsBetter g k i best → IsNextBelow t g (i + 1) best
best-more t g k i best was room (inl less) = subst (IsNextBelow t g (i + 1)) (sym less.1) (record {
  below = omega arith;
  room = room;
  least = λ j l r. elim (cases_lt j i) [ inl low ↦ omega (arith, was.least j low r, less.0) | inr same ↦ (let e : j ≡ i = omega arith in rw e (omega arith)) ];
  first = λ j l r. omega (arith, was.least j l r, less.0);
})
best-more t g k i best was room (inr more) = subst (IsNextBelow t g (i + 1)) (sym more.1) (record {
  below = omega (arith, was.below);
  room = was.room;
  least = λ j l r. elim (cases_lt j i) [ inl low ↦ was.least j low r | inr same ↦ (let e : j ≡ i = omega arith in rw e more.0) ];
  first = was.first;
})

-- the first leaf with room
pub best-first : (t : LimitTree) (g : List ℕ) (i best : ℕ) → ((j : ℕ) → j < i → HasRoom t g j → ⊥) → HasRoom t g i → best ≡ i → IsNextBelow t g (i + 1) best
best-first t g i best none room e = subst (IsNextBelow t g (i + 1)) (sym e) (record {
  below = omega arith;
  room = room;
  least = λ j l r. elim (cases_lt j i) [ inl low ↦ absurd (none j low r) | inr same ↦ (let e : j ≡ i = omega arith in rw e (omega arith)) ];
  first = λ j l r. absurd (none j l r);
})

-- a leaf without room more
pub best-same : (t : LimitTree) (g : List ℕ) (i : ℕ) (best : Option ℕ) → (HasRoom t g i → ⊥) → IsBestBelow t g i best → IsBestBelow t g (i + 1) best
best-same t g i None not was = λ j l r. elim (cases_lt j i) [ inl low ↦ was j low r | inr same ↦ (let e : j ≡ i = omega arith in not (subst (HasRoom t g) e r)) ]
best-same t g i (Some k) not was = record {
  below = omega (arith, was.below);
  room = was.room;
  least = λ j l r. elim (cases_lt j i) [ inl low ↦ was.least j low r | inr same ↦ (let e : j ≡ i = omega arith in absurd (not (subst (HasRoom t g) e r))) ];
  first = was.first;
}

-- the better of the best so far and a leaf with room
pub best-next : (t : LimitTree) (g : List ℕ) (i : ℕ) (best : Option ℕ) (result : ℕ) → IsBestBelow t g i best → HasRoom t g i → MatchOption best (result ≡ i) (λ k. IsBetter g k i result) → IsNextBelow t g (i + 1) result
best-next t g i None result was room is = best-first t g i result was room is
best-next t g i (Some k) result was room is = best-more t g k i result was room is
