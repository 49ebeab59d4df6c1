-- An unmet leaf has room, or a full branch holds it.
use Rattle.std.proofs.Common.{◌≡◌, ℕ, zero, suc, ◌<◌, ◌≤◌, List, [], ◌∷◌, sum, refl, sym, ap, ◌∙◌, subst, arith, ◌⊎◌, inl, inr, Option, Some, None}
use Rattle.std.specs.Prelude.{IsTrue, slice_index}
use Rattle.std.proofs.lemmas.Bool.{cases_eq, cases_lt, cases_Bool, false≢true}
use Rattle.std.proofs.lemmas.List.Sums.{sum_by-cons}
use Rattle.limit_tree.specs.Sharing.{Branch, LimitTree, HasNestedBranches, IsFull, IsUnmet, IsFullAbove, HasRoom, sum_over}

is_some_or_not : (o : Option ℕ) (s : ℕ) → (o ≡ Some s) ⊎ (o ≡ Some s → ⊥)
is_some_or_not None s = inr (λ e. cc)
is_some_or_not (Some most) s = elim (cases_eq most s) [ inl e ↦ inl (ap Some e) | inr ne ↦ inr (λ e. ne (cc)) ]

-- whether one branch is full and holds the leaf
full_at : (t : LimitTree) (g : List ℕ) (i k : ℕ) (o : Option Branch) → t.branch k ≡ o → (IsFullAbove t g i k → ⊥) ⊎ IsFullAbove t g i k
full_at t g i k None is = inl (λ full. let e : None ≡ Some full.0 = sym is ∙ full.1 in cc)
full_at t g i k (Some b) is = elim (cases_Bool (b.holds i)) [
  | inr out ↦ inl (λ full. false≢true (sym out ∙ subst (λ (x : Branch). IsTrue (x.holds i)) (same full) full.2))
  | inl held ↦ elim (is_some_or_not b.limit (sum_over b.holds g)) [
    | inl full ↦ inr (b, is, held, full)
    | inr not_full ↦ inl (λ full. not_full (subst (λ (x : Branch). IsFull x g) (same full) full.3))
  ]
]
  where
    same : (full : IsFullAbove t g i k) → full.0 ≡ b
    same full = let e : Some full.0 ≡ Some b = sym full.1 ∙ is in cc

-- whether a branch with a number below n is
find_full : (t : LimitTree) (g : List ℕ) (i n : ℕ) → ((k : ℕ) → k < n → IsFullAbove t g i k → ⊥) ⊎ ((k : ℕ) × IsFullAbove t g i k)
find_full t g i zero = inl (λ k l full. absurd (omega arith))
find_full t g i (suc n) = elim (find_full t g i n) [
  | inr found ↦ inr found
  | inl none ↦ elim (full_at t g i n (t.branch n) refl) [
    | inr found ↦ inr (n, found)
    | inl not_here ↦ inl (λ k l full. elim (cases_eq k n) [
      | inl e ↦ not_here (subst (λ (j : ℕ). IsFullAbove t g i j) e full)
      | inr ne ↦ none k (omega arith) full
    ])
  ]
]

pub room_or_full : (t : LimitTree) (g : List ℕ) (i : ℕ) → HasNestedBranches t → IsUnmet t g i → HasRoom t g i ⊎ ((k : ℕ) × IsFullAbove t g i k)
room_or_full t g i tree unmet = elim (find_full t g i tree.numbers) [
  | inr found ↦ inr found
  | inl none ↦ inl (
    unmet,
    λ k full. elim (cases_lt k tree.numbers) [
      | inl l ↦ none k l full
      | inr past ↦ let e : None ≡ Some full.0 = sym (tree.finite k past) ∙ full.1 in cc
    ],
  )
]

-- an element is at most the sum
pub want-le-sum : (ws : List ℕ) (i : ℕ) → slice_index ws i ≤ sum ws
want-le-sum [] i = omega arith
want-le-sum (w ∷ ws) zero = omega (arith, sum_by-cons (λ x. x) w ws)
want-le-sum (w ∷ ws) (suc i) = omega (arith, want-le-sum ws i, sum_by-cons (λ x. x) w ws)
