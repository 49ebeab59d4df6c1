-- Marks node by node.
use Rattle.std.proofs.Common.{◌≡◌, ℕ, ◌+◌, ◌<◌, ◌≤◌, List, length, get_or, sym, ◌∙◌, subst, arith, ◌⊎◌, inl, inr, Option, Some, None}
use Rattle.std.specs.Prelude.{IsTrue, slice_get}
use Rattle.std.proofs.lemmas.Bool.{cases_eq, cases_lt, and_parts, leb-true, ltb-true}
use Rattle.std.proofs.lemmas.Option.{slice_get_within, get_or_from_slice_get}
use Rattle.limit_tree.specs.Sharing.{LimitTree, IsUnmet, Branch as SharedBranch, IsBranch, IsFull, IsFullAbove, IsDeepestFull}
use Rattle.limit_tree.specs.Outline.{limits, leaf_range}
use Rattle.limit_tree.specs.declared.place.Place.{Place}
use Rattle.limit_tree.proofs.RangeSums.{leaf_range-inside}
use Rattle.limit_tree.proofs.Nested.{branch_place}
use Rattle.limit_tree.proofs.Hops.{same-node}
use Rattle.round_allocator.specs.Rounds.{IsEntry}
use Rattle.round_allocator.specs.Marks.{IsLastFull, HasMark, AreDeepest}

-- a full branch's leaves are those of its place
above-inside : (outline : List Place) (g : List ℕ) (node i : ℕ) (p : Place) → slice_get outline node ≡ Some p → IsFullAbove (limits outline) g i node → (p.first ≤ i) × (i < p.first + p.leaves)
above-inside outline g node i p got above =
    let at = branch_place outline node above.0 above.1 in
    let same : at.place ≡ p = same-node outline node at.place p at.found got in
    let held : IsTrue (leaf_range p.first p.leaves i) = subst (λ (q : Place). IsTrue (leaf_range q.first q.leaves i)) same (sym (at.holds i) ∙ above.2) in
    let both = and_parts _ _ held in
    (leb-true p.first i both.0, ltb-true i (p.first + p.leaves) both.1)

last-not_here : (outline : List Place) (g : List ℕ) (node i : ℕ) (mark : Option ℕ) → (IsFullAbove (limits outline) g i node → ⊥) → IsLastFull (limits outline) g node i mark → IsLastFull (limits outline) g (node + 1) i mark
last-not_here outline g node i None not was = λ k l above. elim (cases_eq k node) [
  | inl e ↦ not (subst (IsFullAbove (limits outline) g i) e above)
  | inr ne ↦ was k (omega arith) above
]
last-not_here outline g node i (Some k) not was = (
  was.0,
  λ m l above. elim (cases_eq m node) [
    | inl e ↦ absurd (not (subst (IsFullAbove (limits outline) g i) e above))
    | inr ne ↦ was.1 m (omega arith) above
  ],
)

mark-not_here : (outline : List Place) (g : List ℕ) (node i : ℕ) (marks : List (Option ℕ)) → (IsFullAbove (limits outline) g i node → ⊥) → HasMark (limits outline) g node i marks → HasMark (limits outline) g (node + 1) i marks
mark-not_here outline g node i marks not was = (was.0, was.1, last-not_here outline g node i was.0 not was.2)

-- a node that is no full branch changes no mark
pub mark-stays : (outline : List Place) (g : List ℕ) (node i : ℕ) (marks : List (Option ℕ)) → (((b : SharedBranch) × IsBranch (limits outline) node b × IsFull b g) → ⊥) → HasMark (limits outline) g node i marks → HasMark (limits outline) g (node + 1) i marks
mark-stays outline g node i marks not was = mark-not_here outline g node i marks (λ above. not (above.0, above.1, above.3)) was

-- a full branch marks its leaves
pub mark-full : (outline : List Place) (g : List ℕ) (node i : ℕ) (p : Place) (marks new : List (Option ℕ)) → slice_get outline node ≡ Some p → ((b : SharedBranch) × IsBranch (limits outline) node b × IsFull b g)
    → ((j : ℕ) → p.first ≤ j → j < p.first + p.leaves → slice_get new j ≡ Some (Some node)) → ((j : ℕ) → (j < p.first) ⊎ (p.first + p.leaves ≤ j) → slice_get new j ≡ slice_get marks j)
    → HasMark (limits outline) g node i marks → HasMark (limits outline) g (node + 1) i new
mark-full outline g node i p marks new got full marked others was = elim (cases_lt i p.first) [
  | inl before ↦ outside (inl before)
  | inr low ↦ elim (cases_lt i (p.first + p.leaves)) [
    | inr past ↦ outside (inr past)
    | inl high ↦ (Some node, marked i low high, ((full.0, full.1, holds low high, full.2), λ m l above. omega arith))
  ]
]
  where
    not_above : (i < p.first) ⊎ (p.first + p.leaves ≤ i) → IsFullAbove (limits outline) g i node → ⊥
    not_above (inl before) above = let inside = above-inside outline g node i p got above in absurd (omega (arith, inside.0))
    not_above (inr past) above = let inside = above-inside outline g node i p got above in absurd (omega (arith, inside.1))

    outside : (i < p.first) ⊎ (p.first + p.leaves ≤ i) → HasMark (limits outline) g (node + 1) i new
    outside out =
        let next = mark-not_here outline g node i marks (not_above out) was in
        (next.0, others i out ∙ next.1, next.2)

    holds : p.first ≤ i → i < p.first + p.leaves → IsTrue (full.0.holds i)
    holds low high =
        let at = branch_place outline node full.0 full.1 in
        let same : p ≡ at.place = same-node outline node p at.place got at.found in
        at.holds i ∙ subst (λ (q : Place). IsTrue (leaf_range q.first q.leaves i)) same (leaf_range-inside p.first p.leaves i low high)

-- before the first node
pub mark-none : (outline : List Place) (g : List ℕ) (i : ℕ) (marks : List (Option ℕ)) → slice_get marks i ≡ Some None → HasMark (limits outline) g 0 i marks
mark-none outline g i marks none = (None, none, λ k l above. absurd (omega arith))

above-number : (outline : List Place) (g : List ℕ) (i k : ℕ) → IsFullAbove (limits outline) g i k → k < length outline
above-number outline g i k above = let at = branch_place outline k above.0 above.1 in slice_get_within outline k at.place at.found

last-all : (outline : List Place) (g : List ℕ) (n i : ℕ) (mark : Option ℕ) → length outline ≤ n → IsLastFull (limits outline) g n i mark → IsDeepestFull (limits outline) g i mark
last-all outline g n i None all was = λ k above. was k (omega (arith, above-number outline g i k above)) above
last-all outline g n i (Some k) all was = (was.0, λ m above. was.1 m (omega (arith, above-number outline g i m above)) above)

-- behind the last
pub marks-deepest : (outline : List Place) (g : List ℕ) (n : ℕ) (marks : List (Option ℕ)) → length outline ≤ n → length marks ≡ length g → ((i : ℕ) → i < length g → HasMark (limits outline) g n i marks) → AreDeepest (limits outline) g marks
marks-deepest outline g n marks all size each = record {
  size = size;
  deepest = λ i l. let was = each i l in (was.0, was.1, last-all outline g n i was.0 all was.2);
}

-- the mark of an unmet leaf is its entry
pub mark-entry : (t : LimitTree) (g : List ℕ) (marks : List (Option ℕ)) (i : ℕ) → AreDeepest t g marks → i < length g → IsUnmet t g i → IsEntry t g i (get_or marks i None)
mark-entry t g marks i deepest inside unmet =
    let mark = deepest.deepest i inside in
    subst (λ (o : Option ℕ). IsEntry t g i o) (sym (get_or_from_slice_get marks i mark.0 None mark.1)) (record { unmet = λ is. mark.2; met = λ not. absurd (not unmet) })
