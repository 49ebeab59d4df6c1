-- Numbers and depths of a tree's nodes.
use Rattle.std.specs.Prelude.{◌≡◌, ℕ, ◌+◌, ◌<◌, List, [], ◌∷◌, ◌++◌, map, replicate, Some, IsTrue, slice_get}
use Rattle.limit_tree.specs.Outline.{leaf_range}
use Rattle.limit_tree.specs.declared.place.Place.{Place}

-- Of two nodes with a common leaf, the one with the larger number is deeper.
abbrev pub LaterIsDeeper : List Place → Type 0
LaterIsDeeper outline =
    (j k i : ℕ) (p q : Place) → slice_get outline j ≡ Some p → slice_get outline k ≡ Some q
    → j < k →
    IsTrue (leaf_range p.first p.leaves i) → IsTrue (leaf_range q.first q.leaves i)
    → p.depth < q.depth

-- The depths of nodes in preorder, by the numbers of their kids. The trees to come begin at the
-- depths `next`; the kids of a node come before the others.
abbrev pub depths_by : List ℕ → List ℕ → List ℕ
depths_by next [] = []
depths_by [] (n ∷ kids) = []
depths_by (depth ∷ next) (n ∷ kids) = depth ∷ depths_by (replicate n (depth + 1) ++ next) kids

-- The root is at depth 0, and the kids of a node are one level below it.
abbrev pub HaveDepths : List Place → Type 0
HaveDepths outline =
    map (λ p. p.depth) outline ≡ depths_by (0 ∷ []) (map (λ p. p.kids) outline)
