-- The numbers of a tree's branches.
use Rattle.std.specs.Prelude.{ℕ, ◌≤◌, IsTrue}
use Rattle.limit_tree.specs.Sharing.{Branch, LimitTree, IsBranch, IsInside}

-- Of two branches with a common leaf, the one with the larger number lies inside the other.
abbrev pub LaterIsInside : LimitTree → Type 0
LaterIsInside t =
    (j k i : ℕ) (a b : Branch) → IsBranch t j a → IsBranch t k b → j ≤ k → IsTrue (a.holds i)
    → IsTrue (b.holds i) → IsInside b.holds a.holds
