-- Sums of grants and floors of a tree.
use Rattle.std.proofs.Common.{ℕ, ◌<◌, ◌^◌, List, arith, sum}
use Rattle.limit_tree.specs.Sharing.{LimitTree, IsLimitTree, IsWithin}
use Rattle.limit_tree.proofs.Sums.{sum-wanted}

pub within-fits : (t : LimitTree) (g : List ℕ) → IsWithin t g → sum t.wants < 2 ^ 64 → sum g < 2 ^ 64
within-fits t g within few = omega (arith, sum-wanted t g within.wanted, few)

pub floors-fit : (t : LimitTree) → IsLimitTree t → sum t.wants < 2 ^ 64 → sum t.floors < 2 ^ 64
floors-fit t tree few = omega (arith, sum-wanted t t.floors tree.floors.wanted, few)
