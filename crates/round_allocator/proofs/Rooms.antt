-- A leaf with room has no bottleneck.
use Rattle.std.proofs.Common.{ℕ, List}
use Rattle.limit_tree.specs.Sharing.{LimitTree}
use Rattle.round_allocator.specs.Rounds.{IsExhausted, HasBottlenecks}

-- a leaf with a bottleneck has no room
pub bottlenecks-exhausted : (t : LimitTree) (g : List ℕ) → HasBottlenecks t g → IsExhausted t g
bottlenecks-exhausted t g bottles i room =
    let at = bottles i room.0 in
    room.1 at.0 (at.1, at.2, at.3.holds, at.3.full)
