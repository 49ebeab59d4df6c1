use Rattle.std.proofs.Common.{length, ◌-◌}
use Rattle.fair_shares.proofs.UserNodes.{AreFoundTo}
use Rattle.fair_shares.proofs.owners.user_nodes.Given as goal

abbrev pub invariant-loop-leaf : goal.invariant-loop-leaf
invariant-loop-leaf g l = AreFoundTo l.flat l.asks l.nodes.items l.leaf l.from

abbrev pub decreases-loop-leaf : goal.decreases-loop-leaf
decreases-loop-leaf g l = length l.asks - l.leaf
