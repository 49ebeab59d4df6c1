use Rattle.depth_users.proofs.Owned.{AreOwnedBelow}
use Rattle.depth_users.proofs.owners.owners_at.Given as goal

abbrev pub invariant-loop-node : goal.invariant-loop-node
invariant-loop-node g l = AreOwnedBelow l.tree l.depth l.node l.owners.items
