use Rattle.user_shares.specs.Kinds.{AreKindsBelow, IsOuterKind}
use Rattle.user_shares.proofs.kinds.outer_kinds.Given as goal

abbrev pub invariant-loop-node : goal.invariant-loop-node
invariant-loop-node g l = AreKindsBelow l.flat (IsOuterKind l.owners l.most l.floors) l.node l.kinds.items
