use Rattle.user_shares.specs.Kinds.{AreKindsBelow, IsInnerKind}
use Rattle.user_shares.proofs.kinds.inner_kinds.Given as goal

abbrev pub invariant-loop-node : goal.invariant-loop-node
invariant-loop-node g l = AreKindsBelow l.flat (IsInnerKind l.owners) l.node l.kinds.items
