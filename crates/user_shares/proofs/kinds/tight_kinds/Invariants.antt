use Rattle.user_shares.specs.Kinds.{AreKindsBelow, IsTightKind}
use Rattle.user_shares.proofs.kinds.tight_kinds.Given as goal

abbrev pub invariant-loop-node : goal.invariant-loop-node
invariant-loop-node g l = AreKindsBelow l.flat (IsTightKind l.users l.totals) l.node l.kinds.items
