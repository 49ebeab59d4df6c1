use Rattle.std.proofs.Common.{arith}
use Rattle.user_shares.specs.Kinds.{IsInnerKind}
use Rattle.user_shares.proofs.Kinded.{kinds-more, kinds-all}
use Rattle.user_shares.proofs.kinds.inner_kinds.Goals as goal

pub loop-node-preserved : goal.loop-node-preserved
loop-node-preserved g c = kinds-more c.args.flat.now (IsInnerKind c.args.owners.now) c.loop-node.node c.loop-node.kinds.items _ c.place-place.result c.inner_kind-kind.result c.loop-node.invariant c.place-place.ensures.place c.inner_kind-kind.ensures.kind c.in_ok-push.ensures.items

pub returns : goal.returns
returns g c = record { kinds = kinds-all c.args.flat.now (IsInnerKind c.args.owners.now) c.loop-node.node c.loop-node.kinds.items (omega (arith, c.nodes-nodes.ensures.nodes)) c.loop-node.invariant }
