use Rattle.std.proofs.Common.{arith}
use Rattle.user_shares.specs.Kinds.{IsOuterKind}
use Rattle.user_shares.proofs.Kinded.{kinds-more, kinds-all, leaf-one}
use Rattle.user_shares.proofs.kinds.outer_kinds.Goals as goal

pub loop-node-preserved : goal.loop-node-preserved
loop-node-preserved g c = kinds-more c.args.flat.now (IsOuterKind c.args.owners.now c.args.most.now c.args.floors.now) c.loop-node.node c.loop-node.kinds.items _ c.place-place.result c.outer_kind-kind.result c.loop-node.invariant c.place-place.ensures.place c.outer_kind-kind.ensures.kind c.in_ok-push.ensures.items

pub returns : goal.returns
returns g c = record { kinds = kinds-all c.args.flat.now (IsOuterKind c.args.owners.now c.args.most.now c.args.floors.now) c.loop-node.node c.loop-node.kinds.items (omega (arith, c.nodes-nodes.ensures.nodes)) c.loop-node.invariant }

pub outer_kind-kind-requires-clause-leaf : goal.outer_kind-kind-requires-clause-leaf
outer_kind-kind-requires-clause-leaf g c = leaf-one c.args.flat.now c.loop-node.node c.place-place.result c.nodes-nodes.ensures.flat.shaped c.place-place.ensures.place
