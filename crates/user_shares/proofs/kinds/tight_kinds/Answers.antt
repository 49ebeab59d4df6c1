use Rattle.std.proofs.Common.{arith}
use Rattle.user_shares.specs.Kinds.{IsTightKind}
use Rattle.user_shares.proofs.Kinded.{kinds-more, kinds-all, knows-of}
use Rattle.user_shares.proofs.kinds.tight_kinds.Goals as goal

pub loop-node-preserved : goal.loop-node-preserved
loop-node-preserved g c = kinds-more c.args.flat.now (IsTightKind c.args.users.now c.args.totals.now) c.loop-node.node c.loop-node.kinds.items _ c.place-place.result c.tight_kind-kind.result c.loop-node.invariant c.place-place.ensures.place c.tight_kind-kind.ensures.kind c.in_ok-push.ensures.items

pub returns : goal.returns
returns g c = record { kinds = kinds-all c.args.flat.now (IsTightKind c.args.users.now c.args.totals.now) c.loop-node.node c.loop-node.kinds.items (omega (arith, c.nodes-nodes.ensures.nodes)) c.loop-node.invariant }

pub tight_kind-kind-requires-clause-users : goal.tight_kind-kind-requires-clause-users
tight_kind-kind-requires-clause-users g c = knows-of c.args.flat.now c.args.users.now c.args.owners.now c.loop-node.node c.place-place.result c.requires.users c.place-place.ensures.place
