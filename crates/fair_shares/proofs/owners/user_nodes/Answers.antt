use Rattle.std.proofs.Common.{arith}
use Rattle.fair_shares.proofs.UserNodes.{all_found, next_node, one_found}
use Rattle.fair_shares.proofs.owners.user_nodes.Goals as goal

pub loop-leaf-preserved : goal.loop-leaf-preserved
loop-leaf-preserved g c =
    one_found c.args.flat.now c.args.asks.now c.loop-leaf.nodes.items c.push.new.self.items c.loop-leaf.leaf c.loop-leaf.from c.run_of-leaves.result c.in-Some.node
    c.nodes-bounded.ensures.flat c.requires.tree c.loop-leaf.invariant c.loop-leaf-test.true c.run_of-leaves.ensures.run c.in-Some.ensures.some
    c.in_ok-push-in-Some.ensures.items

pub unreachable-requires : goal.unreachable-requires
unreachable-requires g c =
    let next = next_node c.args.flat.now c.args.asks.now c.loop-leaf.nodes.items c.loop-leaf.leaf c.loop-leaf.from c.run_of-leaves.result c.requires.tree c.loop-leaf.invariant c.loop-leaf-test.true c.run_of-leaves.ensures.run in
    c.in-None.ensures.none next.0 next.1 next.2

pub returns-clause-row : goal.returns-clause-row
returns-clause-row g c =
    all_found c.args.flat.now c.args.asks.now c.loop-leaf.nodes.items c.loop-leaf.leaf c.loop-leaf.from c.requires.tree c.loop-leaf.invariant (omega arith)
