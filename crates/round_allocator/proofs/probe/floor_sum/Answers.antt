use Rattle.std.proofs.Common.{arith, ◌≡◌, ◌+◌, suc, ap}
use Rattle.limit_tree.specs.Outline.{limits}
use Rattle.round_allocator.specs.Levels.{upto}
use Rattle.round_allocator.proofs.Floors.{floor_most}
use Rattle.round_allocator.proofs.probe.floor_sum.Goals as goal

pub overflow_add-total : goal.overflow_add-total
overflow_add-total g c =
    let most = floor_most c.args.flat.now c.loop-leaf.leaf c.nodes-nodes.ensures.flat (omega arith) in
    omega (arith, c.loop-leaf.invariant.few, most, c.floor-total.ensures.floor, c.leaves-leaves.ensures.most)

pub loop-leaf-preserved : goal.loop-leaf-preserved
loop-leaf-preserved g c =
    let most = floor_most c.args.flat.now c.loop-leaf.leaf c.nodes-nodes.ensures.flat (omega arith) in
    let next : upto (limits c.args.flat.now).floors (c.loop-leaf.leaf + 1) ≡ upto (limits c.args.flat.now).floors (suc c.loop-leaf.leaf) = let e : c.loop-leaf.leaf + 1 ≡ suc c.loop-leaf.leaf = omega arith in ap (upto (limits c.args.flat.now).floors) e in
    record {
      from = omega (arith, c.loop-leaf.invariant.from);
      sum = omega (arith, c.loop-leaf.invariant.sum, next, c.floor-total.ensures.floor);
      few = omega (arith, c.loop-leaf.invariant.few, c.loop-leaf.invariant.from, most, c.floor-total.ensures.floor);
    }
