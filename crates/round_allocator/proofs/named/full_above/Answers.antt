use Rattle.std.proofs.Common.{arith, ◌≡◌, ◌+◌, ◌∙◌, ℕ, List, Option, length, sym, ap, subst}
use Rattle.limit_tree.specs.Outline.{limits}
use Rattle.round_allocator.specs.Marks.{HasMark}
use Rattle.round_allocator.proofs.Pours.{back}
use Rattle.round_allocator.proofs.Marks.{mark-none, marks-deepest}
use Rattle.round_allocator.proofs.named.full_above.Goals as goal

pub loop-node-init : goal.loop-node-init
loop-node-init g c = record {
  size = c.in_ok-marks.ensures.leaves;
  marked = λ i l. mark-none c.args.flat.now c.args.grants.now i c.in_ok-marks.marks.items (c.in_ok-marks.ensures.none i l);
}

pub mark_full-requires-clause-marked : goal.mark_full-requires-clause-marked
mark_full-requires-clause-marked g c = λ i l. subst (λ (m : List (Option ℕ)). HasMark (limits c.args.flat.now) c.args.grants.now c.loop-node.node i m) (sym c.deref_mut.ensures.value) (c.loop-node.invariant.marked i l)

pub loop-node-preserved : goal.loop-node-preserved
loop-node-preserved g c =
    let items = c.loop-node.marks.items in
    let new = c.mark_full.new.marks in
    let whole : length new ≡ length items = c.mark_full.ensures.size ∙ sym c.loop-node.invariant.size in
    let len : c.loop-node.marks.len ≡ length items = sym c.deref_mut.ensures.len ∙ ap length c.deref_mut.ensures.value in
    let same = back c.loop-node.marks.len new items whole len in
    record {
      size = ap length same ∙ c.mark_full.ensures.size;
      marked = λ i l. subst (λ (m : List (Option ℕ)). HasMark (limits c.args.flat.now) c.args.grants.now (c.loop-node.node + 1) i m) (sym same) (c.mark_full.ensures.marked i l);
    }

pub returns : goal.returns
returns g c = record { deepest = marks-deepest c.args.flat.now c.args.grants.now c.loop-node.node c.loop-node.marks.items (omega (arith, c.loop-node-test.false, c.nodes-node-end.ensures.nodes)) c.loop-node.invariant.size c.loop-node.invariant.marked }
