use Rattle.std.proofs.Common.{arith, ◌≡◌, ◌-◌, ◌^◌, ℕ, Some, ap}
use Rattle.round_allocator.proofs.Counts.{halve}
use Rattle.round_allocator.proofs.Searches.{keeps-at_zero, level-some, level-found}
use Rattle.round_allocator.proofs.level.search.Goals as goal

pub loop-step-init : goal.loop-step-init
loop-step-init g c =
    let floors = c.floors.ensures.taken (Some c.args.most) c.requires.branch in
    record {
      order = level-some c.args.tree.now c.args.node c.args.most c.args.level c.is_flat.ensures.flat c.requires.branch c.requires.above;
      top = omega arith;
      below = floors;
      fits = omega (arith, floors, keeps-at_zero c.args.tree.now c.args.node c.args.most c.is_flat.ensures.flat c.requires.branch);
      above = c.requires.above;
      width = omega (arith, c.requires.level);
      counted = omega arith;
    }

pub loop-step-preserved : goal.loop-step-preserved
loop-step-preserved g c =
    let was = c.loop-step.invariant in
    let next = c.narrow-window.ensures.narrower in
    record {
      order = next.order;
      top = omega (arith, next.top, was.top);
      below = next.below;
      fits = next.fits;
      above = next.above;
      width = omega (arith, next.width, was.width, was.order, halve c.loop-step._step c.loop-step-test.true);
      counted = omega (arith, c.narrow-window.ensures.counted, was.counted);
    }

pub returns-clause-level : goal.returns-clause-level
returns-clause-level g c =
    let was = c.loop-step.invariant in
    let last : 32 - c.loop-step._step ≡ 0 = omega (arith, c.loop-step-test.false) in
    let one : 2 ^ (32 - c.loop-step._step) ≡ 1 = ap (λ (n : ℕ). 2 ^ n) last in
    level-found c.args.tree.now c.args.node c.args.most c.loop-step.window.low c.loop-step.window.high c.loop-step.window.taken was.below was.fits was.above was.order (omega (arith, was.width, one))
