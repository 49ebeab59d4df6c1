use Rattle.std.proofs.Common.{◌+◌, ◌≤◌, ℕ, arith, get_or, take}
use Rattle.std.specs.Prelude.{sum}
use Rattle.std.proofs.lemmas.List.Sums.{sum_by_more_le}
use Rattle.lent_parts.proofs.counting.count_all.Goals as goal

pub count-requires-clause-fits : goal.count-requires-clause-fits
count-requires-clause-fits g c =
    let more : sum (take c.loop-leaf.leaf c.args.grants.now) + get_or c.args.grants.now c.loop-leaf.leaf 0 ≤ sum c.args.grants.now = sum_by_more_le (λ (x : ℕ). x) c.args.grants.now c.loop-leaf.leaf 0 c.loop-leaf-test.true in
    omega (arith, more, c.requires.fits, c.loop-leaf.invariant)
