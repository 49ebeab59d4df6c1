use Rattle.std.proofs.Common.{arith, ◌+◌, ◌<◌, ◌≤◌, inl, inr}
use Rattle.limit_tree.proofs.RangeSums.{leaf_range-inside}
use Rattle.grant_certificate.proofs.Marks.{in_range}
use Rattle.grant_certificate.proofs.range.greatest.Goals as goal

pub returns : goal.returns
returns c =
    let first = c.args.first in
    let leaves = c.args.leaves in
    record {
      greatest = record {
        above = λ j within. let r = in_range first leaves j within in let h : j < first + leaves = r.1 in c.loop-leaf.invariant.above j r.0 (omega (arith, c.loop-leaf-test.false));
        one = elim c.loop-leaf.invariant.one [
          | inl zero ↦ inl zero
          | inr one ↦ let low : first ≤ one.0 = one.1 in let high : one.0 < c.loop-leaf.leaf = one.2 in inr (one.0, leaf_range-inside first leaves one.0 low (omega (arith, c.loop-leaf.auto.leaf-end)), one.3, one.4)
        ];
      };
    }
