use Rattle.std.proofs.Common.{arith, sym, ap, ◌≡◌, ◌+◌, ℕ, length, ◌∙◌}
use Rattle.std.specs.Prelude.{slice_index}
use Rattle.limit_tree.specs.Outline.{leaf_range}
use Rattle.limit_tree.proofs.Sums.{sum_in}
use Rattle.limit_tree.proofs.RangeSums.{sum_in-range_none, sum_in-range_more, sum_in-range_all, sum_in-range_fits}
use Rattle.limit_tree.proofs.place.Place.sum.Goals as goal

pub loop-leaf-init : goal.loop-leaf-init
loop-leaf-init c = sym (sum_in-range_none c.args.self.first c.args.self.leaves (λ i. slice_index c.args.grants.now i) c.args.self.first (omega arith))

pub overflow_add-total : goal.overflow_add-total
overflow_add-total c = omega (arith, c.loop-leaf.invariant, sum_in-range_fits c.args.self.first c.args.self.leaves c.args.grants.now c.loop-leaf.leaf (omega arith))

pub loop-leaf-preserved : goal.loop-leaf-preserved
loop-leaf-preserved c = omega (arith, c.loop-leaf.invariant, sum_in-range_more c.args.self.first c.args.self.leaves (λ i. slice_index c.args.grants.now i) c.loop-leaf.leaf (omega arith) (omega arith))

pub returns : goal.returns
returns c =
    let e : c.loop-leaf.leaf ≡ c.args.self.first + c.args.self.leaves = omega arith in
    record {
      sum =
          c.loop-leaf.invariant ∙
          (ap (λ (k : ℕ). sum_in k (leaf_range c.args.self.first c.args.self.leaves) (λ i. slice_index c.args.grants.now i)) e ∙
          sym (sum_in-range_all c.args.self.first c.args.self.leaves (λ i. slice_index c.args.grants.now i) (length c.args.grants.now) c.requires.inside));
    }
