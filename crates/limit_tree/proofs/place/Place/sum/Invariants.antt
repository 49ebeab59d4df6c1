use Rattle.std.proofs.Common.{◌≡◌}
use Rattle.std.specs.Prelude.{slice_index}
use Rattle.limit_tree.specs.Outline.{leaf_range}
use Rattle.limit_tree.proofs.Sums.{sum_in}
use Rattle.limit_tree.proofs.place.Place.sum.Given as goal

abbrev pub invariant-loop-leaf : goal.invariant-loop-leaf
invariant-loop-leaf l = l.total ≡ sum_in l.leaf (leaf_range l.fn.self.first l.fn.self.leaves) (λ i. slice_index l.grants i)
