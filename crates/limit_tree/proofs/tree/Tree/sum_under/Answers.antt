use Rattle.std.proofs.Common.{arith, List, ap, sum}
use Rattle.limit_tree.specs.Outline.{limits}
use Rattle.limit_tree.specs.declared.place.Place.{Place}
use Rattle.limit_tree.proofs.Sums.{sum-wanted}
use Rattle.limit_tree.proofs.tree.Tree.sum_under.Goals as goal

pub sum-requires-clause-inside : goal.sum-requires-clause-inside
sum-requires-clause-inside g c = omega (arith, c.place.ensures.inside, c.requires.grants.leaves)

pub sum-requires-clause-fits : goal.sum-requires-clause-fits
sum-requires-clause-fits g c = omega (arith, c.self.invariant.few_octets, c.self.invariant.few_leaves, ap (λ (ps : List Place). sum (limits ps).wants) c.self.view_is, sum-wanted (limits c.args.self.now) c.args.grants.now c.requires.grants)
