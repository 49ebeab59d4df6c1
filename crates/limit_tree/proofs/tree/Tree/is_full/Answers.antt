use Rattle.std.proofs.Common.{arith, List, ap, sum}
use Rattle.limit_tree.specs.Outline.{limits}
use Rattle.limit_tree.specs.declared.place.Place.{Place}
use Rattle.limit_tree.proofs.Sums.{sum-wanted}
use Rattle.limit_tree.proofs.tree.Tree.is_full.Goals as goal

pub is_full-requires-clause-inside : goal.is_full-requires-clause-inside
is_full-requires-clause-inside g c = omega (arith, c.place.ensures.inside, c.requires.grants.leaves)

pub is_full-requires-clause-fits : goal.is_full-requires-clause-fits
is_full-requires-clause-fits g c = omega (arith, c.self.invariant.few_octets, c.self.invariant.few_leaves, ap (λ (ps : List Place). sum (limits ps).wants) c.self.view_is, sum-wanted (limits c.args.self.now) c.args.grants.now c.requires.grants)
