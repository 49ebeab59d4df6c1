use Rattle.std.proofs.Common.{arith, List, ap, length, sum}
use Rattle.limit_tree.specs.Outline.{limits}
use Rattle.limit_tree.specs.declared.place.Place.{Place}
use Rattle.limit_tree.proofs.Sums.{sum-wanted}
use Rattle.limit_tree.proofs.flat.Flat.is_full.Goals as goal

pub is_full-requires-clause-inside : goal.is_full-requires-clause-inside
is_full-requires-clause-inside g c = omega (arith, c.place.ensures.inside, c.requires.grants.leaves)

pub is_full-requires-clause-fits : goal.is_full-requires-clause-fits
is_full-requires-clause-fits g c =
    let wants = ap (λ (ps : List Place). sum (limits ps).wants) c.self.view_is in
    let leaves = ap (λ (ps : List Place). length (limits ps).wants) c.self.view_is in
    omega (arith, c.self.invariant.flat.few_octets, c.self.invariant.flat.few_leaves, wants, leaves, sum-wanted (limits c.args.self.now) c.args.grants.now c.requires.grants)
