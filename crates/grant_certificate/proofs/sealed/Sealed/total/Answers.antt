use Rattle.std.proofs.Common.{subst, arith, ap, sum, List, ℕ}
use Rattle.limit_tree.specs.Outline.{limits}
use Rattle.limit_tree.proofs.Sums.{sum-wanted}
use Rattle.grant_certificate.specs.Sealing.{Sealing, IsBestFor}
use Rattle.grant_certificate.proofs.sealed.Sealed.total.Goals as goal

pub sum_of-requires : goal.sum_of-requires
sum_of-requires g c = omega (arith, c.leaves.ensures.octets, c.leaves.ensures.most, ap (λ (xs : List ℕ). sum xs) c.deref.ensures.value, sum-wanted (limits c.self.inside.tree) c.self.inside.grants.items c.self.invariant.within.wanted)

pub returns-clause-best : goal.returns-clause-best
returns-clause-best g c = subst (λ (s : Sealing). IsBestFor s.owners (limits s.tree) s.grants) c.self.view_is c.self.invariant.best
