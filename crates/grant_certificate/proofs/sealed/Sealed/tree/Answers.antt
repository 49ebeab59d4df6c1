use Rattle.std.proofs.Common.{subst}
use Rattle.limit_tree.specs.Outline.{limits}
use Rattle.grant_certificate.specs.Sealing.{Sealing, IsBestFor}
use Rattle.grant_certificate.proofs.sealed.Sealed.tree.Goals as goal

pub returns-clause-best : goal.returns-clause-best
returns-clause-best g c = subst (λ (s : Sealing). IsBestFor s.owners (limits s.tree) s.grants) c.self.view_is c.self.invariant.best
