use Rattle.std.proofs.Common.{refl}
use Rattle.grant_certificate.proofs.Seen.{held-nothing}
use Rattle.grant_certificate.proofs.backing.BackingLook.new.Goals as goal

pub returns-clause-start : goal.returns-clause-start
returns-clause-start c = record {
  grants = refl;
  floors = refl;
  entries = refl;
  marked = λ i. (λ marked. absurd (c.no_marks.ensures.none i marked), λ held. absurd (held-nothing c.args.grants.now c.args.floors.now c.args.entries.now i held));
}
