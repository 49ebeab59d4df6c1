use Rattle.std.proofs.Common.{refl}
use Rattle.grant_certificate.proofs.Seen.{over-nothing}
use Rattle.grant_certificate.proofs.over.FindOverLimit.new.Goals as goal

pub returns-clause-start : goal.returns-clause-start
returns-clause-start c = record { grants = refl; found = over-nothing c.args.grants.now }
