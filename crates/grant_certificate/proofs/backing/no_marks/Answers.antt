use Rattle.grant_certificate.proofs.Seen.{none_marked}
use Rattle.grant_certificate.proofs.backing.no_marks.Goals as goal

pub returns : goal.returns
returns c = record { none = none_marked 4096 }
