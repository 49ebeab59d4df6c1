use Rattle.line_mender.proofs.Aborting.{ends_aborts}
use Rattle.line_mender.proofs.laws.aborts_are_ended.Goals as goal

pub returns : goal.returns
returns c = record { ended = ends_aborts }
