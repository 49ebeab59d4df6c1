use Rattle.line_mender.proofs.Aborting.{takes_marks_out}
use Rattle.line_mender.proofs.laws.marks_are_taken_out.Goals as goal

pub returns : goal.returns
returns c = record { taken = takes_marks_out }
