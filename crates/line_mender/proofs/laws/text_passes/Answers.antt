use Rattle.line_mender.proofs.Passing.{passes_text}
use Rattle.line_mender.proofs.laws.text_passes.Goals as goal

pub returns : goal.returns
returns c = record { passes = passes_text }
