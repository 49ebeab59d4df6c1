use Rattle.command_line.proofs.Taken.{refusal}
use Rattle.command_line.proofs.words.parsed.Goals as goal

pub returns-in-Err-clause-refused : goal.returns-in-Err-clause-refused
returns-in-Err-clause-refused c = λ free. refusal _ _ _ c.refused.ensures.memory c.refused.ensures.refused (c.in-Err.ensures.kinds free)
