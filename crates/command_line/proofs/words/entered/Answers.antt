use Rattle.command_line.proofs.Taken.{entered_as}
use Rattle.command_line.proofs.words.entered.Goals as goal

pub returns : goal.returns
returns c = record { entered = entered_as _ _ _ _ _ _ c.subcommand.ensures.name c.subcommand.ensures.rows }
