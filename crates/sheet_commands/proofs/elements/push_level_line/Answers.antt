use Rattle.sheet_commands.specs.Svg.{level_line}
use Rattle.sheet_commands.proofs.elements.push_level_line.Goals as goal

pub returns : goal.returns
unfolding level_line
returns g c = record { appended = c.push_parts.ensures.appended }
