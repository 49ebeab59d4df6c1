use Rattle.sheet_commands.specs.Svg.{lid_line}
use Rattle.sheet_commands.proofs.elements.push_lid_line.Goals as goal

pub returns : goal.returns
unfolding lid_line
returns g c = record { appended = c.push_parts.ensures.appended }
