use Rattle.sheet_commands.specs.Svg.{coloured}
use Rattle.sheet_commands.proofs.elements.push_coloured.Goals as goal

pub returns : goal.returns
unfolding coloured
returns g c = record { appended = c.push_parts.ensures.appended }
