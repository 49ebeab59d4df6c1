use Rattle.sheet_commands.specs.Svg.{axis_text}
use Rattle.sheet_commands.proofs.elements.push_axis.Goals as goal

pub returns : goal.returns
unfolding axis_text
returns g c = record { appended = c.push_parts.ensures.appended }
