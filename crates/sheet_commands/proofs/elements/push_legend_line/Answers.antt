use Rattle.sheet_commands.specs.Svg.{legend_line}
use Rattle.sheet_commands.proofs.elements.push_legend_line.Goals as goal

pub returns : goal.returns
unfolding legend_line
returns g c = record { appended = c.push_parts.ensures.appended }
