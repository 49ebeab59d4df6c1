use Rattle.sheet_commands.specs.Svg.{foot_start}
use Rattle.sheet_commands.proofs.elements.push_foot_start.Goals as goal

pub returns : goal.returns
unfolding foot_start
returns g c = record { appended = c.push_parts.ensures.appended }
