use Rattle.sheet_commands.specs.Svg.{guaranteed}
use Rattle.sheet_commands.proofs.elements.push_guaranteed.Goals as goal

pub returns : goal.returns
unfolding guaranteed
returns g c = record { appended = c.push_parts.ensures.appended }
