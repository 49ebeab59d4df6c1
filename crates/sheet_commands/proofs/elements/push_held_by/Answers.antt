use Rattle.sheet_commands.specs.Svg.{held_by}
use Rattle.sheet_commands.proofs.elements.push_held_by.Goals as goal

pub returns : goal.returns
unfolding held_by
returns g c = record { appended = c.push_parts.ensures.appended }
