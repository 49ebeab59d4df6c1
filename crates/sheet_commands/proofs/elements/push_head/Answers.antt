use Rattle.sheet_commands.specs.Svg.{head_text}
use Rattle.sheet_commands.proofs.elements.push_head.Goals as goal

pub returns : goal.returns
unfolding head_text
returns g c = record { appended = c.push_parts.ensures.appended }
