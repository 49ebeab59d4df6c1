use Rattle.sheet_commands.specs.Svg.{heading_text}
use Rattle.sheet_commands.proofs.elements.push_heading.Goals as goal

pub returns : goal.returns
unfolding heading_text
returns g c = record { appended = c.push_parts.ensures.appended }
