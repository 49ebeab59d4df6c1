use Rattle.sheet_commands.specs.Svg.{rect_text}
use Rattle.sheet_commands.proofs.elements.push_rect.Goals as goal

pub returns : goal.returns
unfolding rect_text
returns g c = record { appended = c.push_parts.ensures.appended }
