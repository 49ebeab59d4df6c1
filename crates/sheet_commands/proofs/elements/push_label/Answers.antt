use Rattle.sheet_commands.specs.Svg.{label_text}
use Rattle.sheet_commands.proofs.elements.push_label.Goals as goal

pub returns : goal.returns
unfolding label_text
returns g c = record { appended = c.push_parts.ensures.appended }
