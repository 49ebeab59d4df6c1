use Rattle.sheet_commands.specs.Svg.{share_text}
use Rattle.sheet_commands.proofs.elements.push_share.Goals as goal

pub returns : goal.returns
unfolding share_text
returns g c = record { appended = c.push_parts.ensures.appended }
