use Rattle.sheet_commands.specs.Svg.{own_limit_text}
use Rattle.sheet_commands.proofs.elements.push_own_limit.Goals as goal

pub returns : goal.returns
unfolding own_limit_text
returns g c = record { appended = c.push_parts.ensures.appended }
