use Rattle.sheet_text.proofs.Mentioned.{stated_or_above}
use Rattle.sheet_text.proofs.laws.mentioned_is_stated_or_above.Goals as goal

pub returns : goal.returns
returns c = λ stated. stated_or_above stated
