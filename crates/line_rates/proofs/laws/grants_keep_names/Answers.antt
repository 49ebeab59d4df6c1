use Rattle.line_rates.proofs.GrantLemmas.{kept}
use Rattle.line_rates.proofs.laws.grants_keep_names.Goals as goal

pub returns : goal.returns
returns c = record { kept = kept }
