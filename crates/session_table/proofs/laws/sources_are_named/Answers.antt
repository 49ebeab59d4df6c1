use Rattle.session_table.proofs.Sources.{sources_are_named}
use Rattle.session_table.proofs.laws.sources_are_named.Goals as goal

pub returns : goal.returns
returns g c = record { named = sources_are_named _ _ _ }
