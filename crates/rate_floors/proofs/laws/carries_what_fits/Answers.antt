use Rattle.rate_floors.proofs.CarryLemmas.{carries_what_fits, names_a_broken_limit}
use Rattle.rate_floors.proofs.laws.carries_what_fits.Goals as goal

pub returns : goal.returns
returns c = record { fits = carries_what_fits; broken = names_a_broken_limit }
