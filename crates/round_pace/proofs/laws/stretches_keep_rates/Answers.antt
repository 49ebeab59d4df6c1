use Rattle.round_pace.proofs.Starting.{new_is_changed}
use Rattle.round_pace.proofs.Stretching.{stretches_keep_rates, one_stretch_keeps, changed_rates}
use Rattle.round_pace.proofs.laws.stretches_keep_rates.Goals as goal

pub returns : goal.returns
returns c = record { kept = stretches_keep_rates; one = one_stretch_keeps; changed = changed_rates; new = new_is_changed }
