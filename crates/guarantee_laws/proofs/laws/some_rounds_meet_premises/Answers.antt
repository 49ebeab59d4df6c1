use Rattle.guarantee_laws.proofs.Examples.{some_rounds}
use Rattle.guarantee_laws.proofs.laws.some_rounds_meet_premises.Goals as goal

pub returns : goal.returns
returns c = record { example = some_rounds c.rows_are_handed_in.ensures.rows c.stretches_keep_rates.ensures.new }
