use Rattle.server_config.proofs.Places.{numbers_agree}
use Rattle.server_config.proofs.numbers.numbers_agree.Goals as goal

pub returns : goal.returns
returns c = record { agree = numbers_agree }
