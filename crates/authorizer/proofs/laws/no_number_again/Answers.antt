use Rattle.authorizer.proofs.Numbering.{no_number_again}
use Rattle.authorizer.proofs.laws.no_number_again.Goals as goal

pub returns : goal.returns
returns c = record { again = no_number_again }
