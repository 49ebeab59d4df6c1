use Rattle.test_allotment.proofs.Runs.{runs-alike}
use Rattle.test_allotment.proofs.plain.runs_end_alike.Goals as goal

pub returns : goal.returns
returns c = record { alike = runs-alike }
