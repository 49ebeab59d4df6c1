use Rattle.paced_rounds.proofs.Even.{even_by_turns}
use Rattle.paced_rounds.proofs.LaneLemmas.{rounds_even}
use Rattle.paced_rounds.proofs.laws.turns_are_even.Goals as goal

pub returns : goal.returns
returns c = record { even = even_by_turns; lanes = rounds_even }
