use Rattle.paced_rounds.specs.LaneTurns.{turns_in}
use Rattle.paced_rounds.proofs.LaneLemmas.{lanes_even}
use Rattle.paced_rounds.proofs.rounds.PacedRounds.lanes_are_even.Goals as goal

pub returns : goal.returns
returns g c = record { even = lanes_even c.turns_are_even.ensures.lanes c.args.self.now.had (turns_in c.args.self.now.turns.items) c.args.self.now.turned }
