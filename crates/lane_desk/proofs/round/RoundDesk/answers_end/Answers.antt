use Rattle.lane_desk.proofs.RoundCalls.{none_due, quiet_when}
use Rattle.lane_desk.proofs.round.RoundDesk.answers_end.Goals as goal

pub returns : goal.returns
returns g c = record { quiet = λ all. quiet_when c.args.self.now.seat.me.0 c.args.self.now.answers (none_due _ all) }
