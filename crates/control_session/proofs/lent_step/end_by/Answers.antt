use Rattle.std.proofs.Common.{refl}
use Rattle.control_session.proofs.lent_step.end_by.Goals as goal

pub returns-clause-row : goal.returns-clause-row
returns-clause-row g c = record {
  reported = c.args.event;
  reported_is = refl;
  stepped = c.take_silently.ensures.row c.args.users.now.users c.args.floors.now;
}
