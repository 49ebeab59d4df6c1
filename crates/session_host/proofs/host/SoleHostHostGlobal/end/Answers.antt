use Rattle.std.proofs.Common.{refl}
use Rattle.control_session.proofs.Lending.{lifts}
use Rattle.session_host.proofs.host.SoleHostHostGlobal.end.Goals as goal

pub returns-in-Some-clause-row : goal.returns-in-Some-clause-row
returns-in-Some-clause-row g c = lifts c.args.event.now c.in-Some.event _ (cc) (
  c.moment-moment.result,
  c.args.self.now.users.now.users,
  c.args.self.now.store.now,
  c.end_by.new.store,
  c.args.self.now.floors.now,
  c.end_by.new.floors,
  (
    record { users = refl; store = refl; floors = refl; clock = refl; side = refl; reader = refl; writer = refl; hooks = refl },
    record { gives = c.moment-moment.ensures; users_lent = refl; store_lent = refl; promises_lent = refl; rest = refl },
  ),
  c.end_by.ensures.row,
)
