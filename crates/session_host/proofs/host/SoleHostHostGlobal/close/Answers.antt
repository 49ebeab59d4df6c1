use Rattle.std.proofs.Common.{refl}
use Rattle.session_host.proofs.host.SoleHostHostGlobal.close.Goals as goal

pub returns-clause-row : goal.returns-clause-row
returns-clause-row g c = (
  c.moment-moment.result,
  c.args.self.now.users.now.users,
  c.args.self.now.store.now,
  c.close_by.new.store,
  c.args.self.now.floors.now,
  c.close_by.new.floors,
  (
    record { users = refl; store = refl; floors = refl; clock = refl; side = refl; reader = refl; writer = refl; hooks = refl },
    record { gives = c.moment-moment.ensures; users_lent = refl; store_lent = refl; promises_lent = refl; rest = refl },
  ),
  c.close_by.ensures.row,
)
