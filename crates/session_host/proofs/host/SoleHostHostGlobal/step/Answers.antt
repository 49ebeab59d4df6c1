use Rattle.std.proofs.Common.{ap, refl}
use Rattle.rate_floors.specs.Promises.{Promises}
use Rattle.session_host.specs.Alone.{parts}
use Rattle.control_session.proofs.Lending.{lend, lend_refused}
use Rattle.control_session.specs.Sides.{back_in}
use Rattle.session_host.proofs.host.SoleHostHostGlobal.step.Goals as goal

pub returns-clause-row : goal.returns-clause-row
returns-clause-row g c = lend c.args.input.now c.step_by.result _ _ (λ input actions row. (
  c.moment-moment.result,
  c.args.self.now.users.now.users,
  c.args.self.now.store.now,
  c.step_by.new.store,
  c.args.self.now.floors.now,
  c.step_by.new.floors,
  (
    record { users = refl; store = refl; floors = refl; clock = refl; side = refl; reader = refl; writer = refl; hooks = refl },
    record { gives = c.moment-moment.ensures; users_lent = refl; store_lent = refl; promises_lent = refl; rest = refl },
  ),
  row,
)) c.step_by.ensures.row

pub returns-clause-refused : goal.returns-clause-refused
returns-clause-refused g c = lend_refused c.args.input.now c.step_by.result _ _ (λ input. back_in input) _ (λ input same stopped. (
  (
    c.moment-moment.result,
    c.args.self.now.users.now.users,
    c.args.self.now.store.now,
    c.step_by.new.store,
    c.args.self.now.floors.now,
    (
      record { users = refl; store = refl; floors = refl; clock = refl; side = refl; reader = refl; writer = refl; hooks = refl },
      record {
        gives = c.moment-moment.ensures;
        users_lent = refl;
        store_lent = refl;
        promises_lent = refl;
        rest = ap (λ (p : Promises). record (parts c.args.self.now) { clock = c.moment-moment.new.self; store = c.step_by.new.store; promises = p }) same.1;
      },
    ),
    stopped,
  ),
  refl,
)) c.step_by.ensures.unchanged c.step_by.ensures.stopped c.step_by.ensures.back
