use Rattle.std.proofs.Common.{refl}
use Rattle.session_table.specs.declared.inputs.Input.TheVariants.{DataReady}
use Rattle.session_core.proofs.Plans.{step_stops_here}
use Rattle.control_session.proofs.lent_step.step_ready.Goals as goal

pub returns-in-Ok-clause-row : goal.returns-in-Ok-clause-row
returns-in-Ok-clause-row g c moment store floors = record {
  reported = DataReady c.args.port;
  reported_is = refl;
  stepped = c.in-Ok.ensures.row floors moment store;
}

pub returns-in-Err-clause-stopped : goal.returns-in-Err-clause-stopped
returns-in-Err-clause-stopped g c moment store =
    let before = c.args.session.now in
    record {
      reported = DataReady c.args.port;
      reported_is = refl;
      stops = step_stops_here g.S.Store.Step c.args.users.now.users before.view before.held moment (DataReady c.args.port) store;
    }
