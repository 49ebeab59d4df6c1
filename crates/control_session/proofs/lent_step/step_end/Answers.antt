use Rattle.std.proofs.Common.{refl, sym, subst}
use Rattle.session_table.specs.Steps.{SessionStops}
use Rattle.session_table.specs.declared.inputs.Input.TheVariants.{TransferEnded}
use Rattle.session_core.proofs.Plans.{step_stops_here}
use Rattle.control_session.proofs.lent_step.step_end.Goals as goal

pub returns-in-Ok-clause-row : goal.returns-in-Ok-clause-row
returns-in-Ok-clause-row g c floors = record {
  reported = TransferEnded c.args.end c.args.sink;
  reported_is = refl;
  stepped = c.in-Ok.ensures.row floors;
}

pub returns-in-Err-clause-stopped : goal.returns-in-Err-clause-stopped
returns-in-Err-clause-stopped g c =
    let before = c.args.session.now in
    record {
      reported = TransferEnded c.args.end c.args.sink;
      reported_is = refl;
      stops = subst (λ s. SessionStops {A = g.row.A.Denot} {R = g.row.S-Source.Denot} {K = g.row.S-Sink.Denot} g.S.Store.Step c.args.users.now.users before.view before.held c.args.moment (TransferEnded c.args.end c.args.sink) c.args.store.now s) (sym c.in-Err.ensures.untouched)
          (step_stops_here g.S.Store.Step c.args.users.now.users before.view before.held c.args.moment (TransferEnded c.args.end c.args.sink) c.args.store.now);
    }
