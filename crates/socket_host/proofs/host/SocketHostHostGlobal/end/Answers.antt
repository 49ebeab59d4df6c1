use Rattle.std.proofs.Common.{ap}
use Rattle.control_session.proofs.Lending.{lifts}
use Rattle.socket_host.specs.Doing.{kept_users}
use Rattle.socket_host.proofs.Doing.{lends_same}
use Rattle.socket_host.proofs.host.SocketHostHostGlobal.end.Goals as goal

pub returns-in-Some-clause-row : goal.returns-in-Some-clause-row
returns-in-Some-clause-row g c =
    let row = c.end_with.ensures.row in
    lifts c.args.event.now c.in-Some.event _ (cc) (
      row.0,
      kept_users c.args.self.now.standing,
      row.1,
      row.2,
      row.3,
      row.4,
      (lends_same _ _ _ c.end_with.ensures.standing, ap (λ s. s.run.payer) c.end_with.ensures.side),
      row.5,
    )
