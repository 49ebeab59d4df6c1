use Rattle.std.proofs.Common.{ap}
use Rattle.std.specs.declared.alloc.Global.{Global}
use Rattle.control_session.specs.Rows.{IsRow}
use Rattle.server_house.specs.declared.terms.Terms.{Terms}
use Rattle.socket_host.proofs.Doing.{made_users}
use Rattle.socket_host.proofs.host.SocketHost.end_with.Goals as goal

pub returns-clause-row : goal.returns-clause-row
returns-clause-row g c = made_users {A = Global} {R = g.row.S-Source.Denot} {K = g.row.S-Sink.Denot} (IsRow {A = Global} {R = g.row.S-Source.Denot} {K = g.row.S-Sink.Denot} g.S.Store.Step) _ _ _ _ _ _ (ap (λ (t : Terms). t.users.users) c.terms.ensures.terms) c.millis_since_1970-moment.result _ _ _ _ c.end_by.ensures.row
