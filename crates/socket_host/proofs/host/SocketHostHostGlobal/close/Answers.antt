use Rattle.std.proofs.Common.{ap, refl}
use Rattle.server_house.specs.declared.terms.Terms.{Terms}
use Rattle.socket_host.proofs.Doing.{lends_by}
use Rattle.socket_host.proofs.host.SocketHostHostGlobal.close.Goals as goal

pub returns-clause-row : goal.returns-clause-row
returns-clause-row g c = (c.millis_since_1970-moment.result, _, _, _, _, _, (lends_by _ _ _ _ (ap (λ (t : Terms). t.users.users) c.terms.ensures.terms) refl, refl), c.close_by.ensures.row)
