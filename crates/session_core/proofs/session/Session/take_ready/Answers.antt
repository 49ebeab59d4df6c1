use Rattle.session_core.proofs.DataRows.{ready_step}
use Rattle.session_core.proofs.session.Session.take_ready.Goals as goal
use Rattle.std.proofs.lemmas.Result.{IfOk-weaker}

pub returns-clause-row : goal.returns-clause-row
returns-clause-row g c promises moment store =
    IfOk-weaker c.take_port.result _ _ (λ actions row.
    ready_step g.S.Store.Step c.args.users.now.users promises c.args.self.now.view c.take_port.new.self.view c.args.self.now.held moment c.args.port store c.take_port.new.self.held actions.items row c.take_port.ensures.held) c.take_port.ensures.row
