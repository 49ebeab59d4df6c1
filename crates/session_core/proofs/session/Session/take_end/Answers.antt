use Rattle.std.proofs.Common.{subst}
use Rattle.ftp_wire.specs.Reading.{items_of}
use Rattle.session_table.specs.Steps.{SessionStep, Standing}
use Rattle.session_table.specs.declared.inputs.Input.TheVariants.{TransferEnded}
use Rattle.session_core.proofs.DataRows.{end_step}
use Rattle.session_core.proofs.session.Session.take_end.Goals as goal
use Rattle.std.proofs.lemmas.Result.{IfOk-weaker}

pub returns-clause-row : goal.returns-clause-row
returns-clause-row g c promises =
    let held = items_of c.self.inside.held.items in
    IfOk-weaker c.end_transfer.result _ _ (λ actions ran.
    subst (λ (s : Standing). SessionStep {A = g.row.A.Denot} {R = g.row.S-Source.Denot} {K = g.row.S-Sink.Denot} g.S.Store.Step c.args.users.now.users s.view s.held c.args.moment (TransferEnded c.args.end c.args.sink.now) c.args.store.now c.end_transfer.new.store promises promises c.end_transfer.new.state held actions.items) c.self.view_is
    (end_step g.S.Store.Step c.args.users.now.users promises c.self.inside.state c.end_transfer.new.state held c.args.moment c.args.end c.args.sink.now c.args.store.now c.end_transfer.new.store actions.items ran)) c.end_transfer.ensures.row
