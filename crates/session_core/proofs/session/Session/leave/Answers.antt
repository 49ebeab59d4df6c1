use Rattle.std.proofs.Common.{◌∙◌, ap, sym, subst}
use Rattle.ftp_wire.specs.Reading.{items_of}
use Rattle.session_events.specs.Leaving.{leaving_actions}
use Rattle.session_table.specs.Steps.{SessionStep, Standing}
use Rattle.session_table.specs.declared.inputs.Input.TheVariants.{Closed}
use Rattle.session_table.specs.Views.{is_closed}
use Rattle.session_core.proofs.DataRows.{closed_step, gone_before, leaves_now}
use Rattle.session_core.proofs.session.Session.leave.Goals as goal

pub returns-then-is_closed-clause-row : goal.returns-then-is_closed-clause-row
returns-then-is_closed-clause-row g c users promises moment store =
    closed_step g.S.Store.Step users promises c.args.self.now.view c.args.self.now.view c.args.self.now.held moment store _
    (gone_before c.args.self.now.view (sym c.is_closed.ensures.closed ∙ c.if-is_closed.true))

pub returns-clause-row : goal.returns-clause-row
returns-clause-row g c users promises moment store =
    let held = items_of c.self.inside.held.items in
    subst (λ (s : Standing). SessionStep {A = g.row.A.Denot} {R = g.row.S-Source.Denot} {K = g.row.S-Sink.Denot} g.S.Store.Step users s.view s.held moment Closed store store promises promises c.leave.new.state held (leaving_actions c.leave.result)) c.self.view_is
    (closed_step g.S.Store.Step users promises c.self.inside.state c.leave.new.state held moment store _
    (leaves_now c.self.inside.state c.leave.new.state c.leave.result (ap (λ (s : Standing). is_closed s.view.stage) c.self.view_is ∙ (sym c.is_closed.ensures.closed ∙ c.if-is_closed.false)) c.leave.ensures.silent c.leave.ensures.aborts c.leave.ensures.left))
