use Rattle.std.proofs.Common.{[], refl, sym, subst}
use Rattle.ftp_wire.specs.Reading.{items_of}
use Rattle.session_table.specs.Steps.{SessionStep, Standing}
use Rattle.session_table.specs.declared.inputs.Input.{Input}
use Rattle.session_table.specs.declared.inputs.Input.TheVariants.{TransferEnded}
use Rattle.session_core.proofs.DataRows.{end_step, ready_before, ready_step}
use Rattle.session_core.proofs.session.Session.take_silently.Goals as goal

pub returns-in-TransferEnded-clause-row : goal.returns-in-TransferEnded-clause-row
returns-in-TransferEnded-clause-row g c users promises =
    let held = items_of c.self.inside.held.items in
    subst (λ (i : Input g.row.A.Denot g.row.S-Sink.Denot). SessionStep {A = g.row.A.Denot} {R = g.row.S-Source.Denot} {K = g.row.S-Sink.Denot} g.S.Store.Step users c.args.self.now.view c.args.self.now.held c.args.moment i c.args.store.now c.finish.new.store promises promises c.finish.new.state held []) (sym c.in-TransferEnded.is)
    (subst (λ (s : Standing). SessionStep {A = g.row.A.Denot} {R = g.row.S-Source.Denot} {K = g.row.S-Sink.Denot} g.S.Store.Step users s.view s.held c.args.moment (TransferEnded c.in-TransferEnded.end c.in-TransferEnded.sink) c.args.store.now c.finish.new.store promises promises c.finish.new.state held []) c.self.view_is
    (end_step g.S.Store.Step users promises c.self.inside.state c.finish.new.state held c.args.moment c.in-TransferEnded.end c.in-TransferEnded.sink c.args.store.now c.finish.new.store [] (c.finish.ensures.row users c.in-TransferEnded.end)))

pub returns-in-DataReady-clause-row : goal.returns-in-DataReady-clause-row
returns-in-DataReady-clause-row g c users promises =
    subst (λ (i : Input g.row.A.Denot g.row.S-Sink.Denot). SessionStep {A = g.row.A.Denot} {R = g.row.S-Source.Denot} {K = g.row.S-Sink.Denot} g.S.Store.Step users c.args.self.now.view c.args.self.now.held c.args.moment i c.args.store.now c.args.store.now promises promises c.args.self.now.view c.args.self.now.held []) (sym c.in-DataReady.is)
    (ready_step g.S.Store.Step users promises c.args.self.now.view c.args.self.now.view c.args.self.now.held c.args.moment c.in-DataReady.field-0 c.args.store.now c.args.self.now.held [] (ready_before users c.args.self.now.view c.in-DataReady.field-0 c.requires.closed) refl)
