use Rattle.std.proofs.Common.{IfOk, refl, sym, subst}
use Rattle.std.proofs.lemmas.Result.{IfOk-weaker}
use Rattle.session_table.specs.Steps.{SessionStep, SessionStops}
use Rattle.session_table.specs.declared.inputs.Input.{Input}
use Rattle.session_table.specs.declared.inputs.Input.TheVariants as input
use Rattle.session_table.specs.Table.{beside, closed_at, ready_at}
use Rattle.session_core.proofs.Plans.{on_err, on_err_from, ran_then, step_by, step_stops_here}
use Rattle.session_core.proofs.session.Session.step.Goals as goal

pub returns-in-TransferEnded-clause-row : goal.returns-in-TransferEnded-clause-row
returns-in-TransferEnded-clause-row g c =
    subst (λ (i : Input g.row.A.Denot g.row.S-Sink.Denot). IfOk c.take_end.result (λ actions. SessionStep {A = g.row.A.Denot} {R = g.row.S-Source.Denot} {K = g.row.S-Sink.Denot} g.S.Store.Step c.args.users.now.users c.args.self.now.view c.args.self.now.held c.args.moment i c.args.store.now c.take_end.new.store c.args.floors.now c.args.floors.now c.take_end.new.self.view c.take_end.new.self.held actions.items)) (sym c.in-TransferEnded.is)
    (c.take_end.ensures.row c.args.floors.now)

pub returns-in-TransferEnded-clause-stops : goal.returns-in-TransferEnded-clause-stops
returns-in-TransferEnded-clause-stops g c =
    on_err_from c.take_end.result (λ same.
    subst (λ s. SessionStops {A = g.row.A.Denot} {R = g.row.S-Source.Denot} {K = g.row.S-Sink.Denot} g.S.Store.Step c.args.users.now.users c.args.self.now.view c.args.self.now.held c.args.moment c.args.input c.args.store.now s) (sym same)
    (step_stops_here g.S.Store.Step c.args.users.now.users c.args.self.now.view c.args.self.now.held c.args.moment c.args.input c.args.store.now)) c.take_end.ensures.untouched

pub returns-in-DataReady-clause-row : goal.returns-in-DataReady-clause-row
returns-in-DataReady-clause-row g c =
    IfOk-weaker c.take_port.result _ _ (λ actions reported.
    subst (λ (i : Input g.row.A.Denot g.row.S-Sink.Denot). SessionStep {A = g.row.A.Denot} {R = g.row.S-Source.Denot} {K = g.row.S-Sink.Denot} g.S.Store.Step c.args.users.now.users c.args.self.now.view c.args.self.now.held c.args.moment i c.args.store.now c.args.store.now c.args.floors.now c.args.floors.now c.take_port.new.self.view c.take_port.new.self.held actions.items) (sym c.in-DataReady.is)
    (step_by g.S.Store.Step c.args.users.now.users c.args.self.now.view c.args.self.now.held c.args.moment (input.DataReady c.in-DataReady.port)
    (beside c.args.self.now.held (ready_at c.args.users.now.users c.args.self.now.view c.in-DataReady.port)) c.args.store.now c.args.store.now c.args.floors.now c.args.floors.now c.take_port.new.self.view c.take_port.new.self.held actions.items
    refl
    (ran_then g.S.Store.Step _ c.take_port.new.self.view actions.items c.args.store.now c.args.floors.now reported) c.take_port.ensures.held)) c.take_port.ensures.row

pub returns-in-DataReady-clause-stops : goal.returns-in-DataReady-clause-stops
returns-in-DataReady-clause-stops g c =
    on_err c.take_port.result (step_stops_here g.S.Store.Step c.args.users.now.users c.args.self.now.view c.args.self.now.held c.args.moment c.args.input c.args.store.now)

pub returns-in-Closed-clause-row : goal.returns-in-Closed-clause-row
returns-in-Closed-clause-row g c =
    IfOk-weaker c.close.result _ _ (λ actions reported.
    subst (λ (i : Input g.row.A.Denot g.row.S-Sink.Denot). SessionStep {A = g.row.A.Denot} {R = g.row.S-Source.Denot} {K = g.row.S-Sink.Denot} g.S.Store.Step c.args.users.now.users c.args.self.now.view c.args.self.now.held c.args.moment i c.args.store.now c.args.store.now c.args.floors.now c.args.floors.now c.close.new.self.view c.close.new.self.held actions.items) (sym c.in-Closed.is)
    (step_by g.S.Store.Step c.args.users.now.users c.args.self.now.view c.args.self.now.held c.args.moment input.Closed
    (beside c.args.self.now.held (closed_at c.args.self.now.view)) c.args.store.now c.args.store.now c.args.floors.now c.args.floors.now c.close.new.self.view c.close.new.self.held actions.items
    refl
    (ran_then g.S.Store.Step _ c.close.new.self.view actions.items c.args.store.now c.args.floors.now reported) c.close.ensures.held)) c.close.ensures.row

pub returns-in-Closed-clause-stops : goal.returns-in-Closed-clause-stops
returns-in-Closed-clause-stops g c =
    on_err c.close.result (step_stops_here g.S.Store.Step c.args.users.now.users c.args.self.now.view c.args.self.now.held c.args.moment c.args.input c.args.store.now)
