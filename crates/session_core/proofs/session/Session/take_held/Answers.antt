use Rattle.std.proofs.Common.{◌∙◌, ◌<◌, length, ap, refl, sym, subst, arith}
use Rattle.std.proofs.lemmas.List.{length-map}
use Rattle.std.proofs.lemmas.Result.{IfOk-weaker}
use Rattle.std.specs.List.{remove}
use Rattle.ftp_wire.specs.Reading.{item_of, items_of}
use Rattle.session_table.specs.Steps.{SessionStep, SessionStops, Standing, is_due}
use Rattle.session_table.specs.declared.inputs.Input.TheVariants as input
use Rattle.session_table.specs.Table.{beside, held_row, idle, served}
use Rattle.session_core.proofs.Plans.{on_err, step_by, step_stops_here, stops_by}
use Rattle.session_core.proofs.Tables.{at_due, at_not_due}
use Rattle.session_core.proofs.Waiting.{due_waits, front}
use Rattle.session_core.proofs.session.Session.take_held.Goals as goal

pub returns-then-not-held_due-clause-row : goal.returns-then-not-held_due-clause-row
returns-then-not-held_due-clause-row g c =
    IfOk-weaker c.nothing.result _ _ (λ actions none.
    step_by g.S.Store.Step c.args.users.now.users c.args.self.now.view c.args.self.now.held c.args.moment input.Held
    (beside c.args.self.now.held (idle c.args.self.now.view)) c.args.store.now c.args.store.now c.args.floors.now c.args.floors.now c.args.self.now.view c.args.self.now.held actions.items
    (at_not_due c.args.users.now.users c.args.self.now.view c.args.self.now.held c.args.moment (sym c.if-not-held_due.ensures.due))
    (refl, refl, refl, none) refl) c.nothing.ensures.idle

pub returns-then-not-held_due-clause-stops : goal.returns-then-not-held_due-clause-stops
returns-then-not-held_due-clause-stops g c =
    on_err c.nothing.result (step_stops_here g.S.Store.Step c.args.users.now.users c.args.self.now.view c.args.self.now.held c.args.moment input.Held c.args.store.now)

pub returns-in_err-actions-clause-stops : goal.returns-in_err-actions-clause-stops
returns-in_err-actions-clause-stops g c =
    let items = c.self.inside.held.items in
    let item = item_of c.index.result.now in
    let due = ap (λ (s : Standing). is_due s.view s.held) c.self.view_is ∙ sym c.if-not-held_due.ensures.due in
    let some : 0 < length items = omega (arith, due_waits c.self.inside.state (items_of items) due, length-map items item_of) in
    let first = ap items_of (front items c.index.result.now some c.index.ensures) in
    on_err _ (subst (λ (s : Standing). SessionStops {A = g.row.A.Denot} {R = g.row.S-Source.Denot} {K = g.row.S-Sink.Denot} g.S.Store.Step c.args.users.now.users s.view s.held c.args.moment input.Held c.args.store.now c.serve.new.store) c.self.view_is
    (stops_by g.S.Store.Step c.args.users.now.users c.self.inside.state (items_of items) c.args.moment input.Held
    (record { plan = served c.args.users.now.users c.self.inside.state c.args.moment item; held = items_of (remove items 0) }) c.args.store.now c.serve.new.store
    (at_due c.args.users.now.users c.self.inside.state (items_of items) c.args.moment due
    ∙ ap (held_row c.args.users.now.users c.self.inside.state c.args.moment) first)
    c.in_err-actions.ensures.stops))

pub remove-requires : goal.remove-requires
remove-requires g c =
    let due = ap (λ (s : Standing). is_due s.view s.held) c.self.view_is ∙ sym c.if-not-held_due.ensures.due in
    omega (arith, due_waits c.self.inside.state (items_of c.self.inside.held.items) due, length-map c.self.inside.held.items item_of)

pub returns-clause-row : goal.returns-clause-row
returns-clause-row g c =
    let items = c.self.inside.held.items in
    let item = item_of c.index.result.now in
    let due = ap (λ (s : Standing). is_due s.view s.held) c.self.view_is ∙ sym c.if-not-held_due.ensures.due in
    let some : 0 < length items = omega (arith, due_waits c.self.inside.state (items_of items) due, length-map items item_of) in
    let first = ap items_of (front items c.index.result.now some c.index.ensures) in
    subst (λ (s : Standing). SessionStep {A = g.row.A.Denot} {R = g.row.S-Source.Denot} {K = g.row.S-Sink.Denot} g.S.Store.Step c.args.users.now.users s.view s.held c.args.moment input.Held c.args.store.now c.serve.new.store c.args.floors.now c.serve.new.floors c.serve.new.state (items_of c.remove.new.self.items) c.in_ok-actions.actions.items) c.self.view_is
    (step_by g.S.Store.Step c.args.users.now.users c.self.inside.state (items_of items) c.args.moment input.Held
    (record { plan = served c.args.users.now.users c.self.inside.state c.args.moment item; held = items_of (remove items 0) }) c.args.store.now c.serve.new.store c.args.floors.now c.serve.new.floors c.serve.new.state (items_of c.remove.new.self.items) c.in_ok-actions.actions.items
    (at_due c.args.users.now.users c.self.inside.state (items_of items) c.args.moment due
    ∙ ap (held_row c.args.users.now.users c.self.inside.state c.args.moment) first)
    c.in_ok-actions.ensures.row (ap items_of c.remove.ensures.items))
