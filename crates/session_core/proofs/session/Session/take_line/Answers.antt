use Rattle.std.proofs.Common.{◌∙◌, ◌<◌, [], length, ap, refl, sym, subst, arith}
use Rattle.std.proofs.lemmas.Bool.{eqb-true}
use Rattle.std.proofs.lemmas.List.{length-map}
use Rattle.std.specs.Vec.{vec_len}
use Rattle.std.proofs.lemmas.Result.{IfOk-weaker}
use Rattle.ftp_wire.specs.Reading.{item_of, items_of}
use Rattle.session_table.specs.Steps.{SessionStep, SessionStops, Standing}
use Rattle.session_table.specs.declared.inputs.Input.TheVariants as input
use Rattle.session_table.specs.Table.{beside, holds, idle, meanwhile, served}
use Rattle.session_table.specs.Views.{counts_lines, is_busy}
use Rattle.session_core.proofs.Plans.{on_err, on_err_from, ran_then, step_by, step_stops_here, stops_by}
use Rattle.session_core.proofs.Tables.{at_busy_line, at_idle_line, at_shut_line, in_turn_alone, in_turn_behind}
use Rattle.session_core.proofs.Waiting.{no_items, positive}
use Rattle.session_core.proofs.session.Session.take_line.Goals as goal

pub returns-then-not-is_open-clause-row : goal.returns-then-not-is_open-clause-row
returns-then-not-is_open-clause-row g c =
    IfOk-weaker c.nothing.result _ _ (λ actions none.
    step_by g.S.Store.Step c.args.users.now.users c.args.self.now.view c.args.self.now.held c.args.moment (input.Line c.args.item)
    (beside c.args.self.now.held (idle c.args.self.now.view)) c.args.store.now c.args.store.now c.args.floors.now c.args.floors.now c.args.self.now.view c.args.self.now.held actions.items
    (at_shut_line c.args.users.now.users c.args.self.now.view c.args.self.now.held c.args.moment c.args.item (sym c.if-not-is_open.ensures.«open»))
    (refl, refl, refl, none) refl) c.nothing.ensures.idle

pub returns-then-not-is_open-clause-stops : goal.returns-then-not-is_open-clause-stops
returns-then-not-is_open-clause-stops g c =
    on_err c.nothing.result (step_stops_here g.S.Store.Step c.args.users.now.users c.args.self.now.view c.args.self.now.held c.args.moment (input.Line c.args.item) c.args.store.now)

pub returns-then-is_busy-clause-row : goal.returns-then-is_busy-clause-row
returns-then-is_busy-clause-row g c =
    let busy = sym (ap (λ (s : Standing). is_busy s.view.work) c.self.view_is) ∙ (sym c.is_busy.ensures.busy ∙ c.if-is_busy.true) in
    IfOk-weaker c.take_meanwhile.result _ _ (λ actions took.
    step_by g.S.Store.Step c.args.users.now.users c.args.self.now.view c.args.self.now.held c.args.moment (input.Line c.args.item)
    (meanwhile c.args.users.now.users c.args.self.now.view c.args.self.now.held c.args.moment (item_of c.args.item)) c.args.store.now c.take_meanwhile.new.store c.args.floors.now c.take_meanwhile.new.floors c.take_meanwhile.new.self.view c.take_meanwhile.new.self.held actions.items
    (at_busy_line c.args.users.now.users c.args.self.now.view c.args.self.now.held c.args.moment c.args.item (sym c.if-not-is_open.ensures.«open») busy)
    took.0 took.1) c.take_meanwhile.ensures.row

pub returns-then-is_busy-clause-stops : goal.returns-then-is_busy-clause-stops
returns-then-is_busy-clause-stops g c =
    let busy = sym (ap (λ (s : Standing). is_busy s.view.work) c.self.view_is) ∙ (sym c.is_busy.ensures.busy ∙ c.if-is_busy.true) in
    on_err_from c.take_meanwhile.result (λ stops.
    stops_by g.S.Store.Step c.args.users.now.users c.args.self.now.view c.args.self.now.held c.args.moment (input.Line c.args.item)
    (meanwhile c.args.users.now.users c.args.self.now.view c.args.self.now.held c.args.moment (item_of c.args.item)) c.args.store.now c.take_meanwhile.new.store
    (at_busy_line c.args.users.now.users c.args.self.now.view c.args.self.now.held c.args.moment c.args.item (sym c.if-not-is_open.ensures.«open») busy)
    stops) c.take_meanwhile.ensures.stops

pub returns-then-not-is_empty-clause-row : goal.returns-then-not-is_empty-clause-row
returns-then-not-is_empty-clause-row g c =
    let idle = sym (ap (λ (s : Standing). is_busy s.view.work) c.self.view_is) ∙ (sym c.is_busy.ensures.busy ∙ c.if-is_busy.false) in
    let waiting : 0 < length (items_of c.self.inside.held.items) = omega (arith, positive (vec_len c.self.inside.held) (sym c.is_empty.ensures ∙ c.if-not-is_empty.true), c.self.inside.held.ok.0, length-map c.self.inside.held.items item_of) in
    let some = subst (λ (s : Standing). 0 < length s.held) c.self.view_is waiting in
    IfOk-weaker c.hold.result _ _ (λ actions taken.
    step_by g.S.Store.Step c.args.users.now.users c.args.self.now.view c.args.self.now.held c.args.moment (input.Line c.args.item)
    (holds c.args.self.now.view c.args.self.now.held (item_of c.args.item)) c.args.store.now c.args.store.now c.args.floors.now c.args.floors.now c.hold.new.self.view c.hold.new.self.held actions.items
    (at_idle_line c.args.users.now.users c.args.self.now.view c.args.self.now.held c.args.moment c.args.item (sym c.if-not-is_open.ensures.«open») idle
    ∙ in_turn_behind c.args.users.now.users c.args.self.now.view c.args.moment (item_of c.args.item) c.args.self.now.held some)
    (ran_then g.S.Store.Step _ c.hold.new.self.view actions.items c.args.store.now c.args.floors.now taken.0) taken.1) c.hold.ensures.row

pub returns-then-not-is_empty-clause-stops : goal.returns-then-not-is_empty-clause-stops
returns-then-not-is_empty-clause-stops g c =
    on_err c.hold.result (step_stops_here g.S.Store.Step c.args.users.now.users c.args.self.now.view c.args.self.now.held c.args.moment (input.Line c.args.item) c.args.store.now)

pub returns-clause-row : goal.returns-clause-row
returns-clause-row g c =
    let held = items_of c.self.inside.held.items in
    let counts = ap (λ (s : Standing). counts_lines s.view) c.self.view_is ∙ sym c.if-not-is_open.ensures.«open» in
    let idle = sym c.is_busy.ensures.busy ∙ c.if-is_busy.false in
    let none = no_items c.self.inside.held.items (sym c.self.inside.held.ok.0 ∙ eqb-true (vec_len c.self.inside.held) 0 (sym c.is_empty.ensures ∙ c.if-not-is_empty.false)) in
    IfOk-weaker c.serve-answer.result _ _ (λ actions ran.
    subst (λ (s : Standing). SessionStep {A = g.row.A.Denot} {R = g.row.S-Source.Denot} {K = g.row.S-Sink.Denot} g.S.Store.Step c.args.users.now.users s.view s.held c.args.moment (input.Line c.args.item) c.args.store.now c.serve-answer.new.store c.args.floors.now c.serve-answer.new.floors c.serve-answer.new.state held actions.items) c.self.view_is
    (step_by g.S.Store.Step c.args.users.now.users c.self.inside.state held c.args.moment (input.Line c.args.item)
    (record { plan = served c.args.users.now.users c.self.inside.state c.args.moment (item_of c.args.item); held = [] }) c.args.store.now c.serve-answer.new.store c.args.floors.now c.serve-answer.new.floors c.serve-answer.new.state held actions.items
    (at_idle_line c.args.users.now.users c.self.inside.state held c.args.moment c.args.item counts idle
    ∙ in_turn_alone c.args.users.now.users c.self.inside.state c.args.moment (item_of c.args.item) held none)
    ran none)) c.serve-answer.ensures.row

pub returns-clause-stops : goal.returns-clause-stops
returns-clause-stops g c =
    let held = items_of c.self.inside.held.items in
    let counts = ap (λ (s : Standing). counts_lines s.view) c.self.view_is ∙ sym c.if-not-is_open.ensures.«open» in
    let idle = sym c.is_busy.ensures.busy ∙ c.if-is_busy.false in
    let none = no_items c.self.inside.held.items (sym c.self.inside.held.ok.0 ∙ eqb-true (vec_len c.self.inside.held) 0 (sym c.is_empty.ensures ∙ c.if-not-is_empty.false)) in
    on_err_from c.serve-answer.result (λ stops.
    subst (λ (s : Standing). SessionStops {A = g.row.A.Denot} {R = g.row.S-Source.Denot} {K = g.row.S-Sink.Denot} g.S.Store.Step c.args.users.now.users s.view s.held c.args.moment (input.Line c.args.item) c.args.store.now c.serve-answer.new.store) c.self.view_is
    (stops_by g.S.Store.Step c.args.users.now.users c.self.inside.state held c.args.moment (input.Line c.args.item)
    (record { plan = served c.args.users.now.users c.self.inside.state c.args.moment (item_of c.args.item); held = [] }) c.args.store.now c.serve-answer.new.store
    (at_idle_line c.args.users.now.users c.self.inside.state held c.args.moment c.args.item counts idle
    ∙ in_turn_alone c.args.users.now.users c.self.inside.state c.args.moment (item_of c.args.item) held none)
    stops)) c.serve-answer.ensures.stops
