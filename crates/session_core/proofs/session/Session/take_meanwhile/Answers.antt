use Rattle.std.proofs.Common.{◌∙◌, ap, refl, sym, subst}
use Rattle.std.proofs.lemmas.Result.{IfOk-weaker}
use Rattle.ftp_wire.specs.Reading.{item_of, items_of}
use Rattle.session_table.specs.Steps.{Standing, Took}
use Rattle.session_table.specs.Plans.{Stops}
use Rattle.session_table.specs.Table.{Taken, meanwhile}
use Rattle.session_table.specs.Views.{View}
use Rattle.session_table.specs.declared.rules.Meanwhile.TheVariants.{Waits, Served, QuitsLater}
use Rattle.session_core.proofs.Plans.{on_err, on_err_from, ran_then, standing_of, stops_here, took_by}
use Rattle.session_core.proofs.Tables.{meanwhile_at}
use Rattle.session_core.proofs.session.Session.take_meanwhile.Goals as goal

pub returns-in-Served-clause-row : goal.returns-in-Served-clause-row
returns-in-Served-clause-row g c =
    let held = items_of c.self.inside.held.items in
    IfOk-weaker c.serve-answer.result _ _ (λ actions ran.
    subst (λ (s : Standing). Took g.S.Store.Step (meanwhile {A = g.row.A.Denot} {R = g.row.S-Source.Denot} {K = g.row.S-Sink.Denot} c.args.users.now.users s.view s.held c.args.moment (item_of c.args.item)) c.args.store.now c.serve-answer.new.store c.args.floors.now c.serve-answer.new.floors (standing_of c.serve-answer.new.state held) actions.items) c.self.view_is
    (took_by g.S.Store.Step _ _ c.args.store.now c.serve-answer.new.store c.args.floors.now c.serve-answer.new.floors (standing_of c.serve-answer.new.state held) actions.items
    (meanwhile_at c.args.users.now.users c.self.inside.state held c.args.moment (item_of c.args.item) Served (sym c.in-Served.ensures.meanwhile)) ran refl)) c.serve-answer.ensures.row

pub returns-in-Served-clause-unchanged : goal.returns-in-Served-clause-unchanged
returns-in-Served-clause-unchanged g c =
    on_err_from c.serve-answer.result (λ same. ap (λ (v : View). standing_of v (items_of c.self.inside.held.items)) same ∙ c.self.view_is) c.serve-answer.ensures.unchanged

pub returns-in-Served-clause-stops : goal.returns-in-Served-clause-stops
returns-in-Served-clause-stops g c =
    on_err_from c.serve-answer.result (λ stops.
    subst (λ (s : Standing). Stops g.S.Store.Step (meanwhile {A = g.row.A.Denot} {R = g.row.S-Source.Denot} {K = g.row.S-Sink.Denot} c.args.users.now.users s.view s.held c.args.moment (item_of c.args.item)).plan c.args.store.now c.serve-answer.new.store) c.self.view_is
    (subst (λ (t : Taken g.row.A.Denot g.row.S-Source.Denot g.row.S-Sink.Denot). Stops g.S.Store.Step t.plan c.args.store.now c.serve-answer.new.store)
    (sym (meanwhile_at c.args.users.now.users c.self.inside.state (items_of c.self.inside.held.items) c.args.moment (item_of c.args.item) Served (sym c.in-Served.ensures.meanwhile))) stops)) c.serve-answer.ensures.stops

pub returns-in_err-actions-in-QuitsLater-clause-stops : goal.returns-in_err-actions-in-QuitsLater-clause-stops
returns-in_err-actions-in-QuitsLater-clause-stops g c = on_err _ (stops_here g.S.Store.Step _ c.args.store.now)

pub returns-in_ok-actions-in-QuitsLater-clause-row : goal.returns-in_ok-actions-in-QuitsLater-clause-row
returns-in_ok-actions-in-QuitsLater-clause-row g c =
    let held = items_of c.self-in-QuitsLater.inside.held.items in
    subst (λ (s : Standing). Took g.S.Store.Step (meanwhile {A = g.row.A.Denot} {R = g.row.S-Source.Denot} {K = g.row.S-Sink.Denot} c.args.users.now.users s.view s.held c.args.moment (item_of c.args.item)) c.args.store.now c.args.store.now c.args.floors.now c.args.floors.now (standing_of c.await_quit.new.self held) c.in_ok-actions-in-QuitsLater.actions.items) c.self-in-QuitsLater.view_is
    (took_by g.S.Store.Step _ _ c.args.store.now c.args.store.now c.args.floors.now c.args.floors.now (standing_of c.await_quit.new.self held) c.in_ok-actions-in-QuitsLater.actions.items
    (meanwhile_at c.args.users.now.users c.self-in-QuitsLater.inside.state held c.args.moment (item_of c.args.item) QuitsLater (sym c.in-QuitsLater.ensures.meanwhile))
    (refl, refl, c.await_quit.ensures.quitting, c.in_ok-actions-in-QuitsLater.ensures.idle) refl)

pub returns-in-Waits-clause-row : goal.returns-in-Waits-clause-row
returns-in-Waits-clause-row g c =
    IfOk-weaker c.hold.result _ _ (λ actions taken.
    took_by g.S.Store.Step _ _ c.args.store.now c.args.store.now c.args.floors.now c.args.floors.now c.hold.new.self actions.items
    (meanwhile_at c.args.users.now.users c.args.self.now.view c.args.self.now.held c.args.moment (item_of c.args.item) Waits (sym c.in-Waits.ensures.meanwhile))
    (ran_then g.S.Store.Step _ c.hold.new.self.view actions.items c.args.store.now c.args.floors.now taken.0) taken.1) c.hold.ensures.row

pub returns-in-Waits-clause-stops : goal.returns-in-Waits-clause-stops
returns-in-Waits-clause-stops g c = on_err _ (stops_here g.S.Store.Step _ c.args.store.now)
