use Rattle.std.proofs.Common.{sym, subst}
use Rattle.std.proofs.lemmas.Result.{IfOk-weaker}
use Rattle.session_core.specs.Rows.{login_by, row_by}
use Rattle.session_table.specs.Plans.{Ran}
use Rattle.session_table.specs.Rules.{login_row, row_plan, state_row}
use Rattle.session_core.proofs.Plans.{ran_floors, ran_then}
use Rattle.session_core.proofs.rows.carry_out.Goals as goal

pub returns-in-Login-clause-row : goal.returns-in-Login-clause-row
returns-in-Login-clause-row g c =
    IfOk-weaker c.login_row.result _ _ (λ actions ran.
    subst (λ row. Ran g.S.Store.Step (row_plan {A = g.row.A.Denot} {R = g.row.S-Source.Denot} {K = g.row.S-Sink.Denot} c.args.users.now.users c.args.state.now c.args.moment c.args.rule.conditions (row_by (λ text. text.now) row)) c.args.store.now c.args.store.now c.args.floors.now c.login_row.new.floors c.login_row.new.state actions.items) (sym c.in-Login.is)
    (ran_floors g.S.Store.Step (login_row c.args.users.now.users c.args.state.now (login_by (λ text. text.now) c.in-Login.row)) c.args.store.now c.args.floors.now c.login_row.new.floors c.login_row.new.state actions.items ran)) c.login_row.ensures.row

pub returns-in-State-clause-row : goal.returns-in-State-clause-row
returns-in-State-clause-row g c =
    IfOk-weaker c.state_row.result _ _ (λ actions reported.
    subst (λ row. Ran g.S.Store.Step (row_plan {A = g.row.A.Denot} {R = g.row.S-Source.Denot} {K = g.row.S-Sink.Denot} c.args.users.now.users c.args.state.now c.args.moment c.args.rule.conditions (row_by (λ text. text.now) row)) c.args.store.now c.args.store.now c.args.floors.now c.args.floors.now c.state_row.new.state actions.items) (sym c.in-State.is)
    (ran_then g.S.Store.Step (state_row c.args.state.now c.in-State.row) c.state_row.new.state actions.items c.args.store.now c.args.floors.now reported)) c.state_row.ensures.row

pub returns-in-At-clause-row : goal.returns-in-At-clause-row
returns-in-At-clause-row g c =
    IfOk-weaker c.row_at.result _ _ (λ actions ran.
    subst (λ row. Ran g.S.Store.Step (row_plan {A = g.row.A.Denot} {R = g.row.S-Source.Denot} {K = g.row.S-Sink.Denot} c.args.users.now.users c.args.state.now c.args.moment c.args.rule.conditions (row_by (λ text. text.now) row)) c.args.store.now c.row_at.new.store c.args.floors.now c.args.floors.now c.row_at.new.state actions.items) (sym c.in-At.is)
    (ran c.args.floors.now)) c.row_at.ensures.row
