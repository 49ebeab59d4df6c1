use Rattle.std.proofs.Common.{inl, inr, refl, ap, subst}
use Rattle.control_session.specs.Rows.{IsRow}
use Rattle.session_table.specs.Laws.{logged_in}
use Rattle.session_table.specs.Steps.{Standing}
use Rattle.control_session.specs.Sessions.{IsSession}
use Rattle.control_session.proofs.Balance.{floors_back}
use Rattle.control_session.proofs.Counting.{row_balances}
use Rattle.control_session.proofs.Listening.{err_memory}
use Rattle.control_session.proofs.Charges.{charged_by_logins}
use Rattle.control_session.proofs.Logins.{served_by_logins}
use Rattle.control_session.proofs.session.run_control.Goals as goal

pub returns-in_err-clone-clause-whole : goal.returns-in_err-clone-clause-whole
returns-in_err-clone-clause-whole g c = inl (err_memory c.from_residual.result c.from_residual.ensures.1, refl)

pub returns-in_err-session-clause-whole : goal.returns-in_err-session-clause-whole
returns-in_err-session-clause-whole g c = inl (err_memory c.from_residual-in_err-session.result c.from_residual-in_err-session.ensures.1, refl)

pub returns-in_err-greeting-clause-whole : goal.returns-in_err-greeting-clause-whole
returns-in_err-greeting-clause-whole g c = inl (err_memory c.from_residual-in_err-greeting.result c.from_residual-in_err-greeting.ensures.1, refl)

pub returns-in_err-room-clause-whole : goal.returns-in_err-room-clause-whole
returns-in_err-room-clause-whole g c = inl (err_memory c.from_residual-in_err-room.result c.from_residual-in_err-room.ensures.1, refl)

pub returns-clause-whole : goal.returns-clause-whole
returns-clause-whole g c = inr (subst (λ (x : Standing). IsSession (IsRow {A = g.row.A.Denot} {R = g.row.H-Source.Denot} g.H.Host.Step) g.H.Host.Does c.args.turns c.run_session.result x c.args.host.now c.run_session.new.host)
    c.in_ok-session.ensures.fresh c.run_session.ensures.whole)

pub returns-clause-floors : goal.returns-clause-floors
returns-clause-floors g c floors own =
    floors_back g.H.Host.Does floors own (IsRow g.H.Host.Step) (row_balances g.H.Host.Step) c.args.turns c.run_session.result c.in_ok-session.session c.args.host.now c.run_session.new.host
    (ap (λ (x : Standing). logged_in x.view) c.in_ok-session.ensures.fresh) c.run_session.ensures.whole

pub returns-in_err-clone-clause-logins : goal.returns-in_err-clone-clause-logins
returns-in_err-clone-clause-logins g c kept keeps = inl (err_memory c.from_residual.result c.from_residual.ensures.1, refl)

pub returns-in_err-session-clause-logins : goal.returns-in_err-session-clause-logins
returns-in_err-session-clause-logins g c kept keeps = inl (err_memory c.from_residual-in_err-session.result c.from_residual-in_err-session.ensures.1, refl)

pub returns-in_err-greeting-clause-logins : goal.returns-in_err-greeting-clause-logins
returns-in_err-greeting-clause-logins g c kept keeps = inl (err_memory c.from_residual-in_err-greeting.result c.from_residual-in_err-greeting.ensures.1, refl)

pub returns-in_err-room-clause-logins : goal.returns-in_err-room-clause-logins
returns-in_err-room-clause-logins g c kept keeps = inl (err_memory c.from_residual-in_err-room.result c.from_residual-in_err-room.ensures.1, refl)

pub returns-clause-logins : goal.returns-clause-logins
returns-clause-logins g c kept keeps =
    served_by_logins g.H.Host.Does kept keeps (IsRow g.H.Host.Step) c.args.turns c.run_session.result _ c.args.host.now c.run_session.new.host
    (inr (subst (λ (x : Standing). IsSession (IsRow {A = g.row.A.Denot} {R = g.row.H-Source.Denot} g.H.Host.Step) g.H.Host.Does c.args.turns c.run_session.result x c.args.host.now c.run_session.new.host)
    c.in_ok-session.ensures.fresh c.run_session.ensures.whole))

pub returns-in_err-clone-clause-charges : goal.returns-in_err-clone-clause-charges
returns-in_err-clone-clause-charges g c kept user charged keeps charges = inl ((err_memory c.from_residual.result c.from_residual.ensures.1, refl), refl)

pub returns-in_err-session-clause-charges : goal.returns-in_err-session-clause-charges
returns-in_err-session-clause-charges g c kept user charged keeps charges = inl ((err_memory c.from_residual-in_err-session.result c.from_residual-in_err-session.ensures.1, refl), refl)

pub returns-in_err-greeting-clause-charges : goal.returns-in_err-greeting-clause-charges
returns-in_err-greeting-clause-charges g c kept user charged keeps charges = inl ((err_memory c.from_residual-in_err-greeting.result c.from_residual-in_err-greeting.ensures.1, refl), refl)

pub returns-in_err-room-clause-charges : goal.returns-in_err-room-clause-charges
returns-in_err-room-clause-charges g c kept user charged keeps charges = inl ((err_memory c.from_residual-in_err-room.result c.from_residual-in_err-room.ensures.1, refl), refl)

pub returns-clause-charges : goal.returns-clause-charges
returns-clause-charges g c kept user charged keeps charges =
    charged_by_logins g.H.Host.Does kept user charged keeps charges (IsRow g.H.Host.Step) c.args.turns c.run_session.result _ c.args.host.now c.run_session.new.host
    (inr (subst (λ (x : Standing). IsSession (IsRow {A = g.row.A.Denot} {R = g.row.H-Source.Denot} g.H.Host.Step) g.H.Host.Does c.args.turns c.run_session.result x c.args.host.now c.run_session.new.host)
    c.in_ok-session.ensures.fresh c.run_session.ensures.whole))
