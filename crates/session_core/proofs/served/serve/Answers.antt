use Rattle.std.proofs.Common.{List, sym, subst, ℕ}
use Rattle.ftp_wire.specs.Reading.{item_of}
use Rattle.session_core.specs.Rows.{rule_by}
use Rattle.session_table.specs.Plans.{Ran, Stops}
use Rattle.session_table.specs.declared.rules.Rule.{Rule}
use Rattle.session_table.specs.Table.{left, ruled, served, served_by}
use Rattle.session_core.proofs.Plans.{on_err, ran_left_to, stops_left}
use Rattle.session_core.proofs.served.serve.Goals as goal

pub returns-in_err-actions-in-Command-clause-stops :
    goal.returns-in_err-actions-in-Command-clause-stops
returns-in_err-actions-in-Command-clause-stops g c =
    on_err _ (subst (λ item. Stops g.S.Store.Step (served {A = g.row.A.Denot} {R = g.row.S-Source.Denot} {K = g.row.S-Sink.Denot} c.args.users.now.users c.args.state.now c.args.moment (item_of item)) c.args.store.now c.serve_rule.new.store) (sym c.in-Command.is)
    (subst (λ (rule : Rule (List ℕ)). Stops g.S.Store.Step (served_by {A = g.row.A.Denot} {R = g.row.S-Source.Denot} {K = g.row.S-Sink.Denot} c.args.users.now.users c.args.state.now c.args.moment rule) c.args.store.now c.serve_rule.new.store)
    c.rule_of-rule.ensures.rule
    (stops_left g.S.Store.Step _ _ c.args.store.now c.serve_rule.new.store c.in_err-actions-in-Command.ensures.stops)))

pub returns-in_ok-actions-in-Command-clause-row : goal.returns-in_ok-actions-in-Command-clause-row
returns-in_ok-actions-in-Command-clause-row g c =
    subst (λ item. Ran g.S.Store.Step (served {A = g.row.A.Denot} {R = g.row.S-Source.Denot} {K = g.row.S-Sink.Denot} c.args.users.now.users c.args.state.now c.args.moment (item_of item)) c.args.store.now c.serve_rule.new.store c.args.floors.now c.serve_rule.new.floors c.leave.new.state c.in_ok-actions-in-Command.actions.items) (sym c.in-Command.is)
    (subst (λ (rule : Rule (List ℕ)). Ran g.S.Store.Step (served_by {A = g.row.A.Denot} {R = g.row.S-Source.Denot} {K = g.row.S-Sink.Denot} c.args.users.now.users c.args.state.now c.args.moment rule) c.args.store.now c.serve_rule.new.store c.args.floors.now c.serve_rule.new.floors c.leave.new.state c.in_ok-actions-in-Command.actions.items)
    c.rule_of-rule.ensures.rule
    (ran_left_to g.S.Store.Step (left c.rule_of-rule.result.conditions)
    (ruled c.args.users.now.users c.args.state.now c.args.moment (rule_by (λ text. text.now) c.rule_of-rule.result))
    c.args.store.now c.serve_rule.new.store c.args.floors.now c.serve_rule.new.floors c.serve_rule.new.state c.leave.new.state c.in_ok-actions-in-Command.actions.items c.leave.ensures.left c.in_ok-actions-in-Command.ensures.row))
