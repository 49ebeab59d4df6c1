use Rattle.std.proofs.Common.{ap}
use Rattle.std.specs.declared.alloc.Global.{Global}
use Rattle.control_session.specs.Rows.{IsRow}
use Rattle.control_session.specs.Sides.{back_in}
use Rattle.control_session.proofs.Lending.{lend, lend_refused}
use Rattle.server_house.specs.declared.terms.Terms.{Terms}
use Rattle.socket_host.proofs.Doing.{made_users, stopped_users}
use Rattle.socket_host.proofs.host.SocketHost.step_over.Goals as goal

pub returns-then-asks_floors-clause-row : goal.returns-then-asks_floors-clause-row
returns-then-asks_floors-clause-row g c = lend c.args.input.now c.step_by-made.result _ _ (λ x v row. made_users {A = Global} {R = g.row.S-Source.Denot} {K = g.row.S-Sink.Denot} (IsRow {A = Global} {R = g.row.S-Source.Denot} {K = g.row.S-Sink.Denot} g.S.Store.Step) _ _ _ _ _ _ (ap (λ (t : Terms). t.users.users) c.terms.ensures.terms) c.millis_since_1970-moment.result _ _ _ _ row) c.step_by-made.ensures.row

pub returns-then-asks_floors-clause-refused : goal.returns-then-asks_floors-clause-refused
returns-then-asks_floors-clause-refused g c = lend_refused c.args.input.now c.step_by-made.result _ _ (λ input. back_in input) _ (λ input same stopped. stopped_users {A = Global} {R = g.row.S-Source.Denot} {K = g.row.S-Sink.Denot} (IsRow {A = Global} {R = g.row.S-Source.Denot} {K = g.row.S-Sink.Denot} g.S.Store.Step) _ _ _ _ _ (ap (λ (t : Terms). t.users.users) c.terms.ensures.terms) c.millis_since_1970-moment.result _ _ c.step_by-made.new.floors stopped) c.step_by-made.ensures.unchanged c.step_by-made.ensures.stopped c.step_by-made.ensures.back

pub returns-clause-row : goal.returns-clause-row
returns-clause-row g c = lend c.args.input.now c.step_by-made-2.result _ _ (λ x v row. made_users {A = Global} {R = g.row.S-Source.Denot} {K = g.row.S-Sink.Denot} (IsRow {A = Global} {R = g.row.S-Source.Denot} {K = g.row.S-Sink.Denot} g.S.Store.Step) _ _ _ _ _ _ (ap (λ (t : Terms). t.users.users) c.terms.ensures.terms) c.millis_since_1970-moment.result _ _ _ _ row) c.step_by-made-2.ensures.row

pub returns-clause-refused : goal.returns-clause-refused
returns-clause-refused g c = lend_refused c.args.input.now c.step_by-made-2.result _ _ (λ input. back_in input) _ (λ input same stopped. stopped_users {A = Global} {R = g.row.S-Source.Denot} {K = g.row.S-Sink.Denot} (IsRow {A = Global} {R = g.row.S-Source.Denot} {K = g.row.S-Sink.Denot} g.S.Store.Step) _ _ _ _ _ (ap (λ (t : Terms). t.users.users) c.terms.ensures.terms) c.millis_since_1970-moment.result _ _ c.step_by-made-2.new.floors stopped) c.step_by-made-2.ensures.unchanged c.step_by-made-2.ensures.stopped c.step_by-made-2.ensures.back
