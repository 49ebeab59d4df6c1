use Rattle.std.proofs.Common.{◌∙◌, ap}
use Rattle.std.specs.declared.alloc.Global.{Global}
use Rattle.control_session.specs.Rows.{IsRow}
use Rattle.control_session.specs.Sides.{back_in, given_of}
use Rattle.control_session.proofs.Lending.{lend, lend_why, some_to}
use Rattle.socket_host.specs.Doing.{SocketDoes, kept_users}
use Rattle.socket_host.proofs.Doing.{both, lends, refused_for}
use Rattle.socket_host.proofs.host.SocketHostHostGlobal.step.Goals as goal

pub returns-then-is_over-clause-refused : goal.returns-then-is_over-clause-refused
returns-then-is_over-clause-refused g c =
    some_to c.args.input.now _ _ (λ input line. (line c.if-is_over.true, (c.is_over.ensures.stays, ap (λ s. s.run.payer) c.is_over.ensures.side))) c.is_over.ensures.line

pub returns-clause-row : goal.returns-clause-row
returns-clause-row g c = lend c.args.input.now c.step_over-made.result.0 _ _ (λ input actions row. (
  row.0,
  kept_users c.take_terms.new.self.standing,
  row.1,
  row.2,
  row.3,
  row.4,
  (
    lends _ _ _ _ _ _ c.is_inside.result c.is_over.ensures.stays c.is_inside.ensures.inside c.take_terms.ensures.kept c.take_terms.ensures.user c.step_over-made.ensures.standing c.follow_store.ensures.standing,
    ap (λ s. s.run.payer) (c.follow_store.ensures.side ∙ (c.step_over-made.ensures.side ∙ (c.take_terms.ensures.side ∙ c.is_over.ensures.side))),
  ),
  row.5,
)) c.step_over-made.ensures.row

pub returns-clause-refused : goal.returns-clause-refused
returns-clause-refused g c = lend_why c.args.input.now c.step_over-made.result.0 _ _ (λ input why refused.
    refused_for {A = Global} {R = g.row.S-Source.Denot} (IsRow {A = Global} {R = g.row.S-Source.Denot} {K = g.row.S-Sink.Denot} g.S.Store.Step) (λ old call new. SocketDoes old.standing old.side.run.payer call new.standing new.side.run.payer) c.args.self.now c.follow_store.new.self (kept_users c.take_terms.new.self.standing) c.args.session.now (given_of input) (back_in input) (λ moment store store' promises. both
    (lends c.args.session.now c.args.self.now.standing c.is_over.new.self.standing c.take_terms.new.self.standing c.step_over-made.new.self.standing c.follow_store.new.self.standing c.is_inside.result c.is_over.ensures.stays c.is_inside.ensures.inside c.take_terms.ensures.kept c.take_terms.ensures.user c.step_over-made.ensures.standing c.follow_store.ensures.standing)
    (ap (λ s. s.run.payer) (c.follow_store.ensures.side ∙ (c.step_over-made.ensures.side ∙ (c.take_terms.ensures.side ∙ c.is_over.ensures.side))))) why refused) c.step_over-made.ensures.refused
