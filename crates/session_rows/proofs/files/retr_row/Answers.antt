use Rattle.std.proofs.Common.{subst}
use Rattle.std.proofs.lemmas.Result.{IfOk-weaker}
use Rattle.session_table.specs.Plans.{RanByStore}
use Rattle.session_table.specs.TransferRows.{reads}
use Rattle.session_rows.proofs.files.retr_row.Goals as goal

pub returns-clause-row : goal.returns-clause-row
returns-clause-row g c =
    IfOk-weaker c.reads.result _ _ (λ actions ran.
    subst (λ offset. RanByStore {A = g.row.A.Denot} {R = g.row.S-Source.Denot} {K = g.row.S-Sink.Denot} g.S.Store.Step (reads c.args.state.now offset c.args.location) c.args.store.now c.reads.new.store c.reads.new.state actions.items)
    c.offset-offset.ensures.offset ran) c.reads.ensures.row
