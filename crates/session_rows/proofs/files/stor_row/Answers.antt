use Rattle.std.proofs.Common.{◌∙◌, ap, subst}
use Rattle.std.proofs.lemmas.Result.{IfOk-weaker}
use Rattle.session_table.specs.Plans.{RanByStore}
use Rattle.session_table.specs.TransferRows.{store_mode, writes}
use Rattle.session_rows.proofs.files.stor_row.Goals as goal

pub returns-clause-row : goal.returns-clause-row
returns-clause-row g c =
    IfOk-weaker c.writes.result _ _ (λ actions ran.
    subst (λ mode. RanByStore {A = g.row.A.Denot} {R = g.row.S-Source.Denot} {K = g.row.S-Sink.Denot} g.S.Store.Step (writes c.args.state.now mode c.args.moment c.args.location) c.args.store.now c.writes.new.store c.writes.new.state actions.items)
    (c.store_mode-mode.ensures.mode ∙ ap store_mode c.offset.ensures.offset) ran) c.writes.ensures.row
