use Rattle.std.proofs.Common.{◌∙◌, ap, subst}
use Rattle.session_table.specs.FileRows.{unless_fault}
use Rattle.session_table.specs.StateRows.{reports}
use Rattle.virtual_tree.specs.Calls.Exchange.{MakeDir}
use Rattle.session_rows.proofs.Runs.{reported}
use Rattle.session_rows.proofs.changes.mkd_row.Goals as goal

pub returns-clause-row : goal.returns-clause-row
returns-clause-row g c = λ promises.
    let store = c.make_dir-changed.new.self in
    let made = c.make_dir-changed.result in
    let step = subst (λ path. g.S.Store.Step c.args.store.now (MakeDir path made) store) c.stored.ensures.stored c.make_dir-changed.ensures in
    let row = c.push_changed.ensures.row
    ∙ ap (λ reply. unless_fault {A = g.row.A.Denot} {R = g.row.S-Source.Denot} {K = g.row.S-Sink.Denot} c.args.state.now (λ done. reports c.args.state.now reply) made) c.in_ok-reply.ensures.reply in
    (made, store, step, reported g.S.Store.Step _ store c.push_changed.new.state c.push_changed.new.actions.items row promises)
