use Rattle.std.proofs.Common.{subst}
use Rattle.session_table.specs.Plans.{RanByStore}
use Rattle.session_table.specs.Table.{ended_row}
use Rattle.session_events.proofs.Ended.{ended_in}
use Rattle.session_events.proofs.ends.end_transfer.Goals as goal

pub returns-clause-row : goal.returns-clause-row
returns-clause-row g c =
    subst (λ sink. RanByStore {A = g.row.A.Denot} {R = g.row.S-Source.Denot} {K = g.row.S-Sink.Denot} g.S.Store.Step (ended_row c.args.users.now.users c.args.state.now c.args.moment c.args.end sink) c.args.store.now c.end_content.new.store c.end_content.new.state c.end_content.new.actions.items)
    c.take-came.ensures.value
    (ended_in c.args.users.now.users c.args.state.now c.args.moment c.args.end g.S.Store.Step c.end_transfer.new.self c.take-came.result c.in-Some.content c.is_aborted-was_aborted.result
    c.args.store.now c.end_content.new.store c.end_content.new.state c.end_content.new.actions.items
    c.in-Some.ensures.content c.in-Some.ensures.ended c.is_aborted-was_aborted.ensures.aborted c.end_content.ensures.row)
