use Rattle.std.proofs.Common.{ap, map}
use Rattle.std.proofs.lemmas.Result.{IfOk-weaker}
use Rattle.virtual_tree.specs.Calls.{entries_of, entry_of}
use Rattle.session_rows.proofs.Runs.{directory_runs}
use Rattle.session_rows.proofs.listing_rows.list_directory.Goals as goal

pub returns-in-Ok-clause-row : goal.returns-in-Ok-clause-row
returns-in-Ok-clause-row g c =
    IfOk-weaker c.report_entries.result _ _
    (λ actions listed. directory_runs g.S.Store.Step c.args.users.now.users c.args.state.now c.args.style
    c.args.way c.args.location.now c.stored.result.now c.path.result.now (entries_of c.in-Ok.entries)
    (map entry_of c.as_slice.result.now) c.args.store.now c.list.new.self _ actions.items
    c.stored.ensures.stored c.path.ensures.path (ap (map entry_of) c.as_slice.ensures.value) c.in-Ok.ensures.step listed)
    c.report_entries.ensures.listed
