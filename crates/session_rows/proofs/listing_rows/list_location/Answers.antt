use Rattle.std.proofs.lemmas.Result.{IfOk-weaker}
use Rattle.session_rows.specs.Listed.{reported_by}
use Rattle.session_table.specs.TransferRows.{itself, lists, lists_directory}
use Rattle.session_rows.proofs.Runs.{directory_looked}
use Rattle.session_rows.proofs.listing_rows.list_location.Goals as goal

pub returns-in-Directory-clause-row : goal.returns-in-Directory-clause-row
returns-in-Directory-clause-row g c =
    IfOk-weaker c.list_directory.result _ _ (λ actions ran. directory_looked g.S.Store.Step c.args.state.now c.args.location.now
    (lists_directory c.args.users.now.users c.args.state.now c.args.style c.args.location.now (reported_by c.args.way c.args.state.now))
    (λ meta. lists c.args.users.now.users c.args.state.now c.args.location.now.path c.args.style (reported_by c.args.way c.args.state.now) (itself c.args.location.now.path meta))
    c.stored.result.now c.in-Ok.meta c.args.store.now c.stat.new.self c.list_directory.new.store c.list_directory.new.state actions.items
    c.stored.ensures.stored c.in-Directory.is c.in-Ok.ensures ran) c.list_directory.ensures.row
