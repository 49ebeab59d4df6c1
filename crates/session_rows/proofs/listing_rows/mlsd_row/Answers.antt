use Rattle.std.proofs.lemmas.Result.{IfOk-weaker}
use Rattle.session_table.specs.declared.refusals.Refusal.TheVariants.{ListsNoFile}
use Rattle.session_table.specs.declared.rules.Style.TheVariants.{FactLines}
use Rattle.session_table.specs.StateRows.{refuses}
use Rattle.session_table.specs.TransferRows.{lists_directory, sends_lines}
use Rattle.session_rows.proofs.Runs.{directory_looked}
use Rattle.session_rows.proofs.listing_rows.mlsd_row.Goals as goal

pub returns-in-Directory-clause-row : goal.returns-in-Directory-clause-row
returns-in-Directory-clause-row g c =
    IfOk-weaker c.list_directory.result _ _ (λ actions ran. directory_looked g.S.Store.Step c.args.state.now c.args.location.now
    (lists_directory c.args.users.now.users c.args.state.now FactLines c.args.location.now (sends_lines c.args.state.now))
    (λ meta. refuses c.args.state.now ListsNoFile)
    c.stored.result.now c.in-Ok.meta c.args.store.now c.stat.new.self c.list_directory.new.store c.list_directory.new.state actions.items
    c.stored.ensures.stored c.in-Directory.is c.in-Ok.ensures ran) c.list_directory.ensures.row
