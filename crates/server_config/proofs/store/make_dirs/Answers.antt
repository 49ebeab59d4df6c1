use Rattle.std.proofs.Common.{refl}
use Rattle.config_file.specs.declared.fault.TableName.TheVariants.{Dir}
use Rattle.server_config.specs.Store.{MakesDir, IsDirProblem}
use Rattle.server_config.proofs.StoreMade.{all-next}
use Rattle.server_config.proofs.StoreRefused.{row_refused}
use Rattle.server_config.proofs.store.make_dirs.Goals as goal

pub loop-index-preserved : goal.loop-index-preserved
loop-index-preserved c =
    all-next MakesDir c.args.dirs.now c.loop-index.index _ _ c.args.store.now c.loop-index.store c.make_dir.new.store
    c.loop-index-test.true refl c.loop-index.invariant c.in-Ok.ensures.made

pub returns-in-Err-clause-refused : goal.returns-in-Err-clause-refused
returns-in-Err-clause-refused c =
    row_refused Dir (λ dir. dir.path.now) MakesDir IsDirProblem c.args.dirs.now c.loop-index.index _ _ c.args.store.now c.loop-index.store c.in-Err.problem c.refused.result
    c.loop-index-test.true refl c.loop-index.invariant c.in-Err.ensures.refused c.refused.ensures.reported
