use Rattle.config_file.specs.declared.fault.TableName.TheVariants.{File}
use Rattle.server_config.specs.Store.{MakesFile, IsFileProblem}
use Rattle.server_config.proofs.StoreMade.{all-next}
use Rattle.server_config.proofs.StoreRefused.{row_refused}
use Rattle.server_config.proofs.store.make_files.Goals as goal

pub loop-index-preserved : goal.loop-index-preserved
loop-index-preserved c =
    all-next MakesFile c.args.files.now c.loop-index.index c.index-files-index.result c.index-files-index.result c.args.store.now c.loop-index.store c.make_file.new.store
    c.loop-index-test.true c.index-files-index.is c.loop-index.invariant c.in-Ok.ensures.made

pub returns-in-Err-clause-refused : goal.returns-in-Err-clause-refused
returns-in-Err-clause-refused c =
    row_refused File (λ file. file.path.now) MakesFile IsFileProblem c.args.files.now c.loop-index.index c.index-files-index.result c.index-files-index.result c.args.store.now c.loop-index.store c.in-Err.problem c.refused.result
    c.loop-index-test.true c.index-files-index.is c.loop-index.invariant c.in-Err.ensures.refused c.refused.ensures.reported
