use Rattle.std.proofs.Common.{take}
use Rattle.server_config.specs.Store.{MakesFile, MakesAll}
use Rattle.server_config.proofs.store.make_files.Given as goal

abbrev pub invariant-loop-index : goal.invariant-loop-index
invariant-loop-index l = MakesAll MakesFile (take l.index l.files) l.initial.store l.store
