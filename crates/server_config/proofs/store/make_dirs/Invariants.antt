use Rattle.std.proofs.Common.{take}
use Rattle.server_config.specs.Store.{MakesDir, MakesAll}
use Rattle.server_config.proofs.store.make_dirs.Given as goal

abbrev pub invariant-loop-index : goal.invariant-loop-index
invariant-loop-index l = MakesAll MakesDir (take l.index l.dirs) l.initial.store l.store
