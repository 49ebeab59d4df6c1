use Rattle.std.proofs.Common.{take}
use Rattle.config_file.specs.Tables.{AreOverrides}
use Rattle.config_file.proofs.tables.read_overrides.Given as goal

abbrev pub invariant-loop-index : goal.invariant-loop-index
invariant-loop-index l = AreOverrides (take l.index l.users) l.found.items
