use Rattle.std.proofs.Common.{take}
use Rattle.server_config.specs.Groups.{AreNumbers, AreApart}
use Rattle.server_config.proofs.groups.number_groups.Given as goal

abbrev pub invariant-loop-index : goal.invariant-loop-index
invariant-loop-index l = AreNumbers (take l.index l.groups) l.numbers × AreApart (take l.index l.groups)
