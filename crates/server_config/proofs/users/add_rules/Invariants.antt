use Rattle.std.proofs.Common.{take}
use Rattle.server_config.specs.Users.{AddsRules}
use Rattle.server_config.proofs.users.add_rules.Given as goal

abbrev pub invariant-loop-index : goal.invariant-loop-index
invariant-loop-index l = AddsRules l.name (take l.index l.rules) l.initial.users l.users
