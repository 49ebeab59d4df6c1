use Rattle.std.proofs.Common.{◌≡◌, map, take}
use Rattle.std.specs.Prelude.{string_bytes}
use Rattle.server_config.specs.Configs.{group_name}
use Rattle.server_config.proofs.group_names.group_names.Given as goal

abbrev pub invariant-loop-group : goal.invariant-loop-group
invariant-loop-group l = map group_name (take l.group-index l.groups) ≡ map string_bytes l.names.items
