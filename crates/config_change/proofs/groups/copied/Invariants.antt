use Rattle.std.proofs.Common.{◌≡◌, take, map, string_bytes}
use Rattle.config_change.proofs.groups.copied.Given as goal

abbrev pub invariant-loop-name : goal.invariant-loop-name
invariant-loop-name l = map string_bytes l.copy.items ≡ map string_bytes (take l.name-index l.names)
