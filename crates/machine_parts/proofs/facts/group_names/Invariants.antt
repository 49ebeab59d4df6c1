use Rattle.std.proofs.Common.{◌≡◌, take, map, string_bytes}
use Rattle.machine_parts.proofs.facts.group_names.Given as goal

abbrev pub invariant-loop-name : goal.invariant-loop-name
invariant-loop-name l = map string_bytes l.names.items ≡ map string_bytes (take l.name-index l.config.groups.items)
