use Rattle.std.proofs.Common.{◌≡◌, ◌++◌, drop, map, string_bytes}
use Rattle.config_change.proofs.Places.{others}
use Rattle.config_change.proofs.groups.merged_names.Given as goal

abbrev pub invariant-loop-name : goal.invariant-loop-name
invariant-loop-name l =
    map string_bytes l.all.items ++ others (map string_bytes l.old) (map string_bytes (drop l.name-index l.names))
    ≡ map string_bytes l.old ++ others (map string_bytes l.old) (map string_bytes l.names)
