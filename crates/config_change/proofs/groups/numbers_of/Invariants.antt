use Rattle.std.proofs.Common.{◌≡◌, take, map, string_bytes}
use Rattle.config_change.specs.Named.{places_in}
use Rattle.config_change.proofs.groups.numbers_of.Given as goal

abbrev pub invariant-loop-name : goal.invariant-loop-name
invariant-loop-name l =
    l.numbers.items ≡ places_in (map string_bytes l.all) (map string_bytes (take l.name-index l.names))
