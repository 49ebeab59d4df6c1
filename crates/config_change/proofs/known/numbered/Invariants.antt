use Rattle.std.proofs.Common.{◌≡◌, ◌++◌, drop, map, string_bytes}
use Rattle.config_change.specs.Past.{named_item, with_numbers}
use Rattle.config_change.proofs.known.numbered.Given as goal

abbrev pub invariant-loop-text : goal.invariant-loop-text
invariant-loop-text l =
    map named_item l.known.items ++ with_numbers l.users (map string_bytes (drop l.text-index l.names))
    ≡ with_numbers l.users (map string_bytes l.names)
