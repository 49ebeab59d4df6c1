use Rattle.std.proofs.Common.{◌≡◌, ◌++◌, drop, map, string_bytes}
use Rattle.config_change.specs.Past.{with_numbers}
use Rattle.machine_parts.proofs.known.numbers_of.Given as goal

abbrev pub invariant-loop-name : goal.invariant-loop-name
invariant-loop-name l =
    l.numbers.items ++ map (λ e. e.1) (with_numbers l.users (map string_bytes (drop l.name-index l.name-items)))
    ≡ map (λ e. e.1) (with_numbers l.users (map string_bytes l.name-items))
