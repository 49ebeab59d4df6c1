use Rattle.std.proofs.Common.{◌≡◌, ◌++◌, drop, map, string_bytes}
use Rattle.config_change.specs.Past.{with_numbers}
use Rattle.machine_parts.specs.Facts.{stated_user}
use Rattle.machine_parts.proofs.facts.stated_users.Given as goal

abbrev pub invariant-loop-name : goal.invariant-loop-name
invariant-loop-name l =
    map stated_user l.stated.items ++ with_numbers l.config.users (map string_bytes (drop l.name-index l.name-items))
    ≡ with_numbers l.config.users (map string_bytes l.name-items)
