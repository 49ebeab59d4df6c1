use Rattle.std.proofs.Common.{◌≡◌, ◌++◌, map, string_bytes}
use Rattle.std.specs.BTreeMap.{keys}
use Rattle.authorizer.proofs.renumber.names.Given as goal

abbrev pub invariant-loop-name : goal.invariant-loop-name
invariant-loop-name g l =
    map string_bytes l.names.items ++ map string_bytes l.name-iterator ≡ map string_bytes (keys l.accounts)
