use Rattle.std.proofs.Common.{◌≡◌, ◌++◌, drop, map, string_bytes}
use Rattle.config_change.proofs.Places.{rows_by}
use Rattle.config_change.proofs.rows.user_rows.Given as goal

abbrev pub invariant-loop-index : goal.invariant-loop-index
invariant-loop-index l =
    l.rows.items ++ rows_by l.users l.numbers (map string_bytes (drop l.index l.names)) (drop l.index l.rates)
    ≡ rows_by l.users l.numbers (map string_bytes l.names) l.rates
