use Rattle.std.proofs.Common.{◌≡◌, take, map, string_bytes}
use Rattle.config_change.specs.Named.{rates_named}
use Rattle.config_change.proofs.rows.named_rates.Given as goal

abbrev pub invariant-loop-name : goal.invariant-loop-name
invariant-loop-name l = l.rows.items ≡ map (λ name. rates_named l.users l.limits (string_bytes name)) (take l.name-index l.names)
