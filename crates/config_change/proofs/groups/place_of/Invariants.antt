use Rattle.std.proofs.Common.{◌≡◌, drop, map, string_bytes}
use Rattle.config_change.specs.Named.{place_in}
use Rattle.config_change.proofs.Places.{shifted}
use Rattle.config_change.proofs.groups.place_of.Given as goal

abbrev pub invariant-loop-index : goal.invariant-loop-index
invariant-loop-index l =
    shifted l.index (place_in (map string_bytes (drop l.index l.names)) l.name) ≡ place_in (map string_bytes l.names) l.name
