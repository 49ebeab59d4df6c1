use Rattle.std.proofs.Common.{◌≡◌, map, take}
use Rattle.ftp_server.specs.FromConfig.{set_of}
use Rattle.ftp_server.proofs.from_config.sets_of.Given as goal

abbrev pub invariant-loop-row : goal.invariant-loop-row
invariant-loop-row l = l.sets.items ≡ map set_of (take l.row-index l.rows)
