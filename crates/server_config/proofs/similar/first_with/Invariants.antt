use Rattle.std.proofs.Common.{◌≡◌, drop}
use Rattle.config_file.specs.Seen.{rows_of}
use Rattle.server_config.specs.Similar.{first_with}
use Rattle.server_config.proofs.similar.first_with.Given as goal

abbrev pub invariant-loop-row : goal.invariant-loop-row
invariant-loop-row l = first_with l.end (rows_of l.rows) ≡ first_with l.end (rows_of (drop l.row-index l.rows))
