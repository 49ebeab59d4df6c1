use Rattle.std.proofs.Common.{◌≡◌, drop}
use Rattle.config_file.specs.Keys.{is_among, keys_of}
use Rattle.config_file.specs.Seen.{rows_of}
use Rattle.config_file.proofs.judge.is_among.Given as goal

abbrev pub invariant-loop-row : goal.invariant-loop-row
invariant-loop-row l =
    is_among (keys_of l.grouped (rows_of l.rows)) l.key ≡ is_among (keys_of l.grouped (rows_of (drop l.row-index l.rows))) l.key
