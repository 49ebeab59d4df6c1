use Rattle.std.proofs.Common.{◌≡◌, map, string_bytes}
use Rattle.toml.specs.View.{table_view}
use Rattle.config_file.specs.Keys.{stray, first_stray, keys_of}
use Rattle.config_file.specs.Seen.{rows_of}
use Rattle.config_file.proofs.judge.only_known.Given as goal

abbrev pub invariant-loop-key : goal.invariant-loop-key
invariant-loop-key l =
    (goal.iterator-loop-key).can_next l.key-iterator ×
    (goal.iterator-loop-key).is_finite l.key-iterator ×
    (stray (keys_of l.grouped (rows_of l.rows)) (table_view l.table) ≡ first_stray (keys_of l.grouped (rows_of l.rows)) (map string_bytes l.key-iterator))
