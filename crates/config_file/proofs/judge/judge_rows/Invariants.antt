use Rattle.std.proofs.Common.{ℕ, List, drop}
use Rattle.toml.specs.View.{table_view}
use Rattle.config_file.specs.declared.fault.Problem.{Problem}
use Rattle.config_file.specs.Keys.{AllFit, IsFirstProblem}
use Rattle.config_file.specs.Seen.{rows_of}
use Rattle.config_file.proofs.judge.judge_rows.Given as goal

abbrev pub invariant-loop-row : goal.invariant-loop-row
invariant-loop-row l =
    ((key : List ℕ) (problem : Problem) → IsFirstProblem (rows_of (drop l.row-index l.rows)) (table_view l.table) key problem
    → IsFirstProblem (rows_of l.rows) (table_view l.table) key problem)
    × (AllFit (rows_of (drop l.row-index l.rows)) (table_view l.table) → AllFit (rows_of l.rows) (table_view l.table))
