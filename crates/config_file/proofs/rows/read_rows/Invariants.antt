use Rattle.std.proofs.Common.{ℕ, List, ◌+◌, take, drop}
use Rattle.toml.specs.Data.{Data}
use Rattle.toml.specs.View.{items_view}
use Rattle.config_file.specs.declared.fault.Problem.{Problem}
use Rattle.config_file.specs.Lists.{AreRows, IsFirstRefused}
use Rattle.config_file.proofs.rows.read_rows.Given as goal

abbrev pub invariant-loop-index : goal.invariant-loop-index
invariant-loop-index g l =
    AreRows l.grouped g.R.Keyed.Keys g.R.Keyed.Values (items_view (take l.index l.values)) l.found.items
    × ((k : ℕ) (row : Data) (key : List ℕ) (problem : Problem)
    → IsFirstRefused l.grouped g.R.Keyed.Keys l.key (items_view (drop l.index l.values)) k row key problem
    → IsFirstRefused l.grouped g.R.Keyed.Keys l.key (items_view l.values) (l.index + k) row key problem)
