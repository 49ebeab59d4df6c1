-- Sums of the tallies of lent workers.
use Rattle.std.specs.Prelude.{ℕ, List}
use Rattle.std.specs.List.{sum_by}
use Rattle.lent_parts.specs.declared.name.PartsName.{Ghosts}
use Rattle.lent_parts.specs.declared.worker.LentWorker.{LentWorker}

module _ {B N : Type 0} {names : Ghosts B} where
  -- the octets moved in their tallies
  abbrev pub moved_by_lent : List (LentWorker B N names) → ℕ
  moved_by_lent ws = sum_by (λ w. w.tally.moved) ws
