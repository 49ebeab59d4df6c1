use Rattle.round_events.proofs.Merge.{merged_run, runs_merged}
use Rattle.round_events.proofs.MovedSums.{merged_moves}
use Rattle.round_events.proofs.laws.table_runs_are_merged.Goals as goal

pub returns : goal.returns
returns g c = record { merged = runs_merged g.row.N.Denot; run = merged_run g.row.N.Denot; moved = merged_moves g.row.N.Denot }
