use Rattle.round_events.proofs.DeskEnds.{opened_is_new}
use Rattle.round_events.proofs.DeskRuns.{desk_runs}
use Rattle.round_events.proofs.DeskTables.{shown_is_one}
use Rattle.round_events.proofs.laws.desk_runs_are_runs.Goals as goal

pub returns : goal.returns
returns g c = record { runs = desk_runs; opened = opened_is_new g.row.N.Denot; one = shown_is_one g.row.N.Denot }
