use Rattle.std.proofs.Common.{◌≡◌, drop}
use Rattle.status_keeper.specs.Made.{rounds_with}
use Rattle.status_keeper.proofs.making.rounds_with.Given as goal

abbrev pub invariant-loop-lane : goal.invariant-loop-lane
invariant-loop-lane l = rounds_with l.held (drop l.lane-index l.lanes) ≡ rounds_with l.fn.before l.lanes
