use Rattle.std.proofs.Common.{◌≡◌, Some, take}
use Rattle.std.specs.List.{All}
use Rattle.status_keeper.proofs.making.lane_of.Given as goal

abbrev pub invariant-loop-lane : goal.invariant-loop-lane
invariant-loop-lane l = All (λ lane. ¬ lane.session ≡ Some l.session) (take l.lane-index l.lanes)
