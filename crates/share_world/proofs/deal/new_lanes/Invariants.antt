use Rattle.std.proofs.Common.{◌≡◌, replicate}
use Rattle.world_terms.specs.Lanes.{new_lane}
use Rattle.share_world.proofs.deal.new_lanes.Given as goal

abbrev pub invariant-loop-i : goal.invariant-loop-i
invariant-loop-i g l = l.made.items ≡ replicate l.i new_lane
