use Rattle.std.proofs.Common.{take}
use Rattle.world_terms.specs.Decisions.{AllPosted}
use Rattle.share_world.proofs.deal.all_posted.Given as goal

abbrev pub invariant-loop-lane : goal.invariant-loop-lane
invariant-loop-lane g l = AllPosted (take l.lane-index l.lanes)
