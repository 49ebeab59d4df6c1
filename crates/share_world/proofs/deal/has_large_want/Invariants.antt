use Rattle.std.proofs.Common.{◌≡◌, drop}
use Rattle.std.specs.List.{list_any}
use Rattle.world_terms.specs.Decisions.{has_large_want, in_round_from, wants_too_much}
use Rattle.share_world.proofs.deal.has_large_want.Given as goal

abbrev pub invariant-loop-lane : goal.invariant-loop-lane
invariant-loop-lane g l = has_large_want l.lanes ≡ list_any wants_too_much (in_round_from l.lane-index (drop l.lane-index l.lanes))
