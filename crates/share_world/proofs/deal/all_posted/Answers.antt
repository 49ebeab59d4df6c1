use Rattle.std.proofs.Common.{refl}
use Rattle.world_terms.specs.Decisions.{IsPosted}
use Rattle.share_world.proofs.Asking.{all_more, all_whole}
use Rattle.share_world.proofs.deal.all_posted.Goals as goal

pub loop-lane-preserved : goal.loop-lane-preserved
loop-lane-preserved g c = all_more IsPosted c.args.lanes.now c.loop-lane.lane-index _ c.lane-item.result refl c.loop-lane-test.true c.lane-item.is c.loop-lane.invariant (c.is_posted.ensures.posted.0 c.if-not-is_posted.false)

pub returns : goal.returns
returns g c = record { posted = (λ t. all_whole IsPosted c.args.lanes.now c.loop-lane.lane-index c.loop-lane-test.false c.loop-lane.invariant, λ h. refl) }
