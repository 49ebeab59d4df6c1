use Rattle.std.proofs.Common.{subst, sym}
use Rattle.std.specs.Prelude.{Ok}
use Rattle.world_terms.specs.declared.event.Event.{Event}
use Rattle.share_world.specs.Performed.{LaneReply}
use Rattle.share_world.proofs.lane.Lane.perform.Goals as goal

pub returns-in-Collect-clause-perform : goal.returns-in-Collect-clause-perform
returns-in-Collect-clause-perform g c = subst (λ (e : Event). LaneReply e (Ok c.collect.result) c.args.self.now c.collect.new.self) (sym c.in-Collect.is) (c.collect.ensures.perform c.in-Collect.lane)
