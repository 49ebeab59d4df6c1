use Rattle.std.proofs.Common.{ap, ◌∙◌}
use Rattle.share_world.proofs.Asking.{none_left}
use Rattle.share_world.proofs.world.World.check_ready.Goals as goal

pub returns-then-not-all_posted-clause-refused : goal.returns-then-not-all_posted-clause-refused
returns-then-not-all_posted-clause-refused g c =
    none_left c.deref.result.now c.args.self.now.world.lanes c.all_posted.result c.all_posted.ensures.posted.1 c.if-not-all_posted.true (c.deref.ensures.value ∙ ap (λ s. s.world.lanes) c.self.view_is)
