use Rattle.std.proofs.Common.{◌≡◌, take}
use Rattle.std.specs.List.{All}
use Rattle.world_terms.specs.Runs.{IsRun}
use Rattle.share_world.specs.Stopped.{HadMemory}
use Rattle.share_world.proofs.world.World.run.Given as goal

abbrev pub invariant-loop-event : goal.invariant-loop-event
invariant-loop-event g l = record { run : IsRun (λ _. l.fn.self.rates) l.fn.self.world (take l.event-index l.events) l.replies.items l.self.world; had : All HadMemory l.replies.items; rates : l.self.rates ≡ l.fn.self.rates }
