use Rattle.std.proofs.Common.{drop}
use Rattle.handler_hooks.specs.Events.{AllLeave}
use Rattle.handler_hooks.proofs.run.run_hooks.Given as goal

-- whatever ends what is left ends the whole
abbrev pub invariant-loop-action : goal.invariant-loop-action
invariant-loop-action g l =
    (end : _) → AllLeave g.H.Hooks.Reported l.hooks (drop l.action-index l.actions) end
    → AllLeave g.H.Hooks.Reported l.fn.hooks l.actions end
