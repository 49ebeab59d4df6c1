use Rattle.std.proofs.Common.{◌≡◌, drop}
use Rattle.control_session.specs.Reported.{closes}
use Rattle.control_session.proofs.actions.closes.Given as goal

abbrev pub invariant-loop-action : goal.invariant-loop-action
invariant-loop-action g l = closes (drop l.action-index l.actions) ≡ closes l.fn.actions
