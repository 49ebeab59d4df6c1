use Rattle.std.proofs.Common.{◌≡◌, drop}
use Rattle.socket_host.specs.Refusals.{first_refusal}
use Rattle.socket_host.proofs.refusals.first_refusal.Given as goal

abbrev pub invariant-loop-action : goal.invariant-loop-action
invariant-loop-action g l = first_refusal (drop l.action-index l.actions) ≡ first_refusal l.actions
