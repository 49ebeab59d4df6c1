use Rattle.std.proofs.Common.{◌≡◌, drop}
use Rattle.socket_host.specs.Refusals.{says_refusal}
use Rattle.socket_host.proofs.refusals.says_refusal.Given as goal

abbrev pub invariant-loop-action : goal.invariant-loop-action
invariant-loop-action g l = says_refusal (drop l.action-index l.actions) ≡ says_refusal l.actions
