use Rattle.std.proofs.Common.{◌≡◌, drop}
use Rattle.socket_host.specs.Declined.{declined_by}
use Rattle.socket_host.proofs.declining.declined_by.Given as goal

abbrev pub invariant-loop-action : goal.invariant-loop-action
invariant-loop-action g l = declined_by (drop l.action-index l.actions) ≡ declined_by l.actions
