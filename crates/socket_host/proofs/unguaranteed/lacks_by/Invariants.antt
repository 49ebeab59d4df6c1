use Rattle.std.proofs.Common.{◌≡◌, drop}
use Rattle.socket_host.specs.Unguaranteed.{lacks_by}
use Rattle.socket_host.proofs.unguaranteed.lacks_by.Given as goal

abbrev pub invariant-loop-action : goal.invariant-loop-action
invariant-loop-action g l = lacks_by (drop l.action-index l.actions) ≡ lacks_by l.actions
