use Rattle.std.proofs.Common.{map, take}
use Rattle.serde_json.specs.View.{view}
use Rattle.server_status.specs.StatusRead.{AreOf, IsAccountOf}
use Rattle.server_status.proofs.records.accounts_of.Given as goal

abbrev pub invariant-loop-value : goal.invariant-loop-value
invariant-loop-value l = AreOf IsAccountOf (map view (take l.value-index l.values)) l.accounts.items
