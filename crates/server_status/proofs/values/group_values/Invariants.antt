use Rattle.std.proofs.Common.{◌≡◌, map, take}
use Rattle.serde_json.specs.View.{view}
use Rattle.server_status.specs.StatusData.{group_data}
use Rattle.server_status.proofs.values.group_values.Given as goal

abbrev pub invariant-loop-group : goal.invariant-loop-group
invariant-loop-group l = map view l.values.items ≡ map group_data (take l.group-index l.groups)
