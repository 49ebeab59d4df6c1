use Rattle.std.proofs.Common.{◌≡◌, map, take}
use Rattle.serde_json.specs.View.{view}
use Rattle.server_status.specs.StatusData.{transfer_data}
use Rattle.server_status.proofs.values.transfer_values.Given as goal

abbrev pub invariant-loop-transfer : goal.invariant-loop-transfer
invariant-loop-transfer l = map view l.values.items ≡ map transfer_data (take l.transfer-index l.transfers)
