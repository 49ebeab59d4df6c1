use Rattle.std.proofs.Common.{◌≡◌, map, take}
use Rattle.serde_json.specs.View.{view}
use Rattle.server_status.specs.StatusData.{account_data}
use Rattle.server_status.proofs.values.account_values.Given as goal

abbrev pub invariant-loop-account : goal.invariant-loop-account
invariant-loop-account l = map view l.values.items ≡ map account_data (take l.account-index l.accounts)
