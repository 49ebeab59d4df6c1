use Rattle.std.proofs.Common.{◌≡◌, length, ℕ, Some}
use Rattle.std.specs.Prelude.{slice_get}
use Rattle.server_status.specs.declared.status.TransferStatus.{TransferStatus}
use Rattle.status_keeper.specs.Made.{IsRow}
use Rattle.status_keeper.specs.declared.facts.KeptTransfer.{KeptTransfer}
use Rattle.status_keeper.proofs.making.rows_of.Given as goal

abbrev pub invariant-loop-place : goal.invariant-loop-place
invariant-loop-place l = record {
  count : length l.rows.items ≡ l.place;
  each : (i : ℕ) (row : TransferStatus) → slice_get l.rows.items i ≡ Some row → (t : KeptTransfer) × (slice_get l.transfers i ≡ Some t) × IsRow l.facts l.lanes t row;
}
