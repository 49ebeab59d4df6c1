use Rattle.std.proofs.Common.{◌≡◌, length, ℕ, Some}
use Rattle.std.specs.Prelude.{slice_get}
use Rattle.server_status.specs.declared.status.AccountStatus.{AccountStatus}
use Rattle.status_keeper.specs.Made.{IsAccount}
use Rattle.status_keeper.specs.declared.facts.KeptAccount.{KeptAccount}
use Rattle.status_keeper.proofs.making.accounts_of.Given as goal

abbrev pub invariant-loop-place : goal.invariant-loop-place
invariant-loop-place l = record {
  count : length l.rows.items ≡ l.place;
  each : (i : ℕ) (row : AccountStatus) → slice_get l.rows.items i ≡ Some row → (k : KeptAccount) × (slice_get l.accounts i ≡ Some k) × IsAccount l.facts l.transfers k row;
}
