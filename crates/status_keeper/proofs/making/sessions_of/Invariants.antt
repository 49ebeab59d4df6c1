use Rattle.std.proofs.Common.{◌≡◌, length, ℕ, Some}
use Rattle.std.specs.Prelude.{slice_get}
use Rattle.server_status.specs.declared.status.SessionStatus.{SessionStatus}
use Rattle.status_keeper.specs.Made.{IsSession}
use Rattle.status_keeper.specs.declared.facts.KeptSession.{KeptSession}
use Rattle.status_keeper.proofs.making.sessions_of.Given as goal

abbrev pub invariant-loop-place : goal.invariant-loop-place
invariant-loop-place l = record {
  count : length l.rows.items ≡ l.place;
  each : (i : ℕ) (row : SessionStatus) → slice_get l.rows.items i ≡ Some row → (k : KeptSession) × (slice_get l.sessions i ≡ Some k) × IsSession l.facts l.transfers l.now k row;
}
