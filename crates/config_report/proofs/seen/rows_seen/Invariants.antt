use Rattle.std.proofs.Common.{◌≡◌, ℕ, Some, length}
use Rattle.std.specs.Prelude.{slice_get}
use Rattle.config_report.specs.Looks.{IsRowOf}
use Rattle.config_report.specs.declared.seen.SeenUser.{SeenUser}
use Rattle.config_report.proofs.seen.rows_seen.Given as goal

abbrev pub invariant-loop-place : goal.invariant-loop-place
invariant-loop-place g l = record {
  count : length l.rows.items ≡ l.place;
  each : (i : ℕ) (row : SeenUser) → slice_get l.rows.items i ≡ Some row → IsRowOf (g.L.Lookout.Shows l.lookout) l.fn.store l.users l.overrides i row;
  same : l.store ≡ l.fn.store;
}
