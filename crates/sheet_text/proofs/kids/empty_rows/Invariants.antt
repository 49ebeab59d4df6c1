use Rattle.std.proofs.Common.{◌≡◌, [], ℕ, Vec, Some, length}
use Rattle.std.specs.Prelude.{slice_get}
use Rattle.sheet_text.proofs.kids.empty_rows.Given as goal

abbrev pub invariant-loop : goal.invariant-loop
invariant-loop g l = record {
  length : length l.rows.items ≡ l.counter;
  empty : (place : ℕ) (row : Vec ℕ g.row.A.Denot) → slice_get l.rows.items place ≡ Some row → row.items ≡ [];
}
