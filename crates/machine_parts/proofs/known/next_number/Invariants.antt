use Rattle.std.proofs.Common.{◌≡◌, ℕ, ◌<◌, ◌≤◌, Some}
use Rattle.std.specs.Prelude.{slice_get}
use Rattle.config_change.specs.declared.known.NumberedName.{NumberedName}
use Rattle.machine_parts.specs.Known.{AreBelow}
use Rattle.machine_parts.proofs.known.next_number.Given as goal

abbrev pub invariant-loop-place : goal.invariant-loop-place
invariant-loop-place l = record {
  below : (place : ℕ) (user : NumberedName) → place < l.place → slice_get l.users place ≡ Some user → user.number < l.next;
  least : (bound : ℕ) → AreBelow l.users bound → l.next ≤ bound;
}
