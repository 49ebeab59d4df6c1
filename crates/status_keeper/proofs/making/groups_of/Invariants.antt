use Rattle.std.proofs.Common.{◌≡◌, length, ℕ, Some}
use Rattle.std.specs.Prelude.{slice_get}
use Rattle.server_status.specs.declared.status.GroupStatus.{GroupStatus}
use Rattle.status_keeper.specs.Made.{IsGroup}
use Rattle.status_keeper.specs.declared.facts.StatedGroup.{StatedGroup}
use Rattle.status_keeper.proofs.making.groups_of.Given as goal

abbrev pub invariant-loop-place : goal.invariant-loop-place
invariant-loop-place l = record {
  count : length l.groups.items ≡ l.place;
  each : (i : ℕ) (g : GroupStatus) → slice_get l.groups.items i ≡ Some g → (s : StatedGroup) × (slice_get l.stated i ≡ Some s) × IsGroup l.limits l.sessions s g;
}
