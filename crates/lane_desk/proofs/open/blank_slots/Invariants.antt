use Rattle.std.proofs.Common.{◌≡◌, replicate, ◌≤◌}
use Rattle.std.specs.Prelude.{vec_len, vec_capacity}
use Rattle.desk_rule.specs.declared.view.LaneSlot.TheVariants.{Blank}
use Rattle.lane_desk.proofs.open.blank_slots.Given as goal

abbrev pub invariant-loop-i : goal.invariant-loop-i
invariant-loop-i g l = (l.slots.items ≡ replicate l.i Blank) × (vec_len l.slots ≡ l.i) × (l.lanes ≤ vec_capacity l.slots)
