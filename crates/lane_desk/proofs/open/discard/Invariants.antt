use Rattle.std.proofs.Common.{◌≡◌, length, replicate}
use Rattle.desk_rule.specs.declared.view.LaneSlot.TheVariants.{Blank}
use Rattle.lane_desk.proofs.open.discard.Given as goal

abbrev pub invariant-loop-slot : goal.invariant-loop-slot
invariant-loop-slot g l = l.slots.items ≡ replicate (length l.slots.items) Blank

abbrev pub decreases-loop-slot : goal.decreases-loop-slot
decreases-loop-slot g l = length l.slots.items
