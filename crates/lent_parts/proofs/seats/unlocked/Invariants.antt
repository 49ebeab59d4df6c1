use Rattle.std.proofs.Common.{◌≡◌, ◌+◌, length}
use Rattle.std.specs.Prelude.{vec_capacity}
use Rattle.lent_parts.proofs.seats.unlocked.Given as goal

abbrev pub invariant-loop-seat : goal.invariant-loop-seat
invariant-loop-seat g l =
    (length l.all.items + length l.seats.items ≡ length l.fn.seats.items)
    × (vec_capacity l.all ≡ vec_capacity l.fn.gathered)

abbrev pub decreases-loop-seat : goal.decreases-loop-seat
decreases-loop-seat g l = length l.seats.items
