use Rattle.std.proofs.Common.{◌≡◌, ◌+◌, ◌++◌, length}
use Rattle.std.specs.Prelude.{vec_capacity}
use Rattle.lent_parts.proofs.seats.lend_seats.Given as goal

abbrev pub invariant-loop-seat : goal.invariant-loop-seat
invariant-loop-seat g l =
    (l.yielded ++ l.seat-iterator.rest.items ≡ l.fn.seats.items)
    × (length l.workers.items ≡ length l.fn.workers.items + length l.yielded)
    × (vec_capacity l.workers ≡ vec_capacity l.fn.workers)
    × (l.tally ≡ l.fn.tally)
