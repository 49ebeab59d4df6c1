use Rattle.std.proofs.Common.{◌≡◌, ◌++◌, length}
use Rattle.std.specs.Prelude.{vec_capacity}
use Rattle.lane_desk.specs.Seats.{desk_id}
use Rattle.lane_desk.specs.Workers.{AreWorkers}
use Rattle.ftp_daemon.proofs.settling.gather_fresh.Given as goal

abbrev pub invariant-loop-seat : goal.invariant-loop-seat
invariant-loop-seat g l =
    (l.yielded ++ l.seat-iterator.rest.items ≡ l.fn.seats.items)
    × (length l.gathered.items ≡ length l.yielded)
    × (vec_capacity l.gathered ≡ vec_capacity l.fn.gathered)
    × (l.tally ≡ l.fn.tally)
    × AreWorkers (desk_id l.fn._desk) (length l.gathered.items) l.gathered.items
