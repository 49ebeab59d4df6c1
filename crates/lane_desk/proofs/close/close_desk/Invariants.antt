use Rattle.std.proofs.Common.{◌≡◌, ◌+◌, ◌++◌, length}
use Rattle.lane_desk.specs.Traces.{traces, back, IsRoundOf}
use Rattle.lane_desk.specs.AllLanes.{AllClosed, GivesBack}
use Rattle.lane_desk.proofs.AllLanes.{Untouched}
use Rattle.lane_desk.proofs.close.close_desk.Given as goal

abbrev pub invariant-loop-seat : goal.invariant-loop-seat
invariant-loop-seat g l =
    record {
      order : l.yielded ++ l.seat-iterator.rest.items ≡ l.fn.seats.items;
      desk : IsRoundOf l.desk l.round;
      closed : AllClosed (traces l.fn.round) l.yielded (traces l.round) (back l.round);
      others : Untouched (length l.yielded) (traces l.fn.round) (traces l.round);
      moved : l.tally.moved ≡ l.fn.tally.moved;
      taken : GivesBack l.fn.tally.back l.tally.back l.yielded (back l.round);
    }
