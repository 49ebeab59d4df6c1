use Rattle.std.proofs.Common.{◌≡◌, List, All}
use Rattle.desk_rule.specs.declared.view.SeatState.TheVariants.{Free}
use Rattle.lane_desk.specs.Seats.{seat_view, IsSameSeat}
use Rattle.transfer_worker.specs.Boards.{done_by, IsSameBoard}
use Rattle.transfer_worker.specs.Transfers.{known}
use Rattle.transfer_worker.specs.Runs.{worker}
use Rattle.transfer_worker.specs.Turns.{IsReported}
use Rattle.transfer_worker.specs.Works.{Work, NotStopped, Did}
use Rattle.transfer_worker.proofs.work.worker_loop.Given as goal

abbrev pub invariant-loop : goal.invariant-loop
invariant-loop g l =
    (goal.iterator-loop g).can_next l.iterator' × (goal.iterator-loop g).is_finite l.iterator'
    × IsSameSeat l.initial.seat l.seat
    × IsSameBoard l.fn.pass l.pass
    × IsReported l.tally (seat_view l.seat)
    × ((seat_view l.seat).state ≡ Free)
    × ((works : List (Work g.row.R.Denot g.row.K.Denot g.row.C.Denot)) × All NotStopped works
    × Did (known g.R.Source.remaining g.K.Sink.collected g.K.Sink.target g.C.Read.remaining g.C.Write.contents) g.G.Gate.may_want works (done_by l.fn.pass) (done_by l.pass)
    (worker (seat_view l.initial.seat) l.initial.tally (g.G.Gate.heard l.fn.gate) (g.G.Gate.passed l.fn.gate))
    (worker (seat_view l.seat) l.tally (g.G.Gate.heard l.gate) (g.G.Gate.passed l.gate)))
