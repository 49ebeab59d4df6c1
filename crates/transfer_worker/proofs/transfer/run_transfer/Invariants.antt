use Rattle.std.proofs.Common.{◌≡◌}
use Rattle.data_pump.specs.declared.pumped.PumpEnd.TheVariants.{More}
use Rattle.desk_rule.specs.declared.view.SeatState.TheVariants.{Worker}
use Rattle.lane_desk.specs.Seats.{seat_view, IsSameSeat}
use Rattle.transfer_worker.specs.Transfers.{known, flow_of, last_in}
use Rattle.transfer_worker.specs.Runs.{worker}
use Rattle.transfer_worker.specs.Turns.{IsReported}
use Rattle.transfer_worker.proofs.Sittings.{Sits}
use Rattle.transfer_worker.proofs.transfer.run_transfer.Given as goal

abbrev pub invariant-loop : goal.invariant-loop
invariant-loop g l =
    (goal.iterator-loop g).can_next l.iterator' × (goal.iterator-loop g).is_finite l.iterator'
    × IsSameSeat l.fn.seat l.seat
    × (l.transfer.user ≡ l.fn.transfer.user)
    × (l.transfer.session ≡ l.fn.transfer.session)
    × (last_in (flow_of l.transfer.running) ≡ More)
    × IsReported l.tally (seat_view l.seat)
    × (g.G.Gate.heard l.gate ≡ g.G.Gate.heard l.fn.gate)
    × ((seat_view l.seat).state ≡ Worker)
    × Sits (known g.R.Source.remaining g.K.Sink.collected g.K.Sink.target g.C.Read.remaining g.C.Write.contents) g.G.Gate.may_want l.fn.transfer.user l.fn.transfer.session (flow_of l.fn.transfer.running)
    (worker (seat_view l.fn.seat) l.fn.tally (g.G.Gate.heard l.fn.gate) (g.G.Gate.passed l.fn.gate)) (flow_of l.transfer.running) l.transfer.moved
    (worker (seat_view l.seat) l.tally (g.G.Gate.heard l.gate) (g.G.Gate.passed l.gate))
