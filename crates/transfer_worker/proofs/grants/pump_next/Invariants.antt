use Rattle.std.proofs.Common.{◌≡◌, ℕ, List, [], length}
use Rattle.lane_desk.specs.Seats.{seat_view, IsSameSeat}
use Rattle.transfer_worker.specs.Passes.{leaves}
use Rattle.transfer_worker.specs.Transfers.{flow_of}
use Rattle.transfer_worker.specs.Runs.{worker, Adds}
use Rattle.transfer_worker.specs.Turns.{IsReported}
use Rattle.transfer_worker.proofs.grants.pump_next.Given as goal

abbrev pub invariant-loop : goal.invariant-loop
invariant-loop g l =
    (goal.iterator-loop g).can_next l.iterator' × (goal.iterator-loop g).is_finite l.iterator'
    × IsSameSeat l.fn.seat l.seat
    × (l.transfer.user ≡ l.fn.transfer.user)
    × (l.transfer.session ≡ l.fn.transfer.session)
    × (l.transfer.moved ≡ l.fn.transfer.moved)
    × (flow_of l.transfer.running ≡ flow_of l.fn.transfer.running)
    × IsReported l.tally (seat_view l.seat)
    × (g.G.Gate.heard l.gate ≡ g.G.Gate.heard l.fn.gate)
    × ((seat_view l.seat).state ≡ (seat_view l.fn.seat).state)
    × ((seat_view l.seat).sittings ≡ (seat_view l.fn.seat).sittings)
    × ((between : List ℕ) × Adds [] [] (length between) [] (leaves l.fn.transfer.session l.fn.transfer.moved between)
    (worker (seat_view l.fn.seat) l.fn.tally (g.G.Gate.heard l.fn.gate) (g.G.Gate.passed l.fn.gate))
    (worker (seat_view l.seat) l.tally (g.G.Gate.heard l.gate) (g.G.Gate.passed l.gate)))
