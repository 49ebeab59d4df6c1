use Rattle.std.proofs.Common.{◌≡◌}
use Rattle.socket_host.proofs.side.SocketSide.await_end.Given as goal

abbrev pub invariant-loop : goal.invariant-loop
invariant-loop g l =
    (goal.iterator-loop g).can_next l.iterator' × (goal.iterator-loop g).is_finite l.iterator'
    × (l.self.run.running ≡ l.initial.self.run.running) × (l.self.prepared ≡ l.initial.self.prepared) × (l.self.ready ≡ l.initial.self.ready)
    × (l.self.kept ≡ l.initial.self.kept) × (l.self.run.payer ≡ l.initial.self.run.payer)
