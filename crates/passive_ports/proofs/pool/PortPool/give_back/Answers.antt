use Rattle.std.proofs.Common.{sym}
use Rattle.passive_ports.proofs.PortLemmas.{kept_ports-cleared, without_lease-absent}
use Rattle.passive_ports.proofs.pool.PortPool.give_back.Goals as goal

pub returns-then-not-is_leased-clause-returned : goal.returns-then-not-is_leased-clause-returned
returns-then-not-is_leased-clause-returned g c = without_lease-absent c.args.self.now c.args.port (sym c.if-not-is_leased.ensures.leased)

pub returns-clause-returned : goal.returns-clause-returned
returns-clause-returned g c =
    let within = rw (← c.self.view_is) at c.if-not-is_leased.ensures.within in
    let puts = rw c.from.ensures at c.put.ensures.put in
    rw (← c.self.view_is) (kept_ports-cleared c.self.inside.first c.self.inside.last c.self.inside.leased c.put.new.self c.args.port within.from_first within.to_last puts)
