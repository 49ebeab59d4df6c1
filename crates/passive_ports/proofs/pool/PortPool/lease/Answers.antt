use Rattle.std.proofs.Common.{arith}
use Rattle.passive_ports.proofs.PortLemmas.{all_leased, lowest_port, kept_ports-put}
use Rattle.passive_ports.proofs.pool.PortPool.lease.Goals as goal

pub returns-in_err-place-clause-all : goal.returns-in_err-place-clause-all
returns-in_err-place-clause-all g c =
    rw (c.from_residual.ensures, ← c.self.view_is) (all_leased c.self.inside.first c.self.inside.last c.self.inside.leased
    (λ k less. c.in_err-place.ensures.lowest k (omega arith)))

pub returns-then-place-from-clause-all : goal.returns-then-place-from-clause-all
returns-then-place-from-clause-all g c =
    rw (← c.self.view_is) (all_leased c.self.inside.first c.self.inside.last c.self.inside.leased
    (λ k less. c.in_ok-place.ensures.lowest.below k (omega arith)))

pub returns-clause-lowest : goal.returns-clause-lowest
returns-clause-lowest g c =
    rw (← c.self.view_is) (lowest_port c.self.inside.first c.self.inside.last c.self.inside.leased c.in_ok-place.place
    c.self.invariant.ordered c.in_ok-place.ensures.lowest (omega arith))

pub returns-clause-leased : goal.returns-clause-leased
returns-clause-leased g c =
    rw (← c.self.view_is) (kept_ports-put c.self.inside.first c.self.inside.last c.self.inside.leased c.put.new.self c.in_ok-place.place
    (omega arith) c.put.ensures.put)
