use Rattle.std.proofs.Common.{arith, sym, ◌∙◌, ◌≤◌, ◌<◌, ◌⊎◌, inl, inr, ap}
use Rattle.std.proofs.lemmas.Bool.{leb-true, leb-false}
use Rattle.passive_ports.specs.Bits.{has_bit}
use Rattle.passive_ports.proofs.PortLemmas.{contains-kept_ports, contains-kept_ports_outside}
use Rattle.passive_ports.proofs.pool.PortPool.is_leased.Goals as goal
use Rattle.passive_ports.proofs.pool.PortPool.is_leased.Goals.{then-self-port, else-self-port}

pub returns-then-port-self-clause-leased : goal.returns-then-port-self-clause-leased
returns-then-port-self-clause-leased g c =
    let bounds : (c.self.inside.first ≤ c.args.port) × (c.args.port ≤ c.self.inside.last) =
    elim c.if-self-port.branch [
      | then-self-port w ↦ (omega arith, leb-true _ _ (sym w.value-is ∙ c.if-port-self.true))
      | else-self-port w ↦ let from = leb-true _ _ (sym w.value-is ∙ c.if-port-self.true) in absurd (omega arith)
    ] in
    c.is_set.ensures.bit ∙ ap (has_bit c.self.inside.leased) c.from.ensures
    ∙ rw (← c.self.view_is) (contains-kept_ports c.self.inside.first c.self.inside.last c.self.inside.leased c.args.port bounds.0 bounds.1)

pub returns-else-port-self-clause-leased : goal.returns-else-port-self-clause-leased
returns-else-port-self-clause-leased g c =
    let out : (c.args.port < c.self.inside.first) ⊎ (c.self.inside.last < c.args.port) =
    elim c.if-self-port.branch [
      | then-self-port w ↦ inr (leb-false _ _ (sym w.value-is ∙ c.if-port-self.false))
      | else-self-port w ↦ inl (omega arith)
    ] in
    c.if-port-self.false ∙ rw (← c.self.view_is) (contains-kept_ports_outside c.self.inside.first c.self.inside.last c.self.inside.leased c.args.port c.self.invariant.ordered out)
