use Rattle.std.proofs.Common.{◌≡◌, ◌∙◌, ◌≤◌, ℕ, unwrap_or, ap, sym, subst, arith, Option}
use Rattle.passive_ports.specs.Connections.{Admitted, IsWithinLimits, connections_of, count_in, count_of, kept_admitted, with_limits}
use Rattle.passive_ports.proofs.CountLemmas.{unwrap_or-kept_count}
use Rattle.passive_ports.proofs.registry.Registry.exceeded.Goals as goal

pub returns-clause-within : goal.returns-clause-within
returns-clause-within g c = λ none.
    let kept = kept_admitted c.self.inside.max c.self.inside.max_of_address c.self.inside.addresses in
    let within : IsWithinLimits (with_limits kept c.args.max c.args.max_of_address) = record {
      all = omega (arith, c.self.invariant.len, c.if-connected-max.false);
      of_address = λ limited address.
          let same : count_in c.self.inside.counts address ≡ count_of (connections_of c.self.inside.addresses) address
          = ap (λ (o : Option ℕ). unwrap_or o 0) (c.self.invariant.counted address) ∙ unwrap_or-kept_count (count_of (connections_of c.self.inside.addresses) address) in
          subst (λ (n : ℕ). n ≤ c.args.max_of_address) same (c.crowded.ensures.none (cc) limited address);
    } in
    subst (λ (a : Admitted). IsWithinLimits (with_limits a c.args.max c.args.max_of_address)) c.self.view_is within
