use Rattle.std.proofs.Common.{None, Some, ap, ◌∙◌, ◌-◌, sym, rules}
use Rattle.passive_ports.proofs.CountLemmas.{sets_count, some_count, no_count}
use Rattle.passive_ports.proofs.counts.count_down.Goals as goal

pub returns-then-rest-eq0 : goal.returns-then-rest-eq0
returns-then-rest-eq0 g c =
    let left = c.saturating_sub-rest.ensures ∙ ap (λ n. n - 1) c.count_in.ensures.count in
    record { down = sets_count c.args.counts.now c.remove.new.self c.args.address None _ c.remove.ensures.updates (no_count _ (sym left ∙ c.if-rest-eq0.true)) }

pub returns-in-Some : goal.returns-in-Some
returns-in-Some g c =
    let rest = c.saturating_sub-rest.result in
    let left = c.saturating_sub-rest.ensures ∙ ap (λ n. n - 1) c.count_in.ensures.count in
    let writes = c.get_mut.follows.holds rest in
    record { down = rw (← left) (sets_count c.args.counts.now (c.get_mut.follows.lender rest) c.args.address (Some rest) rest (writes.3 (search rules)) (some_count rest c.if-rest-eq0.false)) }
