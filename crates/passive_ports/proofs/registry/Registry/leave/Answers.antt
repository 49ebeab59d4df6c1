use Rattle.std.proofs.Common.{ap, sym, ◌∙◌}
use Rattle.std.specs.Option.{is_some}
use Rattle.passive_ports.proofs.ConnectionLemmas.{get-connections, keeps_leaving, kept_admitted-remove}
use Rattle.passive_ports.proofs.registry.Registry.leave.Goals as goal

pub invariant_of-self : goal.invariant_of-self
invariant_of-self g c = keeps_leaving c.self.inside.max c.self.inside.max_of_address c.self.inside.addresses c.try_remove.new.self c.args.key c.in-Some.address
    c.self.inside.counts c.count_down.new.counts c.self.invariant c.in-Some.ensures.updates (sym c.in-Some.ensures.value) c.in-Some.ensures.len c.count_down.ensures.down

pub returns-in-Some-clause-was_there : goal.returns-in-Some-clause-was_there
returns-in-Some-clause-was_there g c = rw (← c.self.view_is) (ap is_some (c.in-Some.ensures.value ∙ sym (get-connections c.self.inside.addresses c.args.key)))

pub returns-in-Some-clause-removed : goal.returns-in-Some-clause-removed
returns-in-Some-clause-removed g c = rw (← c.self.view_is) (kept_admitted-remove c.self.inside.max c.self.inside.max_of_address c.self.inside.addresses c.try_remove.new.self c.args.key c.in-Some.ensures.updates)

pub returns-in-None-clause-was_there : goal.returns-in-None-clause-was_there
returns-in-None-clause-was_there g c = rw (← c.self.view_is) (ap is_some (c.in-None.ensures.value ∙ sym (get-connections c.self.inside.addresses c.args.key)))

pub returns-in-None-clause-removed : goal.returns-in-None-clause-removed
returns-in-None-clause-removed g c = rw (← c.self.view_is) (kept_admitted-remove c.self.inside.max c.self.inside.max_of_address c.self.inside.addresses c.try_remove.new.self c.args.key c.in-None.ensures.updates)
