use Rattle.passive_ports.proofs.ConnectionLemmas.{starts_empty}
use Rattle.passive_ports.proofs.registry.Registry.new.Goals as goal

pub invariant_of-result : goal.invariant_of-result
invariant_of-result g c = starts_empty c.args.max c.args.max_of_address c.new-addresses.result c.new.result c.new-addresses.ensures.empty c.new.ensures.empty
