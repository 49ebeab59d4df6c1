use Rattle.passive_ports.proofs.PortLemmas.{kept_ports-clear}
use Rattle.passive_ports.proofs.pool.PortPool.new.Goals as goal

pub returns-clause-opened : goal.returns-clause-opened
returns-clause-opened g c = kept_ports-clear c.args.first c.args.last c.in_ok-leased.leased c.in_ok-leased.ensures.clear
