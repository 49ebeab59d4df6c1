use Rattle.std.proofs.Common.{Some, arith}
use Rattle.passive_ports.proofs.CountLemmas.{sets_count, some_count}
use Rattle.passive_ports.proofs.counts.set_count.Goals as goal

pub returns-clause-set : goal.returns-clause-set
returns-clause-set g c = sets_count c.args.counts.now c.insert.new.self c.args.address (Some c.args.count) c.args.count c.in_ok-insert.ensures.updates
    (some_count c.args.count (omega arith))
