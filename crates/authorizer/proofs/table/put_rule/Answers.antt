use Rattle.authorizer.proofs.Maps.{map_of-insert_key}
use Rattle.authorizer.proofs.table.put_rule.Goals as goal

pub returns-clause-ok : goal.returns-clause-ok
returns-clause-ok g c = map_of-insert_key (λ rule. rule) c.args.text c.args.rules.now c.insert.new.self c.args.rule c.in_ok-insert.ensures.updates
