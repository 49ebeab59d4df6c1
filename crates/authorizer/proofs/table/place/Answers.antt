use Rattle.authorizer.specs.Stored.{user_of}
use Rattle.authorizer.proofs.Maps.{map_of-insert_key}
use Rattle.authorizer.proofs.table.place.Goals as goal

pub returns-clause-ok : goal.returns-clause-ok
returns-clause-ok g c = map_of-insert_key user_of c.args.name c.args.accounts.now c.insert.new.self c.args.account c.in_ok-insert.ensures.updates
