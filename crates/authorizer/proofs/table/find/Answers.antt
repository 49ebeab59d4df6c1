use Rattle.authorizer.specs.Stored.{user_of}
use Rattle.authorizer.proofs.Maps.{found}
use Rattle.authorizer.proofs.table.find.Goals as goal

pub returns : goal.returns
returns g c = record { found = found user_of c.args.name.now c.args.accounts.now c.get.result c.get.ensures.value }
