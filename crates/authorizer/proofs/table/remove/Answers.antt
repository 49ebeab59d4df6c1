use Rattle.std.proofs.Common.{◌∙◌, ap, sym}
use Rattle.std.specs.Option.{is_some}
use Rattle.authorizer.specs.Stored.{user_of}
use Rattle.authorizer.proofs.Maps.{map_of-remove, contains-map_of}
use Rattle.authorizer.proofs.table.remove.Goals as goal

pub returns-clause-removed : goal.returns-clause-removed
returns-clause-removed g c = c.is_some.ensures ∙ ap is_some c.remove.ensures.value ∙ sym (contains-map_of user_of c.args.accounts.now c.args.name.now)

pub returns-clause-users : goal.returns-clause-users
returns-clause-users g c = map_of-remove user_of c.args.name.now c.args.accounts.now c.remove.new.self c.remove.ensures.updates
