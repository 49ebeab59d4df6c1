use Rattle.std.proofs.Common.{Some, refl, ap, rules}
use Rattle.authorizer.specs.Stored.{user_of, map_of}
use Rattle.authorizer.proofs.Maps.{get-found, get-missing, map_of-insert}
use Rattle.authorizer.proofs.table.set_messages.Goals as goal

pub returns-in-Some : goal.returns-in-Some
returns-in-Some g c =
    let account = record c.in-Some.account.now { login = Some c.args.login; quit = Some c.args.quit } in
    let writes = c.get_mut.follows.holds account in
    record {
      messages = (
        user_of c.in-Some.account.now,
        get-found user_of c.args.name.now c.args.accounts.now c.in-Some.account.now c.in-Some.ensures.value,
        map_of-insert user_of c.args.name.now c.args.accounts.now (c.get_mut.follows.lender account) account (writes.3 (search rules)),
      );
    }

pub returns-in-None : goal.returns-in-None
returns-in-None g c =
    record { messages = (refl, get-missing user_of c.args.name.now c.args.accounts.now c.in-None.ensures.value, ap (map_of user_of) c.get_mut.follows.holds-at-none) }
