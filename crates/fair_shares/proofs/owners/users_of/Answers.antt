use Rattle.std.proofs.Common.{rules}
use Rattle.user_shares.specs.Nodes.{AreUsers}
use Rattle.fair_shares.proofs.UserLemmas.{owners_are}
use Rattle.fair_shares.proofs.owners.users_of.Goals as goal

pub returns-clause-owners : goal.returns-clause-owners
returns-clause-owners g c =
    let own : AreUsers c.args.flat.now c.in_ok-nodes.nodes.items c.in-Some.owners.items = search rules in
    owners_are c.args.asks.now c.args.flat.now c.in_ok-nodes.nodes.items c.in-Some.owners.items c.requires.tree own c.in_ok-nodes.ensures.users
