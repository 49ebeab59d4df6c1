use Rattle.std.proofs.Common.{length}
use Rattle.limit_tree.specs.Outline.{limits}
use Rattle.user_shares.proofs.Alike.{has-users}
use Rattle.user_shares.proofs.OwnLeaves.{own-shared, own-small}
use Rattle.user_shares.proofs.share.share_leaves.Goals as goal

pub returns-clause-shared : goal.returns-clause-shared
returns-clause-shared g c =
    let ps = c.args.tree.now in
    let users = c.args.users.now in
    let owners = c.args.owners.now in
    let tree = c.nodes_are_a_tree.ensures.flat.limit_tree.branches in
    own-shared (limits ps) (length users) owners c.in_ok-shared.shared.0.items c.in_ok-shared.shared.1 tree (has-users ps users owners tree c.requires.users) c.requires.own c.in_ok-shared.ensures.within c.in_ok-shared.ensures.backed

pub returns-clause-small : goal.returns-clause-small
returns-clause-small g c = own-small (limits c.args.tree.now) (length c.args.users.now) c.args.owners.now c.requires.users.each c.requires.own c.nodes_are_a_tree.ensures.flat.few_each
