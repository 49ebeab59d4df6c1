use Rattle.std.proofs.Common.{length}
use Rattle.limit_tree.specs.Outline.{limits}
use Rattle.user_shares.proofs.WholeUsers.{too-large}
use Rattle.user_shares.proofs.stages.totals_of.Goals as goal

pub returns-in-Some-clause-fault : goal.returns-in-Some-clause-fault
returns-in-Some-clause-fault g c = too-large (limits c.args.flat.now) (length c.args.users.now) c.args.owners.now c.args.most.now c.in-Some.user c.requires.most c.in-Some.ensures.some.0 c.in-Some.ensures.some.1
