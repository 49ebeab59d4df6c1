use Rattle.std.proofs.Common.{refl}
use Rattle.limit_tree.proofs.Looks.{deepest-nothing}
use Rattle.limit_tree.proofs.look.FindFull.new.Goals as goal

pub returns-clause-start : goal.returns-clause-start
returns-clause-start c = record { leaf = refl; grants = refl; found = deepest-nothing c.args.grants.now c.args.leaf }
