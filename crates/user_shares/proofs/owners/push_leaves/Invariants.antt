use Rattle.user_shares.specs.InRow.{IsGrown}
use Rattle.user_shares.proofs.owners.push_leaves.Given as goal

abbrev pub invariant-loop-leaf : goal.invariant-loop-leaf
invariant-loop-leaf g l = IsGrown l.fn.owners.items l.user l._leaf l.owners.items
