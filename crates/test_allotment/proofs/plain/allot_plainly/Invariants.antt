use Rattle.std.proofs.Common.{◌-◌, ℕ, sum}
use Rattle.limit_tree.specs.Outline.{limits}
use Rattle.test_allotment.specs.Rule.{IsGiven}
use Rattle.test_allotment.proofs.Steps.{IsEven}
use Rattle.test_allotment.proofs.plain.allot_plainly.Given as goal

abbrev pub invariant-loop-leaf : goal.invariant-loop-leaf
invariant-loop-leaf g l = IsEven (limits l.tree) l.grants.items × (n : ℕ) × IsGiven (limits l.tree) n l.grants.items

abbrev pub decreases-loop-leaf : goal.decreases-loop-leaf
decreases-loop-leaf g l = sum (limits l.tree).wants - sum l.grants.items
