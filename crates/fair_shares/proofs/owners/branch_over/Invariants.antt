use Rattle.std.proofs.Common.{◌<◌, ◌≤◌, ℕ}
use Rattle.user_shares.specs.InRow.{IsNext}
use Rattle.fair_shares.proofs.owners.branch_over.Given as goal

abbrev pub invariant-loop-node : goal.invariant-loop-node
invariant-loop-node g l = (k : ℕ) → l.from ≤ k → k < l.node → IsNext l.flat k l.first l.leaves → ⊥
