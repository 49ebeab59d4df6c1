use Rattle.std.proofs.Common.{◌≡◌, ◌+◌, ◌≤◌, drop, length}
use Rattle.limit_tree.specs.Outline.{places, leaf_count}
use Rattle.limit_tree.specs.Faults.{first_fault}
use Rattle.limit_tree.specs.declared.bounds.TheConstants.{MAX_NODES, MAX_LEAVES}
use Rattle.limit_tree.proofs.Places.{places_of_all}
use Rattle.limit_tree.proofs.fault.+check_tree.Given as goal

abbrev pub invariant-loop-kid : goal.invariant-loop-kid
invariant-loop-kid g l = record {
  fault : first_fault l.depth l.fn.passed.nodes l.fn.passed.leaves (places l.node) ≡ first_fault (l.depth + 1) l.next.nodes l.next.leaves (places_of_all (drop l.kid-index l.kid-items));
  nodes : l.fn.passed.nodes + length (places l.node) ≡ l.next.nodes + length (places_of_all (drop l.kid-index l.kid-items));
  leaves : l.fn.passed.leaves + leaf_count (places l.node) ≡ l.next.leaves + leaf_count (places_of_all (drop l.kid-index l.kid-items));
  few_nodes : l.next.nodes ≤ MAX_NODES;
  few_leaves : l.next.leaves ≤ MAX_LEAVES;
}
