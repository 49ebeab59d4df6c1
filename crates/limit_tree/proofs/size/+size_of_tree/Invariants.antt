use Rattle.std.proofs.Common.{◌≡◌, ◌+◌, drop, length}
use Rattle.limit_tree.specs.Outline.{places, leaf_count, floor_sum}
use Rattle.limit_tree.proofs.Places.{places_of_all}
use Rattle.limit_tree.proofs.size.+size_of_tree.Given as goal

abbrev pub invariant-loop-kid : goal.invariant-loop-kid
invariant-loop-kid g l = record {
  nodes : length (places l.node) ≡ l.total.nodes + length (places_of_all (drop l.kid-index l.kid-items));
  leaves : leaf_count (places l.node) ≡ l.total.leaves + leaf_count (places_of_all (drop l.kid-index l.kid-items));
  floors : floor_sum (places l.node) ≡ l.total.floors + floor_sum (places_of_all (drop l.kid-index l.kid-items));
}
