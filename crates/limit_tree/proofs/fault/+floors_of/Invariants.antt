use Rattle.std.proofs.Common.{◌≡◌, ◌+◌, drop, length}
use Rattle.limit_tree.specs.Outline.{places, floor_sum}
use Rattle.limit_tree.specs.Faults.{first_over, or_else}
use Rattle.limit_tree.proofs.Places.{places_of_all}
use Rattle.limit_tree.proofs.fault.+floors_of.Given as goal

abbrev pub invariant-loop-kid : goal.invariant-loop-kid
invariant-loop-kid g l = record {
  nodes : length (places l.node) ≡ l.below.nodes + length (places_of_all (drop l.kid-index l.kid-items));
  sum : floor_sum (places l.node) ≡ l.below.sum + floor_sum (places_of_all (drop l.kid-index l.kid-items));
  over : first_over (l.number + 1) (places_of_all l.kid-items) ≡ or_else l.below.over (first_over (l.number + l.below.nodes) (places_of_all (drop l.kid-index l.kid-items)));
}
