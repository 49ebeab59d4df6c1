use Rattle.std.proofs.Common.{◌≡◌, ◌+◌, ◌≤◌, ◌<◌, drop, length, map}
use Rattle.limit_tree.specs.Outline.{places, leaf_count, floor_sum, moved}
use Rattle.limit_tree.specs.Sizes.{IsSizeOf}
use Rattle.limit_tree.proofs.Places.{places_of_all}
use Rattle.limit_tree.proofs.Shown.{HasShown}
use Rattle.limit_tree.proofs.walk.+walk_tree.Given as goal

abbrev pub invariant-loop-kid : goal.invariant-loop-kid
invariant-loop-kid g l = record {
  some : l.fn.passed.nodes < l.next.nodes;
  nodes : l.fn.passed.nodes + length (places l.node) ≡ l.next.nodes + length (places_of_all (drop l.kid-index l.kid-items));
  leaves : l.fn.passed.leaves + leaf_count (places l.node) ≡ l.next.leaves + leaf_count (places_of_all (drop l.kid-index l.kid-items));
  floors : floor_sum (places_of_all (drop l.kid-index l.kid-items)) ≤ floor_sum (places l.node);
  left : l.left + l.kid-index ≡ length l.kid-items;
  rest : IsSizeOf l.rest (places_of_all (drop l.kid-index l.kid-items));
  same : g.V.Visitor.leaves l.visitor ≡ g.V.Visitor.leaves l.fn.visitor;
  saw : HasShown g.V.Visitor.Saw l.fn.passed.nodes l.fn.passed.leaves l.fn.visitor l.next.nodes l.next.leaves l.visitor (map (moved l.depth l.fn.passed.leaves) (places l.node)) (map (moved (l.depth + 1) l.next.leaves) (places_of_all (drop l.kid-index l.kid-items)));
}
