use Rattle.std.proofs.Common.{◌≡◌, ◌+◌, ◌-◌, ◌≤◌, drop, length, sum}
use Rattle.limit_tree.specs.Outline.{places, absorbed}
use Rattle.limit_tree.proofs.Leaves.{wants_in}
use Rattle.limit_tree.proofs.Places.{places_of_all}
use Rattle.limit_tree.proofs.absorb.+absorb_in.Given as goal

abbrev pub invariant-loop-kid : goal.invariant-loop-kid
invariant-loop-kid g l = record {
  past : l.passed ≤ l.number;
  nodes : length (places l.node) ≡ l.passed + length (places_of_all (drop l.kid-index l.kid-items));
  wants : sum (wants_in (places_of_all (drop l.kid-index l.kid-items))) ≤ sum (wants_in (places l.node));
  value : absorbed l.level (places l.node) l.number ≡ absorbed l.level (places_of_all (drop l.kid-index l.kid-items)) (l.number - l.passed);
}
