use Rattle.std.proofs.Common.{◌≡◌, ◌+◌, ◌≤◌, drop, sum, sum_by}
use Rattle.limit_tree.specs.Outline.{places}
use Rattle.limit_tree.proofs.Leaves.{wants_in}
use Rattle.limit_tree.proofs.Places.{places_of_all}
use Rattle.limit_tree.proofs.Absorbs.{absorb_of}
use Rattle.limit_tree.proofs.absorb.+absorb_tree.Given as goal

abbrev pub invariant-loop-kid : goal.invariant-loop-kid
invariant-loop-kid g l = record {
  value : l.total + sum_by (absorb_of l.level) (drop l.kid-index l.kid-items) ≡ sum_by (absorb_of l.level) l.kid-items;
  most : l.total + sum (wants_in (places_of_all (drop l.kid-index l.kid-items))) ≤ sum (wants_in (places l.node));
}
