use Rattle.std.proofs.Common.{◌≡◌, ◌+◌, ◌++◌, drop, take, length}
use Rattle.limit_tree.specs.Outline.{places, leaf_count, leaf_want, leaf_floor}
use Rattle.limit_tree.proofs.Places.{places_of_all}
use Rattle.limit_tree.proofs.Reported.{reported}
use Rattle.limit_tree.proofs.tables.+leaves_into.Given as goal

abbrev pub invariant-loop-kid : goal.invariant-loop-kid
invariant-loop-kid g l = record {
  next : l.next + leaf_count (places_of_all (drop l.kid-index l.kid-items)) ≡ l.fn.first + leaf_count (places l.node);
  size : length l.wants ≡ length l.initial.wants;
  floors_size : length l.floors ≡ length l.initial.floors;
  wants : take l.next l.wants ++ reported leaf_want (places_of_all (drop l.kid-index l.kid-items)) ≡ take l.fn.first l.initial.wants ++ reported leaf_want (places l.node);
  floors : take l.next l.floors ++ reported leaf_floor (places_of_all (drop l.kid-index l.kid-items)) ≡ take l.fn.first l.initial.floors ++ reported leaf_floor (places l.node);
}
