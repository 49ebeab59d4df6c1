use Rattle.std.proofs.Common.{◌≡◌, ◌+◌, ◌<◌, ◌++◌, ◌∷◌, [], drop, length, map}
use Rattle.limit_tree.specs.Outline.{places, kids_of, floor_sum, moved, leaf_want, leaf_floor}
use Rattle.limit_tree.specs.declared.copy.TheConstants.{UNSEEN}
use Rattle.limit_tree.proofs.Places.{places_of_all}
use Rattle.limit_tree.proofs.Reported.{reported}
use Rattle.limit_tree.proofs.copy.+copy_tree.Given as goal

abbrev pub invariant-loop-kid : goal.invariant-loop-kid
invariant-loop-kid g l = record {
  nodes : length (places_of_all (drop l.kid-index l.kid-items)) < length (places l.node);
  sum : l.sum + floor_sum (places_of_all (drop l.kid-index l.kid-items)) ≡ floor_sum (places l.node);
  places_are : l.copy.places.items ++ map (moved (l.depth + 1) (length l.copy.wants.items)) (places_of_all (drop l.kid-index l.kid-items)) ≡ l.fn.copy.places.items ++ UNSEEN ∷ [] ++ map (moved (l.depth + 1) (length l.fn.copy.wants.items)) (places_of_all (kids_of l.node));
  wants_are : l.copy.wants.items ++ reported leaf_want (places_of_all (drop l.kid-index l.kid-items)) ≡ l.fn.copy.wants.items ++ reported leaf_want (places l.node);
  floors_are : l.copy.floors.items ++ reported leaf_floor (places_of_all (drop l.kid-index l.kid-items)) ≡ l.fn.copy.floors.items ++ reported leaf_floor (places l.node);
}
