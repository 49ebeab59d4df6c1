use Rattle.std.proofs.Common.{◌≡◌, ◌≤◌, ◌-◌, List, IsPermutation, length, take, drop, map}
use Rattle.limit_tree.proofs.Places.{places_of_all}
use Rattle.line_rates.specs.declared.ask.Ask.{Ask}
use Rattle.line_rates.specs.Alike.{AreInOrder}
use Rattle.line_rates.specs.Queue.{asker_of, numbered_of, AreAmong}
use Rattle.line_rates.specs.TickTree.{ask_in}
use Rattle.line_rates.proofs.KidLemmas.{SoFar}
use Rattle.line_rates.proofs.trees.+grow.Given as goal

abbrev pub decreases-grow : goal.decreases-grow
decreases-grow g l = 6 - l.level

abbrev pub invariant-rows : goal.invariant-rows
invariant-rows g l = record {
  so_far : SoFar l.limits l.tick l.level (map asker_of l.fn.queue) (map asker_of (take l.start l.queue)) (map asker_of (drop l.start l.queue)) (places_of_all l.kids.items);
  size : length l.queue ≡ length l.fn.queue;
  start : l.start ≤ length l.queue;
  rest : drop l.start l.queue ≡ drop l.start l.fn.queue;
  numbers : IsPermutation (map numbered_of l.fn.queue) (map numbered_of l.queue);
  in_order : (asks : List Ask) → AreAmong l.limits asks (map ask_in (map asker_of l.fn.queue)) → AreInOrder l.limits asks (map numbered_of l.fn.queue) → AreInOrder l.limits asks (map numbered_of l.queue);
}

abbrev pub decreases-rows : goal.decreases-rows
decreases-rows g l = length l.queue - l.start
