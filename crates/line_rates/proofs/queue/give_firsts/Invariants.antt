use Rattle.std.proofs.Common.{◌≡◌, map}
use Rattle.std.specs.List.{All, AllAdjacentBelow}
use Rattle.line_rates.specs.Queue.{asker_of, name_of, numbered_of, IsOwnFirst}
use Rattle.line_rates.proofs.OrderLemmas.{IsOwnBelow}
use Rattle.line_rates.proofs.queue.give_firsts.Given as goal

abbrev pub invariant-loop-place : goal.invariant-loop-place
invariant-loop-place l = record {
  askers : map asker_of l.queue ≡ map asker_of l.fn.queue;
  names : map name_of l.queue ≡ map name_of l.fn.queue;
  numbered : AllAdjacentBelow (λ x y. x.name ≡ y.name → x.first ≡ y.first) l.queue l.place;
  numbers : map numbered_of l.queue ≡ map numbered_of l.fn.queue;
  own : All IsOwnFirst l.fn.queue → IsOwnBelow l.queue l.place;
}
