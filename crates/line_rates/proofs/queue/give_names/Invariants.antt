use Rattle.std.proofs.Common.{◌≡◌, take, map}
use Rattle.std.specs.List.{All}
use Rattle.line_rates.specs.Queue.{asker_of, numbered_of, AreNamedAt, IsOwnFirst}
use Rattle.line_rates.proofs.queue.give_names.Given as goal

abbrev pub invariant-loop-place : goal.invariant-loop-place
invariant-loop-place g l = record {
  same : map asker_of l.queue ≡ map asker_of l.fn.queue;
  named : AreNamedAt l.limits l.level (take l.place l.queue);
  numbers : map numbered_of l.queue ≡ map numbered_of l.fn.queue;
  own : All IsOwnFirst (take l.place l.queue);
}
