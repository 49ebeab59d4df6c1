use Rattle.std.proofs.Common.{◌≡◌, take, map}
use Rattle.std.specs.List.{All}
use Rattle.line_rates.specs.Alike.{IsNumberOf}
use Rattle.line_rates.specs.Queue.{asker_of, numbered_of}
use Rattle.line_rates.proofs.queue.queue_of.Given as goal

abbrev pub invariant-loop-number : goal.invariant-loop-number
invariant-loop-number g l = record {
  askers : map asker_of l.queue.items ≡ take l.number l.asks;
  numbers : All (IsNumberOf l.asks) (map numbered_of l.queue.items);
}
