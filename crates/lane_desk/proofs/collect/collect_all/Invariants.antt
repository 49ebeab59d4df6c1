use Rattle.std.proofs.Common.{◌≡◌, ◌≤◌, List, length, Option, false}
use Rattle.line_rates.specs.declared.ask.Ask.{Ask}
use Rattle.lane_desk.specs.Traces.{answering, traces, IsSameRound}
use Rattle.lane_desk.specs.Tried.{is_given, tried, asks_from, AreMarks, AreOfGiven}
use Rattle.lane_desk.proofs.collect.collect_all.Given as goal

abbrev pub invariant-loop-lane : goal.invariant-loop-lane
invariant-loop-lane g l =
    record {
      found : List (Option Ask);
      count : length found ≡ l.lane;
      same : IsSameRound l.fn.round l.round;
      quiet : answering l.round ≡ false;
      only : AreOfGiven (is_given l.fn.given) found;
      turned : traces l.round ≡ tried (is_given l.fn.given) found (traces l.fn.round);
      room : length l.asks.asks ≤ l.lane;
      asks_are : l.asks.asks ≡ asks_from 0 found;
      marks : AreMarks found l.asks.answered;
    }
