use Rattle.std.proofs.Common.{◌≡◌, drop}
use Rattle.round_cadence.specs.Intervals.{first_earning, interval_of}
use Rattle.round_cadence.proofs.intervals.interval.Given as goal

abbrev pub invariant-loop-ticks : goal.invariant-loop-ticks
invariant-loop-ticks l = first_earning l.rate l.octets (drop l.ticks-index l.ticks-items) ≡ interval_of l.rate l.octets
