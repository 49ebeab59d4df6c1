use Rattle.std.proofs.Common.{◌≡◌, drop}
use Rattle.paced_rounds.specs.Beating.{settle_all}
use Rattle.paced_rounds.proofs.beats.settle.Given as goal

abbrev pub invariant-loop-i : goal.invariant-loop-i
invariant-loop-i g l = settle_all l.pace l.tick (drop l.i l.asks) l.cadence ≡ settle_all l.pace l.tick l.asks l.initial.cadence
