use Rattle.std.proofs.Common.{◌≡◌, drop}
use Rattle.paced_rounds.specs.History.{leaves}
use Rattle.paced_rounds.specs.Beating.{add_all}
use Rattle.paced_rounds.proofs.beats.add.Given as goal

abbrev pub invariant-loop-i : goal.invariant-loop-i
invariant-loop-i g l =
    add_all l.pace l.asks (leaves (drop l.i l.asks) (drop l.i l.grants)) l.cadence ≡ add_all l.pace l.asks (leaves l.asks l.grants) l.initial.cadence
