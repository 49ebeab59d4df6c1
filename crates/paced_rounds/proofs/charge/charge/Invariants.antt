use Rattle.std.proofs.Common.{◌≡◌, ◌++◌, take, drop, map}
use Rattle.round_pace.specs.Histories.{take_more, take_all}
use Rattle.paced_rounds.specs.History.{granted_in, leaves}
use Rattle.paced_rounds.proofs.charge.charge.Given as goal

abbrev pub invariant-loop-i : goal.invariant-loop-i
invariant-loop-i g l =
    (take_more (leaves (take l.i l.asks) (take l.i l.grants)) (leaves (drop l.i l.asks) (drop l.i l.grants)) l.pace ≡ take_all (leaves l.asks l.grants) l.initial.pace)
    × (map granted_in l.taken.items ++ leaves (drop l.i l.asks) (drop l.i l.grants) ≡ leaves l.asks l.grants)
