use Rattle.std.proofs.Common.{◌≡◌, take}
use Rattle.round_pace.specs.OwnParts.{most_to}
use Rattle.paced_rounds.specs.History.{leaves}
use Rattle.paced_rounds.proofs.charge.most_to.Given as goal

abbrev pub invariant-loop-i : goal.invariant-loop-i
invariant-loop-i l = l.most ≡ most_to l.way l.user (leaves l.asks l.grants) (leaves (take l.i l.asks) (take l.i l.grants))
