use Rattle.std.proofs.Common.{◌≡◌, drop}
use Rattle.paced_rounds.specs.Turning.{had_all}
use Rattle.paced_rounds.proofs.turns.add_all.Given as goal

abbrev pub invariant-loop-i : goal.invariant-loop-i
invariant-loop-i l =
    had_all (drop l.i l.lanes) (drop l.i l.grants) l.had ≡ had_all l.lanes l.grants l.initial.had
