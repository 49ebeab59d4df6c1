use Rattle.std.proofs.Common.{◌≡◌, take}
use Rattle.std.specs.List.{count_by}
use Rattle.round_cadence.specs.Crowds.{is_beside}
use Rattle.round_cadence.proofs.crowd.count_beside.Given as goal

abbrev pub invariant-loop-other : goal.invariant-loop-other
invariant-loop-other l = l.count ≡ count_by (is_beside l.ask) (take l.other-index l.asks)
