use Rattle.std.proofs.Common.{◌≡◌, ◌-◌, ◌^◌, min, take}
use Rattle.std.specs.Prelude.{sum_by}
use Rattle.status_keeper.proofs.making.granted_in.Given as goal

abbrev pub invariant-loop-row : goal.invariant-loop-row
invariant-loop-row l = min (sum_by (λ row. row.granted) (take l.row-index l.rows)) (2 ^ 64 - 1) ≡ l.granted
