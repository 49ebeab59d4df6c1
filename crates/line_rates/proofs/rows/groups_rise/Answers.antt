use Rattle.std.proofs.Common.{arith}
use Rattle.line_rates.specs.Stated.{group_number}
use Rattle.line_rates.proofs.RowLemmas.{tie_at}
use Rattle.line_rates.proofs.rows.groups_rise.Goals as goal

pub returns-then-groups-place : goal.returns-then-groups-place
returns-then-groups-place c = record { rise = tie_at group_number c.args.groups.now c.loop-place.place _ (omega arith) (omega arith) c.if-groups-place.true }
