use Rattle.std.proofs.Common.{arith}
use Rattle.line_rates.specs.Stated.{user_number}
use Rattle.line_rates.proofs.RowLemmas.{tie_at}
use Rattle.line_rates.proofs.rows.users_rise.Goals as goal

pub returns-then-users-place : goal.returns-then-users-place
returns-then-users-place c = record { rise = tie_at user_number c.args.users.now c.loop-place.place _ (omega arith) (omega arith) c.if-users-place.true }
