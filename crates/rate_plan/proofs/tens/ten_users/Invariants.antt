use Rattle.std.proofs.Common.{◌≡◌, map, take}
use Rattle.rate_plan.specs.Tens.{ten_user}
use Rattle.rate_plan.proofs.tens.ten_users.Given as goal

abbrev pub invariant-loop-row : goal.invariant-loop-row
invariant-loop-row g l = l.tens.items ≡ map ten_user (take l.row-index l.rows)
