use Rattle.std.proofs.Common.{◌≡◌, map, take}
use Rattle.rate_floors.specs.Promises.{no_session}
use Rattle.rate_floors.proofs.floors.no_sessions.Given as goal

abbrev pub invariant-loop-row : goal.invariant-loop-row
invariant-loop-row g l = l.users.items ≡ map no_session (take l.row-index l.rows)
