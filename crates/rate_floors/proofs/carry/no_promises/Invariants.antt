use Rattle.std.proofs.Common.{◌≡◌, map, take}
use Rattle.rate_floors.specs.Promises.{no_promise}
use Rattle.rate_floors.proofs.carry.no_promises.Given as goal

abbrev pub invariant-loop-row : goal.invariant-loop-row
invariant-loop-row g l = l.groups.items ≡ map no_promise (take l.row-index l.rows)
