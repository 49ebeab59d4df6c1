use Rattle.std.proofs.Common.{ℕ, ◌<◌, ◌≤◌, get_or}
use Rattle.grant_certificate.proofs.over.first_above.Given as goal

abbrev pub invariant-loop-leaf : goal.invariant-loop-leaf
invariant-loop-leaf l = (j : ℕ) → j < l.leaf → get_or l.numbers j 0 ≤ get_or l.bounds j 0
