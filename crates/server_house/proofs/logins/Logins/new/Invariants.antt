use Rattle.std.proofs.Common.{◌≡◌, replicate, None}
use Rattle.server_house.proofs.logins.Logins.new.Given as goal

abbrev pub invariant-loop-i : goal.invariant-loop-i
invariant-loop-i l = l.users.items ≡ replicate l.i None
