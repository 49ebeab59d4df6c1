use Rattle.std.proofs.Common.{◌≡◌, drop}
use Rattle.change_report.specs.Changes.{user_named}
use Rattle.change_report.proofs.users.user_named.Given as goal

abbrev pub invariant-loop-user : goal.invariant-loop-user
invariant-loop-user l = user_named l.users l.name ≡ user_named (drop l.user-index l.users) l.name
