use Rattle.std.proofs.Common.{◌≡◌, drop}
use Rattle.machine_parts.specs.Names.{name_in}
use Rattle.machine_parts.proofs.known.Known.user.Given as goal

abbrev pub invariant-loop-user : goal.invariant-loop-user
invariant-loop-user l = name_in (drop l.user-index l.self.users.items) l.number ≡ name_in l.self.users.items l.number
