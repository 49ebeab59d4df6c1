use Rattle.std.proofs.Common.{◌≡◌, ◌++◌, take}
use Rattle.std.specs.List.{flat_map}
use Rattle.change_report.specs.Changes.{gone_user}
use Rattle.change_report.proofs.names.push_gone_users.Given as goal

abbrev pub invariant-loop-user : goal.invariant-loop-user
invariant-loop-user l = l.found.items ≡ l.fn.found.items ++ flat_map (gone_user l.new) (take l.user-index l.users)
