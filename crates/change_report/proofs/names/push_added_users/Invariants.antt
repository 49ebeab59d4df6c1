use Rattle.std.proofs.Common.{◌≡◌, ◌++◌, take}
use Rattle.std.specs.List.{flat_map}
use Rattle.change_report.specs.Changes.{added_user}
use Rattle.change_report.proofs.names.push_added_users.Given as goal

abbrev pub invariant-loop-user : goal.invariant-loop-user
invariant-loop-user l = l.found.items ≡ l.fn.found.items ++ flat_map (added_user l.old) (take l.user-index l.users)
