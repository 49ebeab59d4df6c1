use Rattle.std.proofs.Common.{◌≡◌, ◌++◌, take}
use Rattle.std.specs.List.{flat_map}
use Rattle.change_report.specs.Changes.{stated_user_limits}
use Rattle.change_report.proofs.limits.push_users.Given as goal

abbrev pub invariant-loop-user : goal.invariant-loop-user
invariant-loop-user l = l.found.items ≡ l.fn.found.items ++ flat_map (stated_user_limits l.old) (take l.user-index l.new)
