use Rattle.std.proofs.Common.{◌≡◌, ◌++◌, take}
use Rattle.std.specs.List.{flat_map}
use Rattle.change_report.specs.Changes.{stated_group_limits}
use Rattle.change_report.proofs.limits.push_groups.Given as goal

abbrev pub invariant-loop-group : goal.invariant-loop-group
invariant-loop-group l = l.found.items ≡ l.fn.found.items ++ flat_map (stated_group_limits l.old) (take l.group-index l.new)
