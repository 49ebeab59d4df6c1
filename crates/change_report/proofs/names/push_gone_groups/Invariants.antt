use Rattle.std.proofs.Common.{◌≡◌, ◌++◌, take}
use Rattle.std.specs.List.{flat_map}
use Rattle.change_report.specs.Changes.{gone_group}
use Rattle.change_report.proofs.names.push_gone_groups.Given as goal

abbrev pub invariant-loop-group : goal.invariant-loop-group
invariant-loop-group l = l.found.items ≡ l.fn.found.items ++ flat_map (gone_group l.new) (take l.group-index l.groups)
