use Rattle.std.proofs.Common.{◌≡◌, drop}
use Rattle.change_report.specs.Changes.{group_named}
use Rattle.change_report.proofs.users.group_named.Given as goal

abbrev pub invariant-loop-group : goal.invariant-loop-group
invariant-loop-group l = group_named l.groups l.name ≡ group_named (drop l.group-index l.groups) l.name
