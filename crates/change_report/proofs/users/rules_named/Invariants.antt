use Rattle.std.proofs.Common.{◌≡◌, drop}
use Rattle.change_report.specs.Changes.{rules_named}
use Rattle.change_report.proofs.users.rules_named.Given as goal

abbrev pub invariant-loop-index : goal.invariant-loop-index
invariant-loop-index l = rules_named l.users l.overrides l.name ≡ rules_named (drop l.index l.users) (drop l.index l.overrides) l.name
