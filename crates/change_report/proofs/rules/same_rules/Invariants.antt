use Rattle.std.proofs.Common.{◌≡◌, drop}
use Rattle.change_report.specs.Changes.{same_rules}
use Rattle.change_report.proofs.rules.same_rules.Given as goal

abbrev pub invariant-loop-index : goal.invariant-loop-index
invariant-loop-index l = same_rules l.old l.new ≡ same_rules (drop l.index l.old) (drop l.index l.new)
