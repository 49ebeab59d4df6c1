use Rattle.std.proofs.Common.{◌≡◌, ◌≤◌, ◌+◌, take}
use Rattle.plan_report.specs.PlanData.{number_after}
use Rattle.plan_report.proofs.values.number_after.Given as goal

abbrev pub invariant-loop-share : goal.invariant-loop-share
invariant-loop-share l = record {
  number : l.number ≡ number_after (take l.share-index l.before) l.ask;
  few : l.number ≤ l.share-index + 1;
}
