use Rattle.std.proofs.Common.{◌≡◌, take}
use Rattle.plan_report.specs.PlanData.{total}
use Rattle.plan_report.proofs.parts.total_of.Given as goal

abbrev pub invariant-loop-share : goal.invariant-loop-share
invariant-loop-share l = l.total ≡ total l.way (take l.share-index l.shares)
