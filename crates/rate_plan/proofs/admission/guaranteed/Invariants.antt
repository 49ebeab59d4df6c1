use Rattle.std.proofs.Common.{◌≡◌, ◌≤◌, ◌*◌, map, take}
use Rattle.line_rates.specs.TickTree.{ask_in}
use Rattle.rate_plan.specs.Admission.{guaranteed}
use Rattle.rate_plan.proofs.admission.guaranteed.Given as goal

abbrev pub invariant-loop-place : goal.invariant-loop-place
invariant-loop-place g l = record {
  sum : l.sum ≡ guaranteed l.limits l.name (map ask_in (take l.place l.asks));
  most : l.sum ≤ l.place * 2199023255552;
}
