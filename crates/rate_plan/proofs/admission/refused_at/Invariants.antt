use Rattle.std.proofs.Common.{◌≡◌, take, true}
use Rattle.rate_plan.specs.Admission.{are_admitted}
use Rattle.rate_plan.proofs.AdmitLemmas.{after_all}
use Rattle.rate_plan.proofs.admission.refused_at.Given as goal

abbrev pub invariant-loop-place : goal.invariant-loop-place
invariant-loop-place g l = record {
  admitted : are_admitted l.fn.floors (take l.place l.transfers) ≡ true;
  after : l.floors ≡ after_all l.fn.floors (take l.place l.transfers);
}
