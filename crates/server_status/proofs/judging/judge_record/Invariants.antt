use Rattle.std.proofs.Common.{drop}
use Rattle.serde_json.specs.View.{view}
use Rattle.server_status.specs.Fits.{HasAll, IsFirstFault, rows_of}
use Rattle.server_status.specs.declared.fault.StatusFault.{StatusFault}
use Rattle.server_status.proofs.judging.judge_record.Given as goal

abbrev pub invariant-loop-member : goal.invariant-loop-member
invariant-loop-member l = record {
  later : (fault : StatusFault) → IsFirstFault (rows_of (drop l.member-index l.members)) (view l.value) fault → IsFirstFault (rows_of l.members) (view l.value) fault;
  has : HasAll (rows_of (drop l.member-index l.members)) (view l.value) → HasAll (rows_of l.members) (view l.value);
}
