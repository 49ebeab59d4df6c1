use Rattle.std.proofs.Common.{drop, map}
use Rattle.serde_json.specs.View.{view}
use Rattle.server_status.specs.Fits.{AllHave, IsFirstFaultIn, rows_of}
use Rattle.server_status.specs.declared.fault.StatusFault.{StatusFault}
use Rattle.server_status.proofs.judging.judge_records.Given as goal

abbrev pub invariant-loop-value : goal.invariant-loop-value
invariant-loop-value l = record {
  later : (fault : StatusFault) → IsFirstFaultIn (rows_of l.members) (map view (drop l.value-index l.values)) fault → IsFirstFaultIn (rows_of l.members) (map view l.values) fault;
  have : AllHave (rows_of l.members) (map view (drop l.value-index l.values)) → AllHave (rows_of l.members) (map view l.values);
}
