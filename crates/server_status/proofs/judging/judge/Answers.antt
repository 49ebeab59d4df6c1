use Rattle.std.proofs.lemmas.Result.{err_from_is_err_and}
use Rattle.serde_json.specs.View.{view}
use Rattle.server_status.proofs.Faults.{all_fine, list_fault, member_fault}
use Rattle.server_status.proofs.judging.judge.Goals as goal

pub returns-in_err-judge_record-clause-fault : goal.returns-in_err-judge_record-clause-fault
returns-in_err-judge_record-clause-fault c =
    let failed = err_from_is_err_and c.from_residual-in_err-judge_record.result c.from_residual-in_err-judge_record.ensures.1 in
    rw (failed.1, failed.2) (member_fault (view c.args.value.now) c.in_err-judge_record.field-0.0 c.in_ok-judge_version.ensures.version c.in_err-judge_record.ensures.fault)

pub returns-clause-fine : goal.returns-clause-fine
returns-clause-fine c =
    all_fine (view c.args.value.now) c.judge_lists.result c.in_ok-judge_version.ensures.version c.in_ok-judge_record.ensures.has c.judge_lists.ensures.groups c.judge_lists.ensures.transfers
    c.judge_lists.ensures.sessions c.judge_lists.ensures.accounts

pub returns-clause-fault : goal.returns-clause-fault
returns-clause-fault c =
    list_fault (view c.args.value.now) c.judge_lists.result c.in_ok-judge_version.ensures.version c.in_ok-judge_record.ensures.has c.judge_lists.ensures.fault
