use Rattle.std.proofs.lemmas.Result.{err_from_is_err_and}
use Rattle.machine_parts.proofs.starting.prepare.Goals as goal

pub returns-in_err-check_folder-clause-its : goal.returns-in_err-check_folder-clause-its
returns-in_err-check_folder-clause-its g c =
    let failed = err_from_is_err_and c.from_residual-in_err-check_folder.result c.from_residual-in_err-check_folder.ensures.1 in
    rw (failed.1, failed.2) c.in_err-check_folder.ensures.its

pub returns-in_err-log-clause-its : goal.returns-in_err-log-clause-its
returns-in_err-log-clause-its g c =
    let failed = err_from_is_err_and c.from_residual-in_err-log.result c.from_residual-in_err-log.ensures.1 in
    rw (failed.1, failed.2) (c.in_err-log.ensures.its c.log_at.ensures.its)
