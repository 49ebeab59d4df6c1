use Rattle.std.proofs.lemmas.Result.{err_from_is_err_and}
use Rattle.server_config.proofs.Lengths.{rows_long}
use Rattle.server_config.proofs.rate_rows.read_rows.Goals as goal

pub returns-in_err-numbers-clause-refused : goal.returns-in_err-numbers-clause-refused
returns-in_err-numbers-clause-refused c =
    let failed = err_from_is_err_and c.from_residual.result c.from_residual.ensures.1 in
    rw (failed.1, failed.2) (c.in_err-numbers.ensures.refused c.args.users.now)

pub returns-in_err-rows-clause-refused : goal.returns-in_err-rows-clause-refused
returns-in_err-rows-clause-refused c =
    let failed = err_from_is_err_and c.from_residual-in_err-rows.result c.from_residual-in_err-rows.ensures.1 in
    rw (failed.1, failed.2) (c.in_err-rows.ensures.refused c.args.users.now)

pub returns-clause-many : goal.returns-clause-many
returns-clause-many c =
    rows_long c.args.groups.now c.args.users.now c.in_ok-users.users.items (c.in_ok-users.ensures.rows c.args.groups.now c.in_ok-numbers.ensures.numbers)

pub returns-in_err-users-clause-refused : goal.returns-in_err-users-clause-refused
returns-in_err-users-clause-refused c =
    let failed = err_from_is_err_and c.from_residual-in_err-users.result c.from_residual-in_err-users.ensures.1 in
    rw (failed.1, failed.2) (c.in_err-users.ensures.refused c.args.groups.now c.in_ok-numbers.ensures.numbers c.in_ok-numbers.ensures.apart)
