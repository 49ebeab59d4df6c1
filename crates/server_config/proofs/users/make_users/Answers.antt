use Rattle.std.proofs.Common.{◌<◌, length, arith}
use Rattle.authorizer.specs.Numbers.{no_users}
use Rattle.std.proofs.lemmas.Result.{err_from_is_err_and}
use Rattle.server_config.proofs.UsersAdded.{group_at, users-next}
use Rattle.server_config.proofs.UsersRefused.{user_refused}
use Rattle.server_config.proofs.users.make_users.Goals as goal

pub loop-index-preserved : goal.loop-index-preserved
loop-index-preserved c = λ groups are.
    let user = c.index-users-index.result in
    let inside : c.loop-index.index < length c.args.overrides.now = omega (arith, c.loop-index-test.true, c.requires.overrides) in
    users-next groups c.args.users.now c.args.overrides.now c.loop-index.index user c.index-overrides-index.result c.as_slice-rules.result.now _
    no_users c.loop-index.authorizer c.add_user.new.users c.loop-index-test.true inside c.index-users-index.is c.index-overrides-index.is c.as_slice-rules.ensures.value
    (group_at groups c.args.users.now c.args.rows.now c.loop-index.index _ user are c.loop-index-test.true c.index-users-index.is)
    (c.loop-index.invariant groups are) c.in_ok-add_user.ensures.user

pub returns-in_err-add_user-clause-refused : goal.returns-in_err-add_user-clause-refused
returns-in_err-add_user-clause-refused c = λ groups are.
    let user = c.index-users-index.result in
    let inside : c.loop-index.index < length c.args.overrides.now = omega (arith, c.loop-index-test.true, c.requires.overrides) in
    let failed = err_from_is_err_and c.from_residual-in_err-add_user.result c.from_residual-in_err-add_user.ensures.1 in
    rw (failed.1, failed.2) (user_refused groups c.args.users.now c.args.overrides.now c.loop-index.index user c.index-overrides-index.result c.as_slice-rules.result.now _
    c.loop-index.authorizer c.in_err-add_user.field-0.0 c.loop-index-test.true inside c.index-users-index.is c.index-overrides-index.is c.as_slice-rules.ensures.value
    (group_at groups c.args.users.now c.args.rows.now c.loop-index.index _ user are c.loop-index-test.true c.index-users-index.is)
    (c.loop-index.invariant groups are) c.in_err-add_user.ensures.refused)
