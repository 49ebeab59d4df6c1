use Rattle.std.proofs.Common.{◌∙◌, ap, List}
use Rattle.std.proofs.lemmas.List.{take_all}
use Rattle.std.proofs.lemmas.Result.{err_from_is_err_and}
use Rattle.config_file.specs.declared.stated.UserTable.{UserTable}
use Rattle.server_config.specs.Groups.{HasGroup}
use Rattle.server_config.specs.RateRows.{user_row, user_rows}
use Rattle.server_config.proofs.Numbering.{numbered-next, all-next, all-whole}
use Rattle.server_config.proofs.GroupsRefused.{refused_user}
use Rattle.server_config.proofs.rate_rows.read_users.Goals as goal

pub loop-index-preserved : goal.loop-index-preserved
loop-index-preserved c = λ groups are.
    let user = c.index-users-index.result in
    let before = c.loop-index.invariant groups are in (
      numbered-next (user_row groups) c.args.users.now c.loop-index.index user c.loop-index.rows.items c.push.new.self.items c.in_ok-row.row
          c.loop-index-test.true c.index-users-index.is before.0 (c.in_ok-row.ensures.row groups are) c.in_ok-push.ensures.items,
      all-next (λ (u : UserTable). HasGroup groups u.group) c.args.users.now c.loop-index.index user
          c.loop-index-test.true c.index-users-index.is before.1 (c.in_ok-row.ensures.has groups are),
    )

pub returns-clause-grouped : goal.returns-clause-grouped
returns-clause-grouped c = λ groups are.
    all-whole (λ (u : UserTable). HasGroup groups u.group) c.args.users.now c.loop-index.index c.loop-index-test.false (c.loop-index.invariant groups are).1

pub returns-clause-rows : goal.returns-clause-rows
returns-clause-rows c = λ groups are.
    (c.loop-index.invariant groups are).0 ∙ ap (λ (us : List UserTable). user_rows groups us) (take_all c.loop-index.index c.args.users.now c.loop-index-test.false)

pub returns-in_err-row-clause-refused : goal.returns-in_err-row-clause-refused
returns-in_err-row-clause-refused c = λ groups are apart.
    let failed = err_from_is_err_and c.from_residual.result c.from_residual.ensures.1 in
    rw (failed.1, failed.2) (refused_user groups c.args.users.now c.loop-index.index c.index-users-index.result c.in_err-row.field-0.0
    c.loop-index-test.true c.index-users-index.is apart (c.loop-index.invariant groups are).1 (c.in_err-row.ensures.refused groups are))
