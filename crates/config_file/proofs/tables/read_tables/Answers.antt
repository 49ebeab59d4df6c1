use Rattle.std.proofs.Common.{◌∙◌, ap, length}
use Rattle.std.proofs.lemmas.Result.{err_from_is_err_and}
use Rattle.toml.specs.View.{table_view}
use Rattle.config_file.proofs.Pairs.{same_length}
use Rattle.config_file.proofs.Refusals.{server_refused, groups_refused, users_refused, overrides_refused, dirs_refused, files_refused}
use Rattle.config_file.proofs.tables.read_tables.Goals as goal

pub returns-in_err-server-clause-refused : goal.returns-in_err-server-clause-refused
returns-in_err-server-clause-refused c =
    let failed = err_from_is_err_and c.from_residual-in_err-server.result c.from_residual-in_err-server.ensures.1 in
    rw (failed.1, failed.2) (server_refused c.is_grouped-grouped.result (table_view c.args.document.now) c.in_ok-top.top c.in_err-server.field-0.0 c.is_grouped-grouped.ensures.grouped c.in_ok-top.ensures.table
    c.in_err-server.ensures.refused)

pub returns-in_err-groups-clause-refused : goal.returns-in_err-groups-clause-refused
returns-in_err-groups-clause-refused c =
    let failed = err_from_is_err_and c.from_residual-in_err-groups.result c.from_residual-in_err-groups.ensures.1 in
    rw (failed.1, failed.2) (groups_refused c.is_grouped-grouped.result (table_view c.args.document.now) c.in_ok-top.top c.in_err-groups.field-0.0 c.is_grouped-grouped.ensures.grouped c.in_ok-top.ensures.table c.in_ok-server.server c.in_ok-server.ensures.table
    c.in_err-groups.ensures.refused)

pub returns-in_err-users-clause-refused : goal.returns-in_err-users-clause-refused
returns-in_err-users-clause-refused c =
    let failed = err_from_is_err_and c.from_residual-in_err-users.result c.from_residual-in_err-users.ensures.1 in
    rw (failed.1, failed.2) (users_refused c.is_grouped-grouped.result (table_view c.args.document.now) c.in_ok-top.top c.in_err-users.field-0.0 c.is_grouped-grouped.ensures.grouped c.in_ok-top.ensures.table c.in_ok-server.server c.in_ok-server.ensures.table c.in_ok-groups.groups.items c.in_ok-groups.ensures.rows
    c.in_err-users.ensures.refused)

pub returns-in_err-overrides-clause-refused : goal.returns-in_err-overrides-clause-refused
returns-in_err-overrides-clause-refused c =
    let failed = err_from_is_err_and c.from_residual-in_err-overrides.result c.from_residual-in_err-overrides.ensures.1 in
    rw (failed.1, failed.2) (overrides_refused c.is_grouped-grouped.result (table_view c.args.document.now) c.in_ok-top.top c.in_err-overrides.field-0.0 c.is_grouped-grouped.ensures.grouped c.in_ok-top.ensures.table c.in_ok-server.server c.in_ok-server.ensures.table c.in_ok-groups.groups.items c.in_ok-groups.ensures.rows c.in_ok-users.users.items c.in_ok-users.ensures.rows c.as_slice.result.now c.as_slice.ensures.value
    c.in_err-overrides.ensures.refused)

pub returns-in_err-dirs-clause-refused : goal.returns-in_err-dirs-clause-refused
returns-in_err-dirs-clause-refused c =
    let failed = err_from_is_err_and c.from_residual-in_err-dirs.result c.from_residual-in_err-dirs.ensures.1 in
    rw (failed.1, failed.2) (dirs_refused c.is_grouped-grouped.result (table_view c.args.document.now) c.in_ok-top.top c.in_err-dirs.field-0.0 c.is_grouped-grouped.ensures.grouped c.in_ok-top.ensures.table c.in_ok-server.server c.in_ok-server.ensures.table c.in_ok-groups.groups.items c.in_ok-groups.ensures.rows c.in_ok-users.users.items c.in_ok-users.ensures.rows c.as_slice.result.now c.as_slice.ensures.value c.in_ok-overrides.overrides.items c.in_ok-overrides.ensures.overrides
    c.in_err-dirs.ensures.refused)

pub returns-in_err-files-clause-refused : goal.returns-in_err-files-clause-refused
returns-in_err-files-clause-refused c =
    let failed = err_from_is_err_and c.from_residual-in_err-files.result c.from_residual-in_err-files.ensures.1 in
    rw (failed.1, failed.2) (files_refused c.is_grouped-grouped.result (table_view c.args.document.now) c.in_ok-top.top c.in_err-files.field-0.0 c.is_grouped-grouped.ensures.grouped c.in_ok-top.ensures.table c.in_ok-server.server c.in_ok-server.ensures.table c.in_ok-groups.groups.items c.in_ok-groups.ensures.rows c.in_ok-users.users.items c.in_ok-users.ensures.rows c.as_slice.result.now c.as_slice.ensures.value c.in_ok-overrides.overrides.items c.in_ok-overrides.ensures.overrides c.in_ok-dirs.dirs.items c.in_ok-dirs.ensures.rows
    c.in_err-files.ensures.refused)

pub returns-clause-paired : goal.returns-clause-paired
returns-clause-paired c =
    same_length c.as_slice.result.now c.in_ok-overrides.overrides.items c.in_ok-overrides.ensures.overrides ∙ ap length c.as_slice.ensures.value
