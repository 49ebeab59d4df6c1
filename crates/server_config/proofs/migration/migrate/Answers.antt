use Rattle.std.proofs.Common.{inl}
use Rattle.std.proofs.lemmas.Result.{err_from_is_err_and}
use Rattle.toml.specs.View.{table_view}
use Rattle.server_config.proofs.Kept.{migrated, unmigrated}
use Rattle.server_config.proofs.Refusing.{document_refused}
use Rattle.server_config.proofs.migration.migrate.Goals as goal

pub returns-clause-migrated : goal.returns-clause-migrated
returns-clause-migrated c =
    migrated c.args.octets.now (table_view c.in_ok-document.document) (table_view c.set_version.new.document) c.in_ok-_config._config c.print.result
    c.in_ok-document.ensures.document c.in_ok-set_version.ensures.version c.in_ok-_config.ensures.config c.print.ensures.printed c.print.ensures.reads_back c.print.ensures.short

pub returns-clause-refused : goal.returns-clause-refused
returns-clause-refused c =
    unmigrated c.args.octets.now (table_view c.in_ok-document.document) (table_view c.set_version.new.document) c.print.result
    c.in_ok-document.ensures.document c.in_ok-set_version.ensures.version c.print.ensures.refused

pub returns-in_err-_config-clause-refused : goal.returns-in_err-_config-clause-refused
returns-in_err-_config-clause-refused c =
    let failed = err_from_is_err_and c.from_residual-in_err-_config.result c.from_residual-in_err-_config.ensures.1 in
    rw (failed.1, failed.2) (inl (document_refused c.args.octets.now (table_view c.in_ok-document.document) c.in_err-_config.field-0.0 c.in_ok-document.ensures.document c.in_err-_config.ensures.refused))
