use Rattle.toml.specs.View.{table_view}
use Rattle.server_config.proofs.Making.{config_made}
use Rattle.server_config.proofs.Refusing.{tables_refused}
use Rattle.server_config.proofs.config.config_of.Goals as goal

pub returns-in-Ok : goal.returns-in-Ok
returns-in-Ok c = record {
  config = config_made (table_view c.args.document.now) c.in-Ok.tables c.made_of.result c.in-Ok.ensures.tables c.made_of.ensures.made;
  refused = tables_refused (table_view c.args.document.now) c.in-Ok.tables c.made_of.result c.in-Ok.ensures.tables c.made_of.ensures.refused;
  line = c.made_of.ensures.line;
}
