use Rattle.std.proofs.Common.{pos}
use Rattle.toml.proofs.Views.{view-Integer}
use Rattle.toml.specs.declared.value.Value.{Integer}
use Rattle.server_config.proofs.Versions.{versioned}
use Rattle.server_config.proofs.migration.set_version.Goals as goal

pub returns : goal.returns
returns c = record {
  version = versioned c.args.document.now c.insert.new.self c.in_ok-key.key (Integer (pos 2)) c.in_ok-key.ensures.ok (view-Integer (pos 2)) c.in_ok-insert.ensures.updates;
}
