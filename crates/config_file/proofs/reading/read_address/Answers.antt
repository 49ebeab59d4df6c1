use Rattle.std.proofs.Common.{refl}
use Rattle.toml.specs.View.{view}
use Rattle.config_file.proofs.KnownKeys.{is_string}
use Rattle.config_file.proofs.reading.read_address.Goals as goal

pub returns-in-Err : goal.returns-in-Err
returns-in-Err c =
    let text = is_string (view c.args.value.now) c.in-Some.text.now c.in-Some.ensures in
    record { address = rw text (refl, c.in-Err.ensures.value) }
