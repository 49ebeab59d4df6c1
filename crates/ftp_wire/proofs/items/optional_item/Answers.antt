use Rattle.std.proofs.Common.{ap, Ok, Some}
use Rattle.std.specs.Prelude.{string_bytes}
use Rattle.ftp_wire.specs.Items.{Item}
use Rattle.ftp_wire.proofs.Forms.{optional_made}
use Rattle.ftp_wire.proofs.items.optional_item.Goals as goal

pub returns : goal.returns
returns g c =
    record { item = ap {B = Item} Ok (optional_made string_bytes c.args.verb (Some c.in_ok-text.text) c.optional_command.result (Some c.args.text.now) c.optional_command.ensures.command (ap Some c.in_ok-text.ensures.ok)) }
