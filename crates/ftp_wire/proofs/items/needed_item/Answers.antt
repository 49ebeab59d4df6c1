use Rattle.std.proofs.Common.{ap, Ok}
use Rattle.std.specs.Prelude.{string_bytes}
use Rattle.ftp_wire.specs.Items.{Item}
use Rattle.ftp_wire.proofs.Forms.{text_made}
use Rattle.ftp_wire.proofs.items.needed_item.Goals as goal

pub returns : goal.returns
returns g c =
    record { item = ap {B = Item} Ok (text_made string_bytes c.args.verb c.in_ok-text.text c.text_command.result c.args.text.now c.text_command.ensures.command c.in_ok-text.ensures.ok) }
