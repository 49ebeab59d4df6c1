use Rattle.std.proofs.Common.{ap, Ok, option_map}
use Rattle.std.specs.Prelude.{string_bytes}
use Rattle.ftp_wire.specs.Items.{Item}
use Rattle.ftp_wire.proofs.Forms.{listing_made}
use Rattle.ftp_wire.proofs.items.listing_item.Goals as goal

pub returns : goal.returns
returns g c =
    record { item = ap {B = Item} Ok (listing_made string_bytes c.args.verb c.in_ok-text.text c.listing_command.result (option_map (λ t. t.now) c.args.text) c.listing_command.ensures.command c.in_ok-text.ensures.text) }
