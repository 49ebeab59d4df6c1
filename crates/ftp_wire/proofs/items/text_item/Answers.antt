use Rattle.std.proofs.Common.{sym, ap, ◌∙◌}
use Rattle.std.specs.Prelude.{string_bytes}
use Rattle.ftp_wire.specs.Commands.{with_texts}
use Rattle.ftp_wire.specs.Items.{text_item, with_command}
use Rattle.ftp_wire.proofs.Forms.{form_texts}
use Rattle.ftp_wire.proofs.items.text_item.Goals as goal

pub returns-in-Form : goal.returns-in-Form
returns-in-Form g c =
    record {
      item = c.from_result.ensures.item ∙ ap (with_command (with_texts string_bytes)) c.form_command.ensures.command ∙ form_texts string_bytes c.in-Form.verb c.args.text.now
          ∙ sym (ap (λ v. text_item v c.args.text.now) c.in-Form.is);
    }
