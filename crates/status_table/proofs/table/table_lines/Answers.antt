use Rattle.std.proofs.Common.{◌∙◌, ℕ, List, String, Global, ap, map, string_bytes, take}
use Rattle.std.specs.Borrow.{Bor}
use Rattle.server_status.specs.declared.status.TransferStatus.{TransferStatus}
use Rattle.status_table.specs.Tables.{joined, screen_lines}
use Rattle.status_table.proofs.Screens.{first_few, if_ok}
use Rattle.status_table.proofs.Texts.{are_narrow}
use Rattle.status_table.proofs.table.table_lines.Goals as goal

pub returns : goal.returns
returns c =
    let screen = λ (ts : List (Bor TransferStatus)). screen_lines c.args.earlier c.args.before c.args.now.now ts c.args.rows in
    let first = λ (ls : List (List ℕ)). joined (take c.args.rows ls) in
    record {
      table = if_ok c.first_lines.result _ _
          (λ text is. record {
            shown = c.in_ok-shown.shown.items;
            all = c.in_ok-shown.ensures.all;
            ordered = c.in_ok-shown.ensures.ordered;
            narrow = are_narrow (take c.args.rows (screen c.in_ok-shown.shown.items));
            few = first_few c.args.rows (screen c.in_ok-shown.shown.items);
            lines = is ∙ ap first (ap (λ (ls : List (String Global)). map (λ (s : String Global). string_bytes s) ls) c.deref-2.ensures.value ∙ (c.in_ok-lines.ensures.screen ∙ ap screen c.deref.ensures.value));
          })
          c.first_lines.ensures.joined;
    }
