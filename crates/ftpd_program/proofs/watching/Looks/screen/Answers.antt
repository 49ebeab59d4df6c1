use Rattle.std.proofs.Common.{◌∙◌, ◌++◌, ℕ, List, ap, string_bytes, subst}
use Rattle.ftpd_program.specs.Watching.{IsTableOrNone, cleared, still_text}
use Rattle.ftpd_program.proofs.Shown.{if_ok}
use Rattle.ftpd_program.proofs.watching.Looks.screen.Goals as goal

pub returns : goal.returns
returns c =
    let still = c.reported_still-still.result in
    let table = string_bytes c.in_ok-table.table in
    let rows = subst (λ (n : ℕ). IsTableOrNone n table) c.table_rows.ensures.rows c.in_ok-table.ensures.table in
    record {
      screen = if_ok c.screen_text.result _ _
          (λ text is. record {
            still = still;
            table = table;
            is_table = rows;
            text_is = is ∙ ap (λ (t : List ℕ). cleared ++ t ++ still_text still) c.as_str.ensures.value;
          })
          c.screen_text.ensures.text;
    }
