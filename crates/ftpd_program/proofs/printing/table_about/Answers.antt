use Rattle.std.proofs.Common.{◌∙◌, None, ℕ, ap, max, string_bytes, subst}
use Rattle.status_table.specs.Tables.{IsTable}
use Rattle.ftpd_program.proofs.printing.table_about.Goals as goal

pub returns-in-Ok-table_lines-clause-prints : goal.returns-in-Ok-table_lines-clause-prints
returns-in-Ok-table_lines-clause-prints c =
    let lines = c.max-lines.ensures ∙ ap (λ (n : ℕ). max n 6) c.from.ensures in
    record {
      status = c.in-Ok.status;
      has = c.in-Ok.ensures.status;
      table = subst (λ (n : ℕ). IsTable None None c.in-Ok.status n (string_bytes c.in-Ok-table_lines.text)) lines c.in-Ok-table_lines.ensures.table;
    }
