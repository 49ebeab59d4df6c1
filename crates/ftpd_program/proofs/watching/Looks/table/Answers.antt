use Rattle.std.proofs.Common.{inr}
use Rattle.ftpd_program.proofs.Shown.{if_ok}
use Rattle.ftpd_program.proofs.watching.Looks.table.Goals as goal

pub returns-then-past-lt2 : goal.returns-then-past-lt2
returns-then-past-lt2 c = record { table = if_ok c.table_lines.result _ _ (λ text is. inr (_, _, _, is)) c.table_lines.ensures.table }

pub returns : goal.returns
returns c = record { table = if_ok c.table_lines-2.result _ _ (λ text is. inr (_, _, _, is)) c.table_lines-2.ensures.table }
