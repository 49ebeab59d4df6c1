use Rattle.std.proofs.Common.{ap, ◌∙◌, Err}
use Rattle.ftpd_program.specs.declared.printing.PrintFault.TheVariants.{Text}
use Rattle.ftpd_program.proofs.Printed.{printing}
use Rattle.ftpd_program.proofs.run.print_text.Goals as goal

pub returns-clause-end : goal.returns-clause-end
returns-clause-end g c = printing _ _ _ _ c.in-Err-Text.fault c.in-Ok.ensures.gives
    (λ is. c.in-Err-Text.ensures.too_long (ap Err (c.in-Err-Text.field-0-is ∙ ap Text is)))
    (λ is. c.in-Err-Text.ensures.write_fault (ap Err (c.in-Err-Text.field-0-is ∙ ap Text is)))
