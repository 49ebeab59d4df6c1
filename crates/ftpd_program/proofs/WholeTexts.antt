-- A configuration that was read whole.
use Rattle.std.proofs.Common.{◌≡◌, ◌∙◌, ℕ, List, ◌++◌, Option, Some, None, append-nil, sym, ap, subst}
use Rattle.std.specs.Io.KnownBytes.{Appends, Consumes, IsAtEnd}
use Rattle.config_report.specs.Looks.{Shown}
use Rattle.text_io.specs.Texts.{IsTextOf}
use Rattle.ftpd_program.specs.Printing.{AppendsPrint, IsPrintFault, IsPrintOf, IsPrintRefusal}
use Rattle.ftpd_program.specs.declared.printing.Print.{Print}
use Rattle.ftpd_program.specs.declared.printing.PrintFault.{PrintFault}
use Rattle.ftpd_program.specs.declared.printing.PrintFault.TheVariants.{Config, Text, Transfers, Status}

pub whole : (text rest items : List ℕ) → Consumes (Some text) (Some rest) items → IsAtEnd (Some rest) → items ≡ text
whole text rest items taken end = sym (append-nil items) ∙ ap (λ (r : List ℕ). items ++ r) (sym end) ∙ sym taken

-- a text about the octets that were read is one about the text
pub reported : (print : Print) (shown : Shown) (old new : Option (List ℕ)) (items read printed : List ℕ) (before after : Option (List ℕ)) → Consumes old new items → IsAtEnd new → read ≡ items
    → IsPrintOf print shown read printed → Appends before after printed → AppendsPrint print shown old before after
reported print shown None new items read printed before after taken end same prints appended = tt
reported print shown (Some text) None items read printed before after taken end same prints appended = absurd taken
reported print shown (Some text) (Some rest) items read printed before after taken end same prints appended =
    (printed, subst (λ (t : List ℕ). IsPrintOf print shown t printed) (same ∙ whole text rest items taken end) prints, appended)

-- a refusal of the octets that were read is one of the text of the end
pub refused_at : (print : Print) (left : Option (List ℕ)) (text : List ℕ) (fault : PrintFault) → IsTextOf text left → IsPrintRefusal print text fault → IsPrintFault print left fault
refused_at print left text (Text why) of is = tt
refused_at print left text (Config why) of is = (text, of, is)
refused_at print left text (Transfers name reported) of is = is
refused_at print left text (Status why) of is = (is.0, (text, of, is.1))
