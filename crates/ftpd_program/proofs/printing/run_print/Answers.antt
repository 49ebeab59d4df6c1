use Rattle.std.proofs.Common.{List, ℕ, subst, sym}
use Rattle.ftpd_program.specs.Printing.{IsPrintOf}
use Rattle.ftpd_program.proofs.WholeTexts.{refused_at, reported}
use Rattle.ftpd_program.proofs.Scripts.{text_read}
use Rattle.ftpd_program.proofs.printing.run_print.Goals as goal

pub returns-in-Ok-write_whole-clause-printed : goal.returns-in-Ok-write_whole-clause-printed
returns-in-Ok-write_whole-clause-printed g c =
    let prints = subst (λ (p : List ℕ). IsPrintOf c.args.print (g.L.Lookout.Shows c.args.lookout.now) c.as_slice.result.now p) (sym c.as_str.ensures.value) c.in-Ok-text_about.ensures.prints in
    reported c.args.print (g.L.Lookout.Shows c.args.lookout.now) _ _ c.in-Ok.octets.items c.as_slice.result.now c.as_str.result.now _ _
    c.in-Ok.ensures.whole c.in-Ok.ensures.end c.as_slice.ensures.value prints c.in-Ok-write_whole.ensures.written

pub returns-clause-write_fault : goal.returns-clause-write_fault
returns-clause-write_fault g c = λ is.
    let prints = subst (λ (p : List ℕ). IsPrintOf c.args.print (g.L.Lookout.Shows c.args.lookout.now) c.as_slice.result.now p) (sym c.as_str.ensures.value) c.in-Ok-text_about.ensures.prints in (
      c.as_slice.result.now,
      c.as_str.result.now,
      text_read _ _ c.in-Ok.octets.items c.as_slice.result.now c.in-Ok.ensures.whole c.in-Ok.ensures.end c.as_slice.ensures.value,
      prints,
      c.in-Err-write_whole.ensures.write_fault.1,
    )

pub returns-in-Err-text_about-clause-refused : goal.returns-in-Err-text_about-clause-refused
returns-in-Err-text_about-clause-refused g c =
    refused_at c.args.print _ c.as_slice.result.now _
    (text_read _ _ c.in-Ok.octets.items c.as_slice.result.now c.in-Ok.ensures.whole c.in-Ok.ensures.end c.as_slice.ensures.value)
    c.in-Err-text_about.ensures.refused
