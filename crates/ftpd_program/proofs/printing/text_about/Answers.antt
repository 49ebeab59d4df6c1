use Rattle.std.proofs.Common.{◌≡◌, ◌∙◌, sym, subst, string_bytes}
use Rattle.std.specs.Prelude.{Result, Ok, IfOk}
use Rattle.ftpd_program.specs.Printing.{IsPrintOf}
use Rattle.ftpd_program.specs.declared.printing.Print.{Print}
use Rattle.ftpd_program.proofs.printing.text_about.Goals.{in-Report, in-ReportJson, in-Latest}
use Rattle.ftpd_program.proofs.printing.text_about.Goals as goal

-- what holds of a result that is Ok holds of its value
ok_told : {T E : Type 0} (r : Result T E) (t : T) (P : T → Type 0) → IfOk r P → r ≡ Ok t → P t
ok_told {T} {E} r t P h e = subst (λ (x : Result T E). IfOk x P) e h

pub returns-in-Ok-clause-prints : goal.returns-in-Ok-clause-prints
returns-in-Ok-clause-prints g c =
    elim c.match-print.branch [
      | in-Report w ↦ subst (λ (p : Print). IsPrintOf p (g.L.Lookout.Shows c.args.lookout.now) c.args.octets.now (string_bytes c.in-Ok.text)) (sym w.in-Report.is)
          (ok_told w.report-text.result c.in-Ok.text _ w.report-text.ensures.report (sym w.text-is ∙ c.in-Ok.is))
      | in-ReportJson w ↦ subst (λ (p : Print). IsPrintOf p (g.L.Lookout.Shows c.args.lookout.now) c.args.octets.now (string_bytes c.in-Ok.text)) (sym w.in-ReportJson.is)
          (ok_told w.report_json-text.result c.in-Ok.text _ w.report_json-text.ensures.report (sym w.text-is ∙ c.in-Ok.is))
      | in-Latest w ↦ subst (λ (p : Print). IsPrintOf p (g.L.Lookout.Shows c.args.lookout.now) c.args.octets.now (string_bytes c.in-Ok.text)) (sym w.in-Latest.is)
          (ok_told w.migrate-text.result c.in-Ok.text _ w.migrate-text.ensures.migrated (sym w.text-is ∙ c.in-Ok.is))
    ]
