use Rattle.std.proofs.Common.{ap, rules, Err}
use Rattle.sheets_program.proofs.Ends.{a_flaw, check_fault, flawed, judged, not_best}
use Rattle.sheets_program.proofs.run.check.Goals as goal

pub returns-in-Ok-Yes-clause-end : goal.returns-in-Ok-Yes-clause-end
returns-in-Ok-Yes-clause-end g c =
    (search rules, judged _ _ _ _ _ _ _ _ _ c.in-Ok.ensures.gives (c.in-Ok.ensures.stays _ _ c.in-Ok-open.ensures.gives) c.in-Ok-Yes.ensures.checked c.in-Ok-Yes.field-0-is)

pub returns-in-Ok-No-clause-end : goal.returns-in-Ok-No-clause-end
returns-in-Ok-No-clause-end g c =
    (search rules, flawed _ _ _ _ _ _ _ _ _ c.in-Ok.ensures.gives (c.in-Ok.ensures.stays _ _ c.in-Ok-open.ensures.gives) c.in-Ok-No.ensures.checked (a_flaw _) c.in-Ok-No.field-0-is)

pub returns-in-Ok-NotBestByUsers-clause-end : goal.returns-in-Ok-NotBestByUsers-clause-end
returns-in-Ok-NotBestByUsers-clause-end g c =
    (search rules, flawed _ _ _ _ _ _ _ _ _ c.in-Ok.ensures.gives (c.in-Ok.ensures.stays _ _ c.in-Ok-open.ensures.gives) c.in-Ok-NotBestByUsers.ensures.checked not_best c.in-Ok-NotBestByUsers.field-0-is)

pub returns-clause-end : goal.returns-clause-end
returns-clause-end g c = (
  search rules,
  check_fault _ _ _ _ _ c.in-Ok.ensures.gives (c.in-Ok.ensures.stays _ _ c.in-Ok-open.ensures.gives) (λ why is. c.in-Err-run_check.ensures.sheet why (ap Err is))
      (λ why is. c.in-Err-run_check.ensures.grants why (ap Err is)),
  c.check_cause-cause.ensures.file,
)
