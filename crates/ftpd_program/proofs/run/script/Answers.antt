use Rattle.std.proofs.Common.{rules}
use Rattle.sheets_program.specs.Runs.{IsInput}
use Rattle.ftpd_program.proofs.Breaks.{broken}
use Rattle.ftpd_program.proofs.Ends.{unserved}
use Rattle.ftpd_program.proofs.run.script.Goals as goal

pub returns-clause-end : goal.returns-clause-end
returns-clause-end g c =
    let other : IsInput c.args.config.now → ⊥ = search rules in (
      other,
      (
        _,
        _,
        _,
        c.in-Ok.ensures.gives,
        c.in-Ok.ensures.stays _ _ c.in-Ok-open.ensures.gives,
        unserved _ _ _ _ _ _ _ c.in-Err-Session.ensures.unserved c.in-Err-Session.field-0-is,
      ),
    )

pub returns-clause-why : goal.returns-clause-why
returns-clause-why g c =
    broken _ _ _ _ _ _ _ (c.in-Ok.ensures.stays _ _ c.in-Ok-open.ensures.gives) (λ may. c.in-Ok.ensures.no_more_fail _ (c.in-Ok-open.ensures.fails may))
    c.in-Err-Session.ensures.breaks c.in-Err-Session.field-0-is
