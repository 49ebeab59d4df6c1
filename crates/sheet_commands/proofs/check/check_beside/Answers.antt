use Rattle.std.proofs.Common.{◌≡◌, ◌∙◌, None, ap}
use Rattle.sheet_text.specs.Sheet.{fault_of, sheet_fault}
use Rattle.sheet_commands.specs.CheckFaults.{of_sheet}
use Rattle.sheet_commands.specs.declared.check_fault.CheckFault.TheVariants.{Sheet}
use Rattle.sheet_commands.proofs.Checks.{sheet_beside, within_beside}
use Rattle.text_io.proofs.Reported.{if_err, if_err_of, if_err_then, if_ok_then}
use Rattle.sheet_commands.proofs.check.check_beside.Goals as goal

pub returns-in_err-sheet-clause-faults : goal.returns-in_err-sheet-clause-faults
returns-in_err-sheet-clause-faults g c =
    if_err c.from_residual-in_err-sheet.result (of_sheet c.in_err-sheet.field-0.0) _ c.from_residual-in_err-sheet.ensures.1
    (sheet_beside c.args.sheet_text.now _ _ c.in_err-sheet.field-0.0 c.in_err-sheet.ensures.read)

pub returns-clause-checked : goal.returns-clause-checked
returns-clause-checked g c =
    if_ok_then c.check_within.result _ _
    (λ checked is. record { text = is.text; read = is.read; few = is.few; check = is.check c.args.sheet_text.now c.in_ok-sheet.ensures.read }) c.check_within.ensures.checked

pub returns-clause-faults : goal.returns-clause-faults
returns-clause-faults g c =
    let sound : sheet_fault c.args.sheet_text.now ≡ None = ap fault_of c.in_ok-sheet.ensures.read.taken_is ∙ c.in_ok-sheet.ensures.read.sound in
    if_err_then c.check_within.result _ _
    (λ e is. within_beside c.in_ok-sheet.sheet c.args.sheet_text.now _ _ e c.in_ok-sheet.ensures.read sound is) c.check_within.ensures.faults

pub returns-clause-judged_first : goal.returns-clause-judged_first
returns-clause-judged_first g c fault is = absurd (if_err_of c.check_within.result (Sheet fault) _ c.check_within.ensures.faults is)
