use Rattle.std.proofs.Common.{◌≡◌, ◌∙◌, List, ℕ, None, length, sym, ap, subst, arith}
use Rattle.text_io.specs.declared.read.TheConstants.{MAX_TEXT}
use Rattle.text_io.proofs.Reported.{reported_as}
use Rattle.text_io.proofs.Reading.{read_whole_text, read_text_of, read_whole_few}
use Rattle.sheet_text.specs.Sheet.{IsSheetFaultOf, sheet_fault}
use Rattle.sheet_commands.specs.ShareFaults.{IsUnshared}
use Rattle.sheet_commands.specs.Sharing.{IsSharingBy}
use Rattle.sheet_commands.specs.declared.share_fault.ShareFault.{ShareFault}
use Rattle.sheet_commands.specs.declared.share_fault.ShareFault.TheVariants.{Sheet, UserTooLarge}
use Rattle.sheet_commands.proofs.ShareFaults.{by_users}
use Rattle.sheet_commands.proofs.share_run.run_share.Goals as goal

pub returns-in_err-lines-clause-long : goal.returns-in_err-lines-clause-long
returns-in_err-lines-clause-long g c text known more = absurd (read_whole_few _ _ c.in_ok-text.text.items text MAX_TEXT c.in_ok-text.ensures.whole c.in_ok-text.ensures.end known (omega (arith, c.in_ok-text.ensures.short, c.deref.ensures.len, ap length c.deref.ensures.value)) more)

pub returns-in_err-write_whole-clause-long : goal.returns-in_err-write_whole-clause-long
returns-in_err-write_whole-clause-long g c text known more = absurd (read_whole_few _ _ c.in_ok-text.text.items text MAX_TEXT c.in_ok-text.ensures.whole c.in_ok-text.ensures.end known (omega (arith, c.in_ok-text.ensures.short, c.deref.ensures.len, ap length c.deref.ensures.value)) more)

pub returns-clause-long : goal.returns-clause-long
returns-clause-long g c text known more = absurd (read_whole_few _ _ c.in_ok-text.text.items text MAX_TEXT c.in_ok-text.ensures.whole c.in_ok-text.ensures.end known (omega (arith, c.in_ok-text.ensures.short, c.deref.ensures.len, ap length c.deref.ensures.value)) more)

pub returns-clause-written : goal.returns-clause-written
returns-clause-written g c text known =
    let whole = read_whole_text _ _ c.in_ok-text.text.items text c.in_ok-text.ensures.whole c.in_ok-text.ensures.end known in
    let printed = c.deref-2.result.now in
    let shared = subst (λ (p : List ℕ). IsSharingBy c.args.by c.deref.result.now p) (sym c.deref-2.ensures) c.in_ok-lines.ensures.shared in
    (printed, subst (λ (t : List ℕ). IsSharingBy c.args.by t printed) (c.deref.ensures.value ∙ whole) shared, c.in_ok-write_whole.ensures.written)

pub returns-in_err-write_whole-clause-write_fault : goal.returns-in_err-write_whole-clause-write_fault
returns-in_err-write_whole-clause-write_fault g c is =
    let refused = c.in_err-write_whole.ensures.write_fault in
    let printed = c.deref-2.result.now in
    let shared = subst (λ (p : List ℕ). IsSharingBy c.args.by c.deref.result.now p) (sym c.deref-2.ensures) c.in_ok-lines.ensures.shared in (
      c.in_ok-text.text.items,
      printed,
      read_text_of _ _ c.in_ok-text.text.items c.in_ok-text.ensures.whole c.in_ok-text.ensures.end,
      subst (λ (t : List ℕ). IsSharingBy c.args.by t printed) c.deref.ensures.value shared,
      refused.1,
    )

pub returns-in_err-lines-clause-sheet : goal.returns-in_err-lines-clause-sheet
returns-in_err-lines-clause-sheet g c fault is text known =
    let whole = read_whole_text _ _ c.in_ok-text.text.items text c.in_ok-text.ensures.whole c.in_ok-text.ensures.end known in
    let same = reported_as c.from_residual-in_err-lines.result c.in_err-lines.field-0.0 (Sheet fault) c.from_residual-in_err-lines.ensures.1 is in
    let unshared = subst (λ (f : ShareFault). IsUnshared c.args.by c.deref.result.now f) same c.in_err-lines.ensures.faults in
    subst (λ (t : List ℕ). IsSheetFaultOf t fault) (c.deref.ensures.value ∙ whole) unshared

pub returns-in_err-lines-clause-users : goal.returns-in_err-lines-clause-users
returns-in_err-lines-clause-users g c is =
    let same = reported_as c.from_residual-in_err-lines.result c.in_err-lines.field-0.0 UserTooLarge c.from_residual-in_err-lines.ensures.1 is in
    let unshared = by_users c.args.by c.deref.result.now (subst (λ (f : ShareFault). IsUnshared c.args.by c.deref.result.now f) same c.in_err-lines.ensures.faults) in (
      unshared.0,
      λ text known.
          let whole = read_whole_text _ _ c.in_ok-text.text.items text c.in_ok-text.ensures.whole c.in_ok-text.ensures.end known in
          subst (λ (t : List ℕ). sheet_fault t ≡ None) (c.deref.ensures.value ∙ whole) unshared.1,
    )
