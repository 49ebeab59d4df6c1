use Rattle.std.proofs.Common.{◌≡◌, ◌∙◌, None, ap}
use Rattle.text_io.proofs.Reported.{if_err}
use Rattle.sheet_text.specs.Sheet.{fault_of, sheet_fault}
use Rattle.sheet_commands.specs.ShareFaults.{of_depth}
use Rattle.sheet_commands.proofs.PictureFaults.{depth_unshared}
use Rattle.sheet_commands.proofs.picture_users.picture_at.Goals as goal

pub returns-in_err-picture-clause-faults : goal.returns-in_err-picture-clause-faults
returns-in_err-picture-clause-faults g c =
    let sound : sheet_fault c.args.text.now ≡ None = ap fault_of c.in_ok-sheet.ensures.read.taken_is ∙ c.in_ok-sheet.ensures.read.sound in
    if_err c.from_residual-in_err-picture.result (of_depth c.in_err-picture.field-0.0) _ c.from_residual-in_err-picture.ensures.1
    (depth_unshared c.args.depth c.args.text.now c.in_err-picture.field-0.0 sound)

pub returns-clause-drawn : goal.returns-clause-drawn
returns-clause-drawn g c = c.in_ok-picture.ensures.drawn c.args.text.now c.in_ok-sheet.ensures.read
