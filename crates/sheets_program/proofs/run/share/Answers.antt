use Rattle.std.proofs.Common.{ap, Err}
use Rattle.sheets_program.proofs.Ends.{share_fault}
use Rattle.sheets_program.proofs.run.share.Goals as goal

pub returns-clause-end : goal.returns-clause-end
returns-clause-end g c = (
  share_fault _ _ _ _ c.in-Ok.ensures.gives (λ why is. c.in-Err-show.ensures.sheet why (ap Err is)) (λ is. c.in-Err-show.ensures.users (ap Err is)) (λ is. c.in-Err-show.ensures.too_long (ap Err is)),
  c.share_cause.ensures.file,
)
