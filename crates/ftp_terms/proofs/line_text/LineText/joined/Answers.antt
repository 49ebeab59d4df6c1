use Rattle.ftp_terms.proofs.LineLemmas.{both, plain}
use Rattle.ftp_terms.proofs.line_text.LineText.joined.Goals as goal

pub made-requires : goal.made-requires
made-requires g c =
    let before = plain c.args.before.now c.requires.before in
    let middle = plain c.args.middle.now c.requires.middle in
    let after = plain c.args.after.now c.requires.after in
    record { line = rw c.in_ok-text.ensures.ok (both before (both middle after)).is }
