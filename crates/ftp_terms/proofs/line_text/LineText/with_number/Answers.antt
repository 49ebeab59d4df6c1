use Rattle.ftp_terms.proofs.LineLemmas.{both, plain, plain_decimal}
use Rattle.ftp_terms.proofs.line_text.LineText.with_number.Goals as goal

pub made-requires : goal.made-requires
made-requires g c =
    let before = plain c.args.before.now c.requires.before in
    let after = plain c.args.after.now c.requires.after in
    record { line = rw c.in_ok-text.ensures.ok (both before (both (plain_decimal c.args.number) after)).is }
