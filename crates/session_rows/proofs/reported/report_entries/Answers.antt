use Rattle.std.proofs.Common.{◌∙◌, ap, map, sym}
use Rattle.std.proofs.lemmas.Result.{IfOk-weaker}
use Rattle.ftp_terms.specs.LineText.{text_of}
use Rattle.session_rows.specs.Listed.{reported_by}
use Rattle.session_rows.proofs.reported.report_entries.Goals as goal

pub returns-in_ok-lines-in-InReply-clause-listed : goal.returns-in_ok-lines-in-InReply-clause-listed
returns-in_ok-lines-in-InReply-clause-listed g c =
    let lines = map text_of c.in_ok-lines-in-InReply.lines.items in
    IfOk-weaker c.report_lines.result _ _
    (λ actions row. (lines, c.in_ok-lines-in-InReply.ensures.reported, row ∙ ap (λ way. reported_by way c.args.state.now lines) (sym c.in-InReply.is)))
    c.report_lines.ensures.row
