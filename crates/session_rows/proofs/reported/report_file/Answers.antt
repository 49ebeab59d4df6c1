use Rattle.std.proofs.Common.{◌∙◌, ◌∷◌, [], ap, refl, sym}
use Rattle.std.proofs.lemmas.Result.{IfOk-weaker}
use Rattle.ftp_terms.specs.LineText.{text_of}
use Rattle.session_rows.specs.Listed.{reported_by}
use Rattle.session_rows.proofs.reported.report_file.Goals as goal

pub returns-in-OverData-clause-listed : goal.returns-in-OverData-clause-listed
returns-in-OverData-clause-listed g c =
    let line = text_of c.in_ok-line.line in
    IfOk-weaker c.send_line.result _ _
    (λ actions row. (line ∷ [], (line, [], c.in_ok-line.ensures.reported, refl, refl), row ∙ ap (λ way. reported_by way c.args.state.now (line ∷ [])) (sym c.in-OverData.is)))
    c.send_line.ensures.row

pub returns-in-InReply-clause-listed : goal.returns-in-InReply-clause-listed
returns-in-InReply-clause-listed g c =
    let line = text_of c.in_ok-line.line in
    IfOk-weaker c.report_line.result _ _
    (λ actions row. (line ∷ [], (line, [], c.in_ok-line.ensures.reported, refl, refl), row ∙ ap (λ way. reported_by way c.args.state.now (line ∷ [])) (sym c.in-InReply.is)))
    c.report_line.ensures.row
