use Rattle.std.proofs.Common.{◌∙◌, ◌∷◌, ◌++◌, [], ap, sym}
use Rattle.std.proofs.lemmas.List.{append-nil}
use Rattle.ftp_terms.specs.LineText.{text_of}
use Rattle.session_rows.proofs.reported.send_line.Goals as goal

pub returns-clause-row : goal.returns-clause-row
returns-clause-row g c =
    let line = text_of c.args.line.now in
    c.send_octets.ensures.row (line ∷ [])
    (c.new.ensures.octets
    ∙ c.in_ok-push_line.ensures.line
    ∙ ap (λ octets. octets ++ (c.as_str.result.now ++ 13 ∷ 10 ∷ [])) c.new-octets.ensures.items
    ∙ ap (λ text. text ++ 13 ∷ 10 ∷ []) c.as_str.ensures.text
    ∙ sym (append-nil (line ++ 13 ∷ 10 ∷ [])))
