use Rattle.std.proofs.Common.{◌∙◌, ap, sym, ◌∷◌, List, ℕ}
use Rattle.sheet_text.proofs.LineCuts.{many_words, behind}
use Rattle.sheet_text.proofs.entry.read_entry.Goals as goal

pub returns-in-Some-rest-clause-entry : goal.returns-in-Some-rest-clause-entry
returns-in-Some-rest-clause-entry c =
    let one = behind 32 c.args.line.now c.cut_at.result.0.now c.cut_at.result.1 c.in_ok-rest.field-0 c.cut_at.ensures.parts c.in_ok-rest.was in
    let two = behind 32 c.in_ok-rest.field-0.now c.cut_at-2.result.0.now c.cut_at-2.result.1 c.in_ok-rest-2.field-0 c.cut_at-2.ensures.parts c.in_ok-rest-2.was in
    let three = behind 32 c.in_ok-rest-2.field-0.now c.cut_at-3.result.0.now c.cut_at-3.result.1 c.in-Some.rest c.cut_at-3.ensures.parts c.in-Some.is in
    let four = behind 32 c.in-Some.rest.now c.cut_at-4.result.0.now c.cut_at-4.result.1 c.in-Some-rest.field-0 c.cut_at-4.ensures.parts c.in-Some-rest.is in
    sym (many_words c.cut_at.result.0.now c.cut_at-2.result.0.now c.cut_at-3.result.0.now c.cut_at-4.result.0.now c.args.line.now c.in-Some-rest.field-0.now
    (one ∙ ap (λ (ws : List (List ℕ)). c.cut_at.result.0.now ∷ ws) (two ∙ ap (λ (ws : List (List ℕ)). c.cut_at-2.result.0.now ∷ ws) (three ∙ ap (λ (ws : List (List ℕ)). c.cut_at-3.result.0.now ∷ ws) four))))
