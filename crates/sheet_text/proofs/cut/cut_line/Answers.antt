use Rattle.std.proofs.Common.{◌≡◌, ◌∙◌, ap, sym, subst, ◌∷◌, [], ◌<◌, length, Option, Bor, List, ℕ}
use Rattle.std.specs.Prelude.{IfSome}
use Rattle.std.specs.Option.{option_copied}
use Rattle.std.specs.Str.Lines.{lines}
use Rattle.sheet_text.specs.Paths.{parts, parts_behind}
use Rattle.sheet_text.proofs.LineCuts.{lines_more, last_line, nothing_left}
use Rattle.sheet_text.proofs.cut.cut_line.Goals as goal

pub returns-in-Some-clause-lines : goal.returns-in-Some-clause-lines
returns-in-Some-clause-lines c =
    let whole : parts 10 c.args.text.now ≡ c.cut_at.result.0.now ∷ parts 10 c.in-Some.rest.now =
    c.cut_at.ensures.parts ∙ ap (λ (r : Option (Bor (List ℕ))). c.cut_at.result.0.now ∷ parts_behind 10 (option_copied r)) c.in-Some.is in
    lines_more c.cut_at.result.0.now c.in-Some.rest.now c.args.text.now whole ∙ ap (λ (l : List ℕ). l ∷ lines c.in-Some.rest.now) (sym c.without_cr.ensures.line)

pub returns-in-Some-clause-shorter : goal.returns-in-Some-clause-shorter
returns-in-Some-clause-shorter c =
    subst (λ (r : Option (Bor (List ℕ))). IfSome (option_copied r) (λ rest. length rest < length c.args.text.now)) c.in-Some.is c.cut_at.ensures.shorter

pub returns-in-None-clause-lines : goal.returns-in-None-clause-lines
returns-in-None-clause-lines c =
    let whole : parts 10 c.args.text.now ≡ c.cut_at.result.0.now ∷ [] =
    c.cut_at.ensures.parts ∙ ap (λ (r : Option (Bor (List ℕ))). c.cut_at.result.0.now ∷ parts_behind 10 (option_copied r)) c.in-None.is in
    last_line c.cut_at.result.0.now c.args.text.now _ c.requires.some whole (nothing_left c.args.text.now)
