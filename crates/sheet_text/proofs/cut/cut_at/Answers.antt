use Rattle.std.proofs.Common.{◌≡◌, ◌∙◌, ◌+◌, ◌≤◌, suc, length, arith, ap, sym, take, drop, ◌∷◌, ◌-◌, ℕ, List}
use Rattle.std.proofs.Math.Seq.{take_all}
use Rattle.std.proofs.lemmas.List.{length-drop}
use Rattle.sheet_text.specs.Paths.{parts}
use Rattle.sheet_text.proofs.LineCuts.{cut_here, no_cut}
use Rattle.sheet_text.proofs.cut.cut_at.Goals as goal

pub returns-then-octet-mark-clause-parts : goal.returns-then-octet-mark-clause-parts
returns-then-octet-mark-clause-parts c =
    let text = c.args.text.now in
    let at = c.loop-at.at in
    let all : length (drop (at + 1) text) ≤ length text - (at + 1) = omega (arith, length-drop (at + 1) text) in
    let next : at + 1 ≡ suc at = omega arith in
    let rest : take (length text - (at + 1)) (drop (at + 1) text) ≡ drop (suc at) text = take_all (length text - (at + 1)) (drop (at + 1) text) all ∙ ap (λ (n : ℕ). drop n text) next in
    cut_here c.args.mark text at (omega arith) c.loop-at.invariant c.if-octet-mark.true
    ∙ ap (λ (r : List ℕ). take at text ∷ parts c.args.mark r) (sym rest)

pub returns-clause-parts : goal.returns-clause-parts
returns-clause-parts c = no_cut c.args.mark c.args.text.now (λ k less. c.loop-at.invariant k (omega arith))
