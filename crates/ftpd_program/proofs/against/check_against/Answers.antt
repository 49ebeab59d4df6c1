use Rattle.std.proofs.Common.{ℕ, List, inr, subst, sym}
use Rattle.ftpd_program.specs.Against.{IsTextIn}
use Rattle.ftpd_program.proofs.against.check_against.Goals as goal

pub returns-clause-end : goal.returns-clause-end
returns-clause-end g c =
    let first = subst (λ (xs : List ℕ). IsTextIn (g.O.Opener.Gives c.args.files.now c.args.config.now) xs) (sym c.as_slice.ensures.value) c.in-Ok.ensures.text in
    let found = subst (λ (xs : List ℕ). IsTextIn (g.O.Opener.Gives c.text_at.new.files c.args.other.now) xs) (sym c.as_slice-2.ensures.value) c.in-Ok-text_at.ensures.text in
    let second : IsTextIn (g.O.Opener.Gives c.args.files.now c.args.other.now) c.as_slice-2.result.now = (found.0, c.in-Ok.ensures.stays c.args.other.now found.0 found.1, found.2) in
    inr (inr ((λ twice. (let bad = c.if-is_named_twice.ensures.1 twice in absurd (cc))), (c.as_slice.result.now, c.as_slice-2.result.now, first, second, c.changed.ensures.end)))
