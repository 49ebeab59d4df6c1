use Rattle.std.proofs.Common.{◌∙◌, sym, refl, subst}
use Rattle.std.proofs.lemmas.Bool.{true≢false}
use Rattle.authorizer.specs.Users.{Covers}
use Rattle.authorizer.proofs.Maps.{get-found, get-missing}
use Rattle.authorizer.proofs.Decides.{none_is_no_rule, one_rule}
use Rattle.authorizer.proofs.allowed.covering.Goals as goal

pub returns-in_err-rule : goal.returns-in_err-rule
returns-in_err-rule g c =
    let missing = get-missing (λ rule. rule) c.args.text.now c.args.rules.now c.in_err-rule.ensures.value in
    rw c.from_residual.ensures (record { covering = λ rule is _. none_is_no_rule _ _ rule missing is })

pub returns-then-covers : goal.returns-then-covers
returns-then-covers g c =
    let found = get-found (λ rule. rule) c.args.text.now c.args.rules.now c.in_ok-rule.rule.now c.in_ok-rule.ensures.value in
    record { covering = (c.in_ok-rule.rule.now, found, c.covers.ensures.covers.0 c.if-covers.true, refl) }

pub returns-else-covers : goal.returns-else-covers
returns-else-covers g c =
    let found = get-found (λ rule. rule) c.args.text.now c.args.rules.now c.in_ok-rule.rule.now c.in_ok-rule.ensures.value in
    record { covering = λ rule is covers. true≢false (sym (c.covers.ensures.covers.1 (subst (λ r. Covers r c.args.up) (sym (one_rule _ _ c.in_ok-rule.rule.now rule found is)) covers)) ∙ c.if-covers.false) }
