use Rattle.std.proofs.Common.{◌∙◌, ◌++◌, sym, ap, Ok}
use Rattle.virtual_path.proofs.Parts.{is_text_of, kept, names_in_text, joined_text, joined-short, joined-long}
use Rattle.virtual_path.proofs.path.VPath.joined.Goals as goal

pub returns-then-as_str-gt-LONGEST_PATH : goal.returns-then-as_str-gt-LONGEST_PATH
returns-then-as_str-gt-LONGEST_PATH g c =
    let home = is_text_of c.as_str.result.now _ c.args.self.now c.self.invariant c.self.view_is c.as_str.ensures.value in
    let path = is_text_of c.as_str-2.result.now _ c.args.path.now c.path.invariant c.path.view_is c.as_str-2.ensures.value in
    record { path = λ _. joined-long _ _ _ _ home path c.if-as_str-gt-LONGEST_PATH.true }

pub invariant_of-result : goal.invariant_of-result
invariant_of-result g c =
    let home = is_text_of c.as_str.result.now _ c.args.self.now c.self.invariant c.self.view_is c.as_str.ensures.value in
    let path = is_text_of c.as_str-2.result.now _ c.args.path.now c.path.invariant c.path.view_is c.as_str-2.ensures.value in
    let built = c.in_ok-push_str.ensures.bytes ∙ ap (λ t. t ++ c.as_str-4.result.now) (c.in_ok-text.ensures.ok ∙ c.as_str-3.ensures.value ∙ sym c.as_str.ensures.value)
    ∙ ap (λ t. c.as_str.result.now ++ t) (c.as_str-4.ensures.value ∙ sym c.as_str-2.ensures.value) in
    let whole = joined_text _ _ _ c.args.self.now c.args.path.now home path built c.if-as_str-gt-LONGEST_PATH.false in
    kept _ _ whole

pub returns : goal.returns
returns g c =
    let home = is_text_of c.as_str.result.now _ c.args.self.now c.self.invariant c.self.view_is c.as_str.ensures.value in
    let path = is_text_of c.as_str-2.result.now _ c.args.path.now c.path.invariant c.path.view_is c.as_str-2.ensures.value in
    let built = c.in_ok-push_str.ensures.bytes ∙ ap (λ t. t ++ c.as_str-4.result.now) (c.in_ok-text.ensures.ok ∙ c.as_str-3.ensures.value ∙ sym c.as_str.ensures.value)
    ∙ ap (λ t. c.as_str.result.now ++ t) (c.as_str-4.ensures.value ∙ sym c.as_str-2.ensures.value) in
    let whole = joined_text _ _ _ c.args.self.now c.args.path.now home path built c.if-as_str-gt-LONGEST_PATH.false in
    record { path = joined-short _ c.args.self.now c.args.path.now whole ∙ ap Ok (sym (names_in_text _ _ whole)) }
