use Rattle.std.proofs.Common.{rules, ◌∙◌, sym}
use Rattle.std.proofs.lemmas.List.Sorted.{answers_always}
use Rattle.line_rates.specs.Stated.{user_number}
use Rattle.line_rates.proofs.RowLemmas.{found, not_found, at_any, get-by_number}
use Rattle.line_rates.proofs.rows.find_user.Goals as goal

pub returns-in-Ok : goal.returns-in-Ok
returns-in-Ok c =
    let by_key = c.binary_search_by_key.ensures.position user_number (answers_always _ _ _ (λ f a r g called. search rules)) in
    let at = found user_number c.args.users.now c.args.user c.in-Ok.place c.binary_search_by_key.result c.in-Ok.is c.requires.rising c.binary_search_by_key.ensures.bound by_key in
    record { row = sym (at.1 _) ∙ sym (get-by_number user_number c.args.user c.args.users.now); stands = (c.in-Ok.place, at.0, at_any c.args.users.now c.in-Ok.place _ _ at.0) }

pub returns-in-Err : goal.returns-in-Err
returns-in-Err c =
    let by_key = c.binary_search_by_key.ensures.position user_number (answers_always _ _ _ (λ f a r g called. search rules)) in
    let none = not_found user_number c.args.users.now c.args.user c.in-Err.field-0 c.binary_search_by_key.result c.in-Err.is c.requires.rising c.binary_search_by_key.ensures.bound by_key in
    record { row = sym none ∙ sym (get-by_number user_number c.args.user c.args.users.now); stands = tt }
