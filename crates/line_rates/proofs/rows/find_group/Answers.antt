use Rattle.std.proofs.Common.{rules, ◌∙◌, sym}
use Rattle.std.proofs.lemmas.List.Sorted.{answers_always}
use Rattle.line_rates.specs.Stated.{group_number}
use Rattle.line_rates.proofs.RowLemmas.{found, not_found, at_any, get-by_number}
use Rattle.line_rates.proofs.rows.find_group.Goals as goal

pub returns-in-Ok : goal.returns-in-Ok
returns-in-Ok c =
    let by_key = c.binary_search_by_key.ensures.position group_number (answers_always _ _ _ (λ f a r g called. search rules)) in
    let at = found group_number c.args.groups.now c.args.group c.in-Ok.place c.binary_search_by_key.result c.in-Ok.is c.requires.rising c.binary_search_by_key.ensures.bound by_key in
    record { row = sym (at.1 _) ∙ sym (get-by_number group_number c.args.group c.args.groups.now); stands = (c.in-Ok.place, at.0, at_any c.args.groups.now c.in-Ok.place _ _ at.0) }

pub returns-in-Err : goal.returns-in-Err
returns-in-Err c =
    let by_key = c.binary_search_by_key.ensures.position group_number (answers_always _ _ _ (λ f a r g called. search rules)) in
    let none = not_found group_number c.args.groups.now c.args.group c.in-Err.field-0 c.binary_search_by_key.result c.in-Err.is c.requires.rising c.binary_search_by_key.ensures.bound by_key in
    record { row = sym none ∙ sym (get-by_number group_number c.args.group c.args.groups.now); stands = tt }
