use Rattle.std.proofs.Common.{rules, ap, length, ◌<◌, ◌∙◌}
use Rattle.std.proofs.lemmas.List.Sorted.{answers_always}
use Rattle.line_rates.specs.Stated.{user_number}
use Rattle.line_rates.proofs.PutLemmas.{at_guess, at_place, at_none}
use Rattle.line_rates.proofs.RowLemmas.{at_any}
use Rattle.line_rates.proofs.rows.place_of_user.Goals as goal

pub returns-in-Ok : goal.returns-in-Ok
returns-in-Ok c = record {
  place = at_place user_number c.args.users.now c.args.user c.in-Ok.place c.binary_search_by_key.result c.in-Ok.is c.requires.rising c.binary_search_by_key.ensures.bound
      (c.binary_search_by_key.ensures.position user_number (answers_always _ _ _ (λ f a r g called. search rules)));
}

pub returns-in-Err : goal.returns-in-Err
returns-in-Err c = record {
  place = at_none user_number c.args.users.now c.args.user c.in-Err.field-0 c.binary_search_by_key.result c.in-Err.is c.requires.rising c.binary_search_by_key.ensures.bound
      (c.binary_search_by_key.ensures.position user_number (answers_always _ _ _ (λ f a r g called. search rules)));
}

pub returns-then-users-guess : goal.returns-then-users-guess
returns-then-users-guess c =
    let lt : c.args.guess < length c.args.users.now = c.if-guess-users.true in
    let here = c.if-users-guess.true in
    record {
      place = at_guess user_number c.args.users.now c.args.user c.args.guess c.requires.rising lt (λ d. ap user_number (at_any c.args.users.now c.args.guess d _ lt) ∙ here);
    }
