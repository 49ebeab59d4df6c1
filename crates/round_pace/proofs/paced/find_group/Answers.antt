use Rattle.std.proofs.Common.{rules}
use Rattle.std.proofs.lemmas.List.Sorted.{answers_always}
use Rattle.round_pace.specs.Paced.{group_key}
use Rattle.round_pace.proofs.paced.find_group.Goals as goal
use Rattle.line_rates.proofs.PutLemmas.{at_place, at_none}

pub returns-in-Ok : goal.returns-in-Ok
returns-in-Ok c = record {
  place = at_place group_key c.args.groups.now c.args.group c.in-Ok.place c.binary_search_by_key.result c.in-Ok.is c.requires.rising c.binary_search_by_key.ensures.bound
      (c.binary_search_by_key.ensures.position group_key (answers_always _ _ _ (λ f a r g called. search rules)));
}

pub returns-in-Err : goal.returns-in-Err
returns-in-Err c = record {
  place = at_none group_key c.args.groups.now c.args.group c.in-Err.field-0 c.binary_search_by_key.result c.in-Err.is c.requires.rising c.binary_search_by_key.ensures.bound
      (c.binary_search_by_key.ensures.position group_key (answers_always _ _ _ (λ f a r g called. search rules)));
}
