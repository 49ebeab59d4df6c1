use Rattle.std.proofs.Common.{rules}
use Rattle.std.proofs.lemmas.List.Sorted.{IsNonDecreasingBy-from_sort_by_key}
use Rattle.lane_desk.specs.Turns.{turn_of}
use Rattle.lane_desk.proofs.decision.sort_by_turn.Goals as goal

pub returns-clause-turns : goal.returns-clause-turns
returns-clause-turns g c = IsNonDecreasingBy-from_sort_by_key (turn_of c.args.had.now) _ c.sort_unstable_by_key.ensures.sorted (λ a r q k. search rules)
