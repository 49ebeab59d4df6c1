use Rattle.std.proofs.Common.{rules}
use Rattle.std.proofs.lemmas.List.Sorted.{IsNonDecreasingBy-from_sort_by_key}
use Rattle.line_rates.specs.Stated.{group_number}
use Rattle.line_rates.proofs.rows.sort_groups.Goals as goal

pub returns-clause-sorted : goal.returns-clause-sorted
returns-clause-sorted g c = IsNonDecreasingBy-from_sort_by_key group_number _ c.sort_unstable_by_key.ensures.sorted (λ a r q k. search rules)
