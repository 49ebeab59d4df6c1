use Rattle.std.proofs.Common.{rules}
use Rattle.std.proofs.lemmas.List.Sorted.{IsNonDecreasingBy-from_sort_by_key}
use Rattle.rate_plan.specs.Plan.{share_lane}
use Rattle.rate_plan.proofs.plan.sort_by_lane.Goals as goal

pub returns-clause-sorted : goal.returns-clause-sorted
returns-clause-sorted g c = IsNonDecreasingBy-from_sort_by_key share_lane _ c.sort_unstable_by_key.ensures.sorted (λ a r q k. search rules)
