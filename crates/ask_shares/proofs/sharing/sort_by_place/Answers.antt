use Rattle.std.proofs.Common.{rules}
use Rattle.std.proofs.lemmas.List.Sorted.{IsNonDecreasingBy-from_sort_by_key}
use Rattle.ask_shares.specs.Leaves.{share_place}
use Rattle.ask_shares.proofs.sharing.sort_by_place.Goals as goal

pub returns-clause-sorted : goal.returns-clause-sorted
returns-clause-sorted g c = IsNonDecreasingBy-from_sort_by_key share_place _ c.sort_unstable_by_key.ensures.sorted (λ a r q k. search rules)
