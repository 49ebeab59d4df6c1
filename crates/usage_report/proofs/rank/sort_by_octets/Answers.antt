use Rattle.std.proofs.Common.{◌≡◌, rules}
use Rattle.std.proofs.lemmas.Fn.{always_returns_same}
use Rattle.std.proofs.lemmas.List.Sorted.{IsNonDecreasingBy-from_sort_by_key}
use Rattle.usage_report.specs.Ranks.{rank}
use Rattle.usage_report.proofs.Seen.{ok_any, on_ok}
use Rattle.usage_report.proofs.rank.sort_by_octets.Goals as goal

pub returns-clause-sorted : goal.returns-clause-sorted
returns-clause-sorted c =
    on_ok c.sort_by_key.result _ _
    (λ sorted. IsNonDecreasingBy-from_sort_by_key rank _ sorted (λ a r q k. search rules))
    c.sort_by_key.ensures.sorted

pub returns-clause-ties : goal.returns-clause-ties
returns-clause-ties c =
    ok_any c.sort_by_key.result _
    (c.sort_by_key.ensures.stable rank (always_returns_same _ (λ a r. r ≡ rank a.0.now) _ (λ a r q k. search rules)))
