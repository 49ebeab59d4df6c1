use Rattle.std.proofs.Common.{IsPermutation, List, ℕ, map, subst}
use Rattle.std.proofs.lemmas.List.Sorted.{IsPermutation-map}
use Rattle.config_change.specs.Past.{named_item}
use Rattle.machine_parts.proofs.known.Known.of.Goals as goal

pub returns-clause-names : goal.returns-clause-names
returns-clause-names c =
    let known = c.sort_unstable_by_key.new.self.items in
    subst (λ (names : List (List ℕ × ℕ)). IsPermutation names (map named_item known)) c.in_ok-numbered.ensures.known
    (IsPermutation-map named_item c.in_ok-numbered.numbered.items known c.sort_unstable_by_key.ensures.permutation)
