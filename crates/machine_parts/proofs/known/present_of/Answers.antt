use Rattle.std.proofs.Common.{IsPermutation, List, ℕ, subst}
use Rattle.std.proofs.lemmas.List.Sorted.{IsNonDecreasingBy-from_sort}
use Rattle.machine_parts.proofs.known.present_of.Goals as goal

pub returns : goal.returns
returns c = record {
  present = record {
    numbers = subst (λ (numbers : List ℕ). IsPermutation numbers c.sort_unstable.new.self.items) c.in_ok-present.ensures.numbers c.sort_unstable.ensures.permutation;
    rising = IsNonDecreasingBy-from_sort (λ x. x) c.sort_unstable.new.self.items c.sort_unstable.ensures.sorted;
  };
}
