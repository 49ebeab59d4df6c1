use Rattle.std.proofs.Common.{◌≡◌, List, subst, rules}
use Rattle.std.proofs.lemmas.List.Sorted.{IsNonDecreasingBy-from_sort_by_key, answers_always}
use Rattle.std.specs.List.Sorted.{IsStableByKey}
use Rattle.std.specs.Ordering.{nat_cmp}
use Rattle.std.specs.Prelude.{IsPermutation}
use Rattle.sheet_commands.specs.Columns.{rank}
use Rattle.sheet_commands.specs.declared.column.Column.{Column}
use Rattle.sheet_commands.proofs.order.sorted_of.Goals as goal

pub returns : goal.returns
returns g c =
    let same : c.in_ok-sorted.sorted.items ≡ c.args.columns.now = c.in_ok-sorted.ensures.items in
    let sorted = c.sort_by_key.new.self.items in
    record {
      ordered = record {
        same = subst (λ (xs : List Column). IsPermutation xs sorted) same c.sort_by_key.ensures.permutation;
        ascending = IsNonDecreasingBy-from_sort_by_key (λ (x : Column). rank x) _ c.in_ok-sort_by_key.ensures.sorted (λ a r q k. search rules);
        stable = subst (λ (xs : List Column). IsStableByKey (λ (x : Column). rank x) nat_cmp xs sorted) same
            (c.sort_by_key.ensures.stable (λ (x : Column). rank x) (answers_always _ _ _ (λ f a r q k. search rules)));
      };
    }
