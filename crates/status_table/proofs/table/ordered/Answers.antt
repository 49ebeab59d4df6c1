use Rattle.std.proofs.Common.{rules, map, List, subst}
use Rattle.std.proofs.lemmas.List.Sorted.{IsNonDecreasingBy-from_sort_by_key, IsPermutation-map}
use Rattle.std.specs.Borrow.{Bor}
use Rattle.std.specs.List.Sorted.{IsPermutation}
use Rattle.server_status.specs.declared.status.TransferStatus.{TransferStatus}
use Rattle.status_table.specs.Rates.{rank}
use Rattle.status_table.proofs.table.ordered.Goals as goal

pub returns-clause-all : goal.returns-clause-all
returns-clause-all c =
    let moved = IsPermutation-map (λ (t : Bor TransferStatus). t.now) _ _ c.sort_unstable_by_key.ensures.permutation in
    subst (λ (ts : List TransferStatus). IsPermutation ts (map (λ (t : Bor TransferStatus). t.now) c.sort_unstable_by_key.new.self.items)) c.in_ok-shown.ensures.transfers moved

pub returns-clause-ordered : goal.returns-clause-ordered
returns-clause-ordered c =
    IsNonDecreasingBy-from_sort_by_key (λ (t : Bor TransferStatus). rank c.args.before c.args.now.now t.now) _ c.sort_unstable_by_key.ensures.sorted (λ a r q k. search rules)
