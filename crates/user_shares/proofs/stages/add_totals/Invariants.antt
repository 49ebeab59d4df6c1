use Rattle.std.proofs.Common.{◌≡◌, ◌<◌, ℕ, length}
use Rattle.std.specs.Prelude.{slice_index}
use Rattle.limit_tree.proofs.Sums.{sum_in}
use Rattle.grant_certificate.specs.Users.{leaves_of}
use Rattle.user_shares.proofs.stages.add_totals.Given as goal

abbrev pub invariant-loop-leaf : goal.invariant-loop-leaf
invariant-loop-leaf l = record {
  size : length l.totals ≡ length l.fn.totals;
  sums : (u : ℕ) → u < length l.totals → slice_index l.totals u ≡ sum_in l.leaf (leaves_of l.owners u) (λ i. slice_index l.grants i);
}
