use Rattle.std.proofs.Common.{◌≡◌, ◌<◌, ℕ, length}
use Rattle.std.specs.Prelude.{slice_index}
use Rattle.grant_certificate.specs.Users.{total_of}
use Rattle.grant_certificate.proofs.by_users.totals_into.Given as goal

abbrev pub invariant-loop-leaf : goal.invariant-loop-leaf
invariant-loop-leaf l = record {
  size : length l.totals ≡ length l.fn.totals;
  totals : (i : ℕ) → i < l.leaf → slice_index l.totals i ≡ total_of l.owners l.grants (slice_index l.owners i);
}
