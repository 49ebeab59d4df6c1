use Rattle.std.proofs.Common.{◌≡◌, ◌<◌, ◌≤◌, ◌⊎◌, ℕ, length}
use Rattle.std.specs.Prelude.{slice_index}
use Rattle.depth_users.proofs.owners.own.Given as goal

abbrev pub invariant-loop-leaf : goal.invariant-loop-leaf
invariant-loop-leaf l = record {
  size : length l.owners ≡ length l.fn.owners;
  mine : (i : ℕ) → l.fn.place.first ≤ i → i < l.leaf → slice_index l.owners i ≡ l.user;
  low : (i : ℕ) → i < l.fn.place.first → slice_index l.owners i ≡ slice_index l.fn.owners i;
  high : (i : ℕ) → l.leaf ≤ i → slice_index l.owners i ≡ slice_index l.fn.owners i;
}
