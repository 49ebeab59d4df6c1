use Rattle.std.proofs.Common.{◌≡◌, ◌<◌, ◌≤◌, ◌⊎◌, ℕ, Some}
use Rattle.std.specs.Prelude.{slice_get}
use Rattle.round_allocator.proofs.named.mark.Given as goal

abbrev pub invariant-loop-leaf : goal.invariant-loop-leaf
invariant-loop-leaf l = record {
  marked : (i : ℕ) → l.first ≤ i → i < l.leaf → slice_get l.marks i ≡ Some (Some l.node);
  others : (i : ℕ) → (i < l.first) ⊎ (l.leaf ≤ i) → slice_get l.marks i ≡ slice_get l.fn.marks i;
}
