use Rattle.std.proofs.Common.{◌≡◌, ◌<◌, ℕ, length}
use Rattle.limit_tree.specs.Outline.{limits}
use Rattle.round_allocator.specs.Marks.{HasMark}
use Rattle.round_allocator.proofs.named.full_above.Given as goal

abbrev pub invariant-loop-node : goal.invariant-loop-node
invariant-loop-node g l = record {
  size : length l.marks.items ≡ length l.grants;
  marked : (i : ℕ) → i < length l.grants → HasMark (limits l.flat) l.grants l.node i l.marks.items;
}
