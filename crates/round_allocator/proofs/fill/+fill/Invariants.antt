use Rattle.std.proofs.Common.{◌≡◌, ◌-◌, ◌*◌, ◌≤◌, ℕ, length, take}
use Rattle.limit_tree.specs.Flat.{IsRow, HasRow}
use Rattle.round_allocator.specs.declared.level.TheConstants.{MAX_PROBES}
use Rattle.round_allocator.specs.Levels.{IsPouring, branch_count}
use Rattle.round_allocator.proofs.Ahead.{IsInTurn}
use Rattle.round_allocator.proofs.fill.+fill.Given as goal

abbrev pub decreases-fill : goal.decreases-fill
decreases-fill g l = length l.tree.now - l.first

abbrev pub invariant-loop-tree : goal.invariant-loop-tree
invariant-loop-tree g l = record {
  past : l.fn.first ≤ l.node;
  row : HasRow l.tree l.node (l.fn.trees - l._tree);
  size : length l.grants ≡ length l.fn.grants;
  spare : l.left ≤ l.fn.share.spare;
  counted : l.probes ≤ MAX_PROBES * branch_count (take l.node l.tree);
  poured : (begin last past : ℕ) → IsRow l.tree l.fn.first begin l.fn.trees last past → (now : ℕ) × IsRow l.tree l.node now (l.fn.trees - l._tree) last past × IsPouring l.tree l.fn.first l.fn.trees begin l.fn.share l.fn.grants l.node (l.fn.trees - l._tree) now l.left l.grants × IsInTurn l.tree l.grants begin now l.fn.share.level l.left;
}
