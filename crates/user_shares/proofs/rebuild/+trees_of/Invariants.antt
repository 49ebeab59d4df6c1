use Rattle.std.proofs.Common.{◌≡◌, ◌+◌, ◌-◌, ◌≤◌, ◌++◌, ℕ, length, take}
use Rattle.limit_tree.specs.Flat.{IsRow, HasRow}
use Rattle.user_shares.specs.Rebuilt.{reshaped, shapes, nodes_of}
use Rattle.user_shares.proofs.rebuild.+trees_of.Given as goal

abbrev pub decreases-trees_of : goal.decreases-trees_of
decreases-trees_of g l = length l.flat.now - l.first

abbrev pub invariant-loop-tree : goal.invariant-loop-tree
invariant-loop-tree g l = record {
  past : l.fn.first ≤ l.at;
  has : HasRow l.flat l.at (l.fn.trees - l._tree);
  row : (begin last past : ℕ) → IsRow l.flat l.fn.first begin l.fn.trees last past → (now : ℕ) × IsRow l.flat l.at now (l.fn.trees - l._tree) last past;
  count : length l.built.items ≡ l._tree;
  built : take l.fn.first (reshaped l.flat l.kinds) ++ shapes (nodes_of l.built.items) ≡ take l.at (reshaped l.flat l.kinds);
}
