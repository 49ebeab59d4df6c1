use Rattle.std.proofs.Common.{◌≡◌, ◌+◌, ◌-◌, ◌≤◌, ℕ, length}
use Rattle.limit_tree.specs.Flat.{taken_in, IsRow}
use Rattle.limit_tree.proofs.flat.+absorb_row.Given as goal

abbrev pub decreases-absorb_row : goal.decreases-absorb_row
decreases-absorb_row l = length l.places.now - l.first

abbrev pub invariant-loop-tree : goal.invariant-loop-tree
invariant-loop-tree l = record {
  past : l.fn.first ≤ l.node;
  row : (begin : ℕ) × (last : ℕ) × IsRow l.places l.node begin (l.fn.trees - l._tree) last l.fn.past;
  value : l.total + taken_in l.level l.places l.node (l.fn.trees - l._tree) ≡ taken_in l.level l.places l.fn.first l.fn.trees;
}
