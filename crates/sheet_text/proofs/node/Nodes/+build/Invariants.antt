use Rattle.std.proofs.Common.{◌≡◌, ◌-◌, ◌∷◌, ◌++◌, [], map, take, length}
use Rattle.std.specs.Prelude.{flat_map}
use Rattle.limit_tree.specs.Outline.{places}
use Rattle.sheet_text.specs.Table.{path_at}
use Rattle.sheet_text.specs.Rows.{AreBelow}
use Rattle.sheet_text.specs.Tree.{outline_below, paths_below, paths_to}
use Rattle.sheet_text.proofs.node.Nodes.+build.Given as goal

abbrev pub decreases-build : goal.decreases-build
decreases-build g l = l.levels

abbrev pub invariant-loop-kid : goal.invariant-loop-kid
invariant-loop-kid g l = record {
  below : AreBelow (length l.self) l.order.items;
  built : map places l.kids.items ≡ map (λ place. outline_below l.self (l.levels - 1) (path_at l.self place)) (take l.kid-index l.below);
  order : paths_to l.self l.order.items ≡ (paths_to l.self l.fn.order.items ++ path_at l.self l.place ∷ []) ++ flat_map (λ place. paths_below l.self (l.levels - 1) (path_at l.self place)) (take l.kid-index l.below);
}
