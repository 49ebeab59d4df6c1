-- Octets that the nodes of a tree absorb up to a level, node by node.
use Rattle.std.specs.Prelude.{◌≡◌, ℕ, zero, suc, ◌+◌, List, Option, Some, min, max, slice_get, unwrap_or}
use Rattle.std.specs.Option.{option_map}
use Rattle.limit_tree.specs.Outline.{absorbed, cut}
use Rattle.limit_tree.specs.Flat.{IsFlat}
use Rattle.limit_tree.specs.declared.place.NodeKind.TheVariants.{Branch, Leaf}
use Rattle.limit_tree.specs.declared.place.Place.{Place}

-- number of nodes in the tree below and including node `number`
abbrev pub nodes_at : List Place → ℕ → ℕ
nodes_at outline k = unwrap_or (option_map (λ p. p.nodes) (slice_get outline k)) 0

-- the sum, over `kids` trees side by side from node `first` on, of what each absorbs
abbrev pub sum_of_trees : (ℕ → ℕ) → List Place → ℕ → ℕ → ℕ
sum_of_trees taken outline at zero = 0
sum_of_trees taken outline at (suc trees) =
    taken at + sum_of_trees taken outline (at + nodes_at outline at) trees

-- Up to a level a leaf absorbs at most its want and at least its floor, and a branch what its kids
-- absorb, cut to its limit.
pub record TakesIn (level : ℕ) (outline : List Place) (taken : ℕ → ℕ) : Type 0 where
  pub leaf : (k want floor : ℕ) (p : Place) → slice_get outline k ≡ Some p
      → p.kind ≡ Leaf want floor → taken k ≡ min want (max floor level)
  pub branch : (k : ℕ) (limit : Option ℕ) (p : Place) → slice_get outline k ≡ Some p
      → p.kind ≡ Branch limit → taken k ≡ cut limit (sum_of_trees taken outline (k + 1) p.kids)

-- the octets that the nodes of a tree absorb satisfy `TakesIn`
abbrev pub AbsorbedIsTakenIn : Type 0
AbsorbedIsTakenIn =
    (outline : List Place) (level : ℕ) → IsFlat outline
    → TakesIn level outline (absorbed level outline)
