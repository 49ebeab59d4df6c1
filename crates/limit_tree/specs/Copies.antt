-- Contents of a copy of a tree's nodes.
use Rattle.std.specs.Prelude.{◌≡◌, ℕ, List, ◌++◌, length, map}
use Rattle.limit_tree.specs.Outline.{limits, moved, places}
use Rattle.limit_tree.specs.Flat.{IsFlat}
use Rattle.limit_tree.specs.declared.place.Place.{Place}
use Rattle.limit_tree.specs.declared.copy.Copying.{Copying}
use Rattle.limit_tree.specs.declared.node.Node.{Node}

-- all seen nodes are copied, with the wants and floors of their leaves
pub record AreCopied (seen outline : List Place) (wants floors : List ℕ) : Type 0 where
  pub nodes : outline ≡ seen
  pub wants_are : wants ≡ (limits seen).wants
  pub floors_are : floors ≡ (limits seen).floors

-- a copy after the nodes of a tree at a depth, with the wants and floors of its leaves, were
-- appended to it
pub record AreCopiedBehind {A B : Type 0} (depth : ℕ) (node : Node B)
    (was now : Copying A) : Type 0 where
  pub nodes : now.places.items
      ≡ was.places.items ++ map (moved depth (length was.wants.items)) (places node)
  pub wants_are : now.wants.items ≡ was.wants.items ++ (limits (places node)).wants
  pub floors_are : now.floors.items ≡ was.floors.items ++ (limits (places node)).floors

-- the nodes of a tree without a fault, and the wants and floors of its leaves
pub record IsKept (outline : List Place) (wants floors : List ℕ) : Type 0 where
  pub flat : IsFlat outline
  pub wants_are : wants ≡ (limits outline).wants
  pub floors_are : floors ≡ (limits outline).floors
