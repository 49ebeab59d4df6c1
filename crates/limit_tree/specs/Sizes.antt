-- The size of a tree.
use Rattle.std.specs.Prelude.{◌≡◌, List, length}
use Rattle.limit_tree.specs.declared.place.Place.{Place}
use Rattle.limit_tree.specs.declared.size.Size.{Size}
use Rattle.limit_tree.specs.Outline.{leaf_count, floor_sum}

-- the size is that of these nodes
pub record IsSizeOf (size : Size) (outline : List Place) : Type 0 where
  pub nodes : size.nodes ≡ length outline
  pub leaves : size.leaves ≡ leaf_count outline
  pub floors : size.floors ≡ floor_sum outline
