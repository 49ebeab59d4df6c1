-- Results of a search for one node.
use Rattle.std.specs.Prelude.{◌≡◌, List, slice_get}
use Rattle.limit_tree.specs.Sharing.{IsDeepestFull}
use Rattle.limit_tree.specs.Outline.{limits}
use Rattle.limit_tree.specs.declared.place.Place.{Place}
use Rattle.limit_tree.specs.declared.look.FindNode.{FindNode}
use Rattle.limit_tree.specs.declared.look.FindLeaf.{FindLeaf}
use Rattle.limit_tree.specs.declared.look.FindFull.{FindFull}

-- the node with the number sought, if it was seen
pub record SoughtNode (start : FindNode) (seen : List Place) (now : FindNode) : Type 0 where
  pub number : now.number ≡ start.number
  pub found : now.found ≡ slice_get seen start.number

-- the want and the floor of the leaf sought, if it was seen
pub record SoughtLeaf (start : FindLeaf) (seen : List Place) (now : FindLeaf) : Type 0 where
  pub leaf : now.leaf ≡ start.leaf
  pub want : now.want ≡ slice_get (limits seen).wants start.leaf
  pub floor : now.floor ≡ slice_get (limits seen).floors start.leaf

-- the last full branch above a leaf, among the nodes seen
pub record SoughtFull (start : FindFull) (seen : List Place) (now : FindFull) : Type 0 where
  pub leaf : now.leaf ≡ start.leaf
  pub grants : now.grants.now ≡ start.grants.now
  pub found : IsDeepestFull (limits seen) start.grants.now start.leaf now.found
