-- The code's view of a text that was read, and the parts of its sheet that it keeps.
use Rattle.std.specs.Prelude.{◌≡◌, ℕ, ◌<◌, ◌≤◌, nat_eq, if◌then◌else◌, List, [], ◌∷◌, length, slice_index_or, Option, None, Ok}
use Rattle.std.specs.List.{position_from}
use Rattle.limit_tree.specs.declared.place.NodeKind.{NodeKind}
use Rattle.limit_tree.specs.declared.place.Place.{Place}
use Rattle.limit_tree.specs.declared.bounds.TheConstants.{MAX_LEAVES, MAX_NODES}
use Rattle.limit_tree.specs.Outline.{is_leaf_kind, limits}
use Rattle.sheet_text.specs.Paths.{NoneTwice, Octets}
use Rattle.sheet_text.specs.Table.{Table, paths_in}
use Rattle.sheet_text.specs.Rows.{AreBelow}
use Rattle.sheet_text.specs.Tree.{node_paths, outline_of, paths_to}
use Rattle.sheet_text.specs.Whole.{whole_fault}
use Rattle.sheet_text.specs.Sheet.{statements, text_taken, want_paths}
use Rattle.sheet_text.specs.Views.{IsSheet, IsSheetOf, SheetValue}

-- the place, if it is a want
abbrev pub wanted : NodeKind → ℕ → List ℕ
wanted kind place = if is_leaf_kind kind then place ∷ [] else []

-- The lines of a text left a table, whose tree has no fault: the places of its nodes in preorder,
-- and those of the wants in the order of their lines.
pub record IsRead (text : Octets) (table : Table) (outline : List Place)
    (order places : List ℕ) : Type 0 where
  pub taken_is : text_taken text ≡ Ok table
  pub sound : whole_fault table ≡ None
  pub outline_is : outline ≡ outline_of table
  pub few_nodes : length outline ≤ MAX_NODES
  pub few_leaves : length (limits outline).wants ≤ MAX_LEAVES
  pub order_is : paths_to table order ≡ node_paths table
  pub order_below : AreBelow (length table) order
  pub places_are : paths_to table places ≡ want_paths (statements text)
  pub places_below : AreBelow (length table) places

-- the tree's nodes and leaves by place, and the number of each place's node

pub record IsKept (table : Table) (order leaves : List ℕ) (numbers : List (Option ℕ)) : Type 0 where
  pub once : NoneTwice (paths_in table)
  pub order_below : AreBelow (length table) order
  pub leaves_below : AreBelow (length table) leaves
  pub numbers_length : length numbers ≡ length table
  pub numbers_are : (place : ℕ) → place < length table
      → slice_index_or numbers place None ≡ position_from (nat_eq place) 0 order

-- the parts of a text's sheet that are kept, by the order of its nodes' places
abbrev pub kept_sheet : Table → List Place → List ℕ → List ℕ → List ℕ → SheetValue
kept_sheet table outline order leaves wants =
    record {
      outline = outline;
      paths = paths_to table order;
      leaves = paths_to table leaves;
      wants = wants;
    }

-- the leaves and the numbers of the nodes and of the wants are those of the text's sheet
pub record IsNumbered (text : Octets) (table : Table) (outline : List Place) (order leaves : List ℕ)
    (numbers : List (Option ℕ)) (wants : List ℕ) : Type 0 where
  pub sheet_of : IsSheetOf text (kept_sheet table outline order leaves wants)
  pub whole : IsSheet (kept_sheet table outline order leaves wants)
  pub kept : IsKept table order leaves numbers
