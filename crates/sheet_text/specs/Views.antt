-- The view of a sheet.
use Rattle.std.specs.Prelude.{◌≡◌, ℕ, ◌<◌, ◌≤◌, List, length, map, Some, None, Ok, nat_eq}
use Rattle.std.specs.List.{AllByRecursion, IsDistinct}
use Rattle.limit_tree.specs.declared.place.Place.{Place}
use Rattle.limit_tree.specs.declared.bounds.TheConstants.{MAX_LEAVES}
use Rattle.limit_tree.specs.Outline.{limits}
use Rattle.sheet_text.specs.Paths.{Octets, Path, place_of}
use Rattle.sheet_text.specs.Table.{Table}
use Rattle.sheet_text.specs.Tree.{node_paths, outline_of}
use Rattle.sheet_text.specs.Whole.{whole_fault}
use Rattle.sheet_text.specs.Sheet.{leaf_paths, statements, text_taken, want_paths}

-- the nodes of the tree in preorder, their paths, the paths of the leaves, and the leaf numbers of
-- the wants in the order of their lines
pub record SheetValue : Type 0 where
  pub outline : List Place
  pub paths : List Path
  pub leaves : List Path
  pub wants : List ℕ

-- a path for each node and leaf, and a leaf for each want
pub record IsSheet (sheet : SheetValue) : Type 0 where
  pub paths_are : length sheet.paths ≡ length sheet.outline
  pub leaves_are : length sheet.leaves ≡ length (limits sheet.outline).wants
  pub wants_are : AllByRecursion (λ leaf. leaf < length sheet.leaves) sheet.wants
  pub few : length sheet.wants ≤ MAX_LEAVES
  pub apart : IsDistinct nat_eq sheet.wants

-- the sheet of a text without a fault: the tree over the table of its lines
pub record IsSheetOf (text : Octets) (sheet : SheetValue) : Type 0 where
  pub table : Table
  pub taken_is : text_taken text ≡ Ok table
  pub sound : whole_fault table ≡ None
  pub outline_is : sheet.outline ≡ outline_of table
  pub paths_are : sheet.paths ≡ node_paths table
  pub leaves_are : sheet.leaves ≡ leaf_paths table
  pub wants_are : map Some sheet.wants ≡ map (place_of sheet.leaves) (want_paths (statements text))
