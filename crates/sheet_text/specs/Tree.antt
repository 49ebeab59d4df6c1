-- The tree over the paths of a table.
use Rattle.std.specs.Prelude.{ℕ, nat_eq, if◌then◌else◌, List, [], map, Option, Some, None}
use Rattle.std.specs.List.{find}
use Rattle.limit_tree.specs.declared.place.NodeKind.{NodeKind}
use Rattle.limit_tree.specs.declared.place.NodeKind.TheVariants.{Branch}
use Rattle.limit_tree.specs.declared.place.Place.{Place}
use Rattle.limit_tree.specs.declared.bounds.TheConstants.{MAX_DEPTH}
use Rattle.sheet_text.specs.Paths.{Path}
use Rattle.sheet_text.specs.Forest.{kids_by, outline_at, paths_at}
use Rattle.sheet_text.specs.TreeLaw.{kids_in}
use Rattle.sheet_text.specs.Table.{Mention, Table, is_at, path_at, paths_in}

abbrev pub kind_of : Option Mention → NodeKind
kind_of None = Branch None
kind_of (Some m) = m.kind

-- the kind of the node at a path
abbrev pub kind_in : Table → Path → NodeKind
kind_in table path = kind_of (find (is_at path) table)

abbrev pub line_of : Option Mention → Option ℕ
line_of None = None
line_of (Some m) = m.line

-- the number of the line of a path, if it has one
abbrev pub line_in : Table → Path → Option ℕ
line_in table path = line_of (find (is_at path) table)

-- the tree beneath a path, down to this number of levels
abbrev pub outline_below : Table → ℕ → Path → List Place
outline_below table levels path = outline_at (kind_in table) (kids_in (paths_in table)) levels path

-- the paths of that tree in preorder
abbrev pub paths_below : Table → ℕ → Path → List Path
paths_below table levels path = paths_at (kind_in table) (kids_in (paths_in table)) levels path

-- the whole tree, and the paths of its nodes
abbrev pub outline_of : Table → List Place
outline_of table = outline_below table MAX_DEPTH []

abbrev pub node_paths : Table → List Path
node_paths table = paths_below table MAX_DEPTH []

-- the paths of places
abbrev pub paths_to : Table → List ℕ → List Path
paths_to table places = map (path_at table) places

-- the kids of a path in a tree with this number of levels beneath it
abbrev pub kids_to : Table → ℕ → Path → List Path
kids_to table levels path =
    if nat_eq levels 0 then [] else kids_by (kind_in table path) (kids_in (paths_in table) path)
