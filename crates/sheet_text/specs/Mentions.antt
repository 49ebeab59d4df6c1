-- The paths that the lines of a sheet mention.
use Rattle.limit_tree.specs.declared.place.NodeKind.{NodeKind}
use Rattle.limit_tree.specs.Outline.{is_leaf_kind}
use Rattle.std.specs.Prelude.{◌≡◌, ◌<◌, length, true, false, ◌||◌, if◌then◌else◌, List, [], ◌∷◌, ◌++◌}
use Rattle.std.specs.List.{fold, list_any}
use Rattle.sheet_text.specs.Paths.{Path, is_within, is_among, NoneTwice, way_to}

-- the statement of a line about a path
pub record Entry : Type 0 where
  pub path : Path
  pub kind : NodeKind

-- one path more, unless it was mentioned
abbrev pub mention : List Path → Path → List Path
mention seen path = if is_among seen path then seen else seen ++ path ∷ []

abbrev pub mention_all : List Path → Path → List Path
mention_all seen path = fold mention seen (way_to path)

-- the root, and each stated path and each path above one, in order of first mention
abbrev pub mentions : List Path → List Path
mentions stated = fold mention_all ([] ∷ []) stated

-- exactly the root, the stated paths and the paths above these, each once
pub record AreStatedOrAbove (stated seen : List Path) : Type 0 where
  pub once : NoneTwice seen
  pub all : (path : Path)
      → is_among seen path ≡ (is_within path [] || list_any (is_within path) stated)

-- no want is above a path
abbrev pub IsBelowBranches : (Path → NodeKind) → Path → Type 0
IsBelowBranches kind path =
    (front : Path) → is_within front path ≡ true → length front < length path
    → is_leaf_kind (kind front) ≡ false
