-- The tree over paths, and the wants of its branches.
use Rattle.std.specs.Prelude.{◌≡◌, ℕ, zero, suc, ◌+◌, ◌<◌, ◌≤◌, Bool, true, List, [], ◌∷◌, map, filter, flat_map, length, slice_index_or}
use Rattle.limit_tree.specs.declared.place.NodeKind.{NodeKind}
use Rattle.limit_tree.specs.declared.place.NodeKind.TheVariants.{Branch, Leaf}
use Rattle.limit_tree.specs.declared.place.Place.{Place}
use Rattle.limit_tree.specs.Outline.{is_leaf_kind, leaf_alone, branch_over, beside, deeper, leaf_range}
use Rattle.sheet_text.specs.Paths.{Path, is_within, Each, NoneTwice}

abbrev pub tree_over : NodeKind → List (List Place) → List Place
tree_over (Leaf want floor) kids = leaf_alone want floor ∷ []
tree_over (Branch limit) kids =
    branch_over limit (length kids) (beside kids) ∷ map deeper (beside kids)

-- the kids of a path that may have some
abbrev pub kids_by : NodeKind → List Path → List Path
kids_by (Leaf want floor) kids = []
kids_by (Branch limit) kids = kids

-- the tree at a path, down to this number of levels beneath it
unfoldable pub outline_at : (Path → NodeKind) → (Path → List Path) → ℕ → Path → List Place
outline_at kind kids zero path = tree_over (kind path) []
outline_at kind kids (suc levels) path =
    tree_over (kind path) (map (outline_at kind kids levels) (kids_by (kind path) (kids path)))

-- the paths of that tree in preorder
unfoldable pub paths_at : (Path → NodeKind) → (Path → List Path) → ℕ → Path → List Path
paths_at kind kids zero path = path ∷ []
paths_at kind kids (suc levels) path =
    path ∷ flat_map (paths_at kind kids levels) (kids_by (kind path) (kids path))

-- a node contains exactly the wants whose paths are within its path
pub record IsOver (wants : List Path) (o : Place) (p : Path) : Type 0 where
  pub within : o.first + o.leaves ≤ length wants
  pub holds : (i : ℕ) → i < length wants
      → leaf_range o.first o.leaves i ≡ is_within p (slice_index_or wants i [])

-- the same for each node, with the path at its place
abbrev pub AreOver : List Path → List Place → List Path → Type 0
AreOver wants [] [] = Unit {0}
AreOver wants [] (p ∷ ps) = ⊥
AreOver wants (o ∷ os) [] = ⊥
AreOver wants (o ∷ os) (p ∷ ps) = IsOver wants o p × AreOver wants os ps

-- the kids of a path have one name more, and are apart
pub record AreKids (path : Path) (kids : List Path) : Type 0 where
  pub longer : Each (λ kid. (is_within path kid ≡ true) × (length kid ≡ length path + 1)) kids
  pub apart : NoneTwice kids

abbrev pub is_want : (Path → NodeKind) → Path → Bool
is_want kind path = is_leaf_kind (kind path)

-- the law of the tree at a path: its nodes and their paths match, and each contains the wants
-- within its path
abbrev pub HoldsWhatIsBeneath : (Path → NodeKind) → (Path → List Path) → ℕ → Path → Type 0
HoldsWhatIsBeneath kind kids levels path =
    AreOver (filter (is_want kind) (paths_at kind kids levels path))
    (outline_at kind kids levels path) (paths_at kind kids levels path)
