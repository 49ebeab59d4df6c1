-- Laws of the tree of a sheet, in terms of the paths that the sheet mentions.
use Rattle.std.specs.Prelude.{◌≡◌, ℕ, ◌+◌, ◌<◌, ◌≤◌, Bool, true, false, ◌&&◌, nat_eq, List, [], map, filter, length, slice_index_or, Some}
use Rattle.limit_tree.specs.declared.place.NodeKind.{NodeKind}
use Rattle.limit_tree.specs.declared.place.Place.{Place}
use Rattle.limit_tree.specs.declared.place.NodeKind.TheVariants.{Branch}
use Rattle.limit_tree.specs.Sharing.{Branch as SharedBranch}
use Rattle.limit_tree.specs.Outline.{is_leaf_kind, limits}
use Rattle.sheet_text.specs.Paths.{Path, is_within, is_among, Each, NoneTwice}
use Rattle.sheet_text.specs.Forest.{AreKids, HoldsWhatIsBeneath, is_want, outline_at, paths_at}
use Rattle.sheet_text.specs.Mentions.{AreStatedOrAbove, IsBelowBranches, mentions}

-- the mentioned paths, of limited depth, each once: the root, and with each path those above it,
-- which are no wants
pub record AreMentions (kind : Path → NodeKind) (mentions : List Path) (depth : ℕ) : Type 0 where
  pub rooted : is_among mentions [] ≡ true
  pub apart : NoneTwice mentions
  pub above : (front path : Path) → is_within front path ≡ true → is_among mentions path ≡ true
      → is_among mentions front ≡ true
  pub branches : (front path : Path) → is_within front path ≡ true → length front < length path
      → is_among mentions path ≡ true → is_leaf_kind (kind front) ≡ false
  pub within : (path : Path) → is_among mentions path ≡ true → length path ≤ depth

-- the test of paths directly beneath a path
abbrev pub is_kid : Path → Path → Bool
is_kid path kid = is_within path kid && nat_eq (length kid) (length path + 1)

-- the kids of a path, in order of first mention
abbrev pub kids_in : List Path → Path → List Path
kids_in mentions path = filter (is_kid path) mentions

-- One node for each mentioned path, of the kind at that path; a branch has the limit that is stated
-- for it, and contains exactly the wants within its path. The wants' paths are in the order of the
-- leaves.
pub record IsTreeOf (kind : Path → NodeKind) (mentions : List Path) (outline : List Place)
    (paths : List Path) : Type 0 where
  pub once : NoneTwice paths
  pub all : (path : Path) → is_among paths path ≡ is_among mentions path
  pub kinds : map (λ o. o.kind) outline ≡ map kind paths
  pub branches : (k : ℕ) (b : SharedBranch) → (limits outline).branch k ≡ Some b
      → kind (slice_index_or paths k []) ≡ Branch b.limit
  pub holds : (k : ℕ) (b : SharedBranch) → (limits outline).branch k ≡ Some b → (i : ℕ)
      → i < length (filter (is_want kind) paths)
      → b.holds i ≡ is_within (slice_index_or paths k [])
      (slice_index_or (filter (is_want kind) paths) i [])

-- lines mention the root, the paths that they state, and the paths above these, each once
abbrev pub MentionedIsStatedOrAbove : Type 0
MentionedIsStatedOrAbove = (stated : List Path) → AreStatedOrAbove stated (mentions stated)

-- each node contains exactly the wants within its path, at any depth and any start
abbrev pub NodesHoldWhatIsBeneath : Type 0
NodesHoldWhatIsBeneath =
    (kind : Path → NodeKind) (kids : Path → List Path) → ((path : Path) → AreKids path (kids path))
    → (levels : ℕ) (path : Path)
    → HoldsWhatIsBeneath kind kids levels path

-- the tree over the mentioned paths has one node for each of them
abbrev pub TreeIsOfWhatIsMentioned : Type 0
TreeIsOfWhatIsMentioned =
    (kind : Path → NodeKind) (mentions : List Path) (depth : ℕ) → AreMentions kind mentions depth
    → IsTreeOf kind mentions (outline_at kind (kids_in mentions) depth [])
    (paths_at kind (kids_in mentions) depth [])

-- the same for the stated paths, if no want is above a stated path and none is too deep
abbrev pub TreeIsOfWhatIsStated : Type 0
TreeIsOfWhatIsStated =
    (kind : Path → NodeKind) (stated : List Path) (depth : ℕ)
    → Each (λ path. length path ≤ depth) stated → Each (IsBelowBranches kind) stated
    → IsTreeOf kind (mentions stated) (outline_at kind (kids_in (mentions stated)) depth [])
    (paths_at kind (kids_in (mentions stated)) depth [])
