-- The contents of a store in memory: a finite map from paths to directories and files.
use Rattle.std.specs.Prelude.{ℕ, ◌/◌, Bool, false, cond, List, [], ◌∷◌, ◌++◌, map, length, take, drop, Option, Some, None, filter, sum_by}
use Rattle.std.specs.Ordering.{nat_cmp, then_cmp, on, eq_by_cmp}
use Rattle.std.specs.Cmp.Lexicographic.{slice_cmp}
use Rattle.std.specs.declared.cmp.Ordering.{Ordering}
use Rattle.std.specs.FinMap.{FinMap, get, entries, values, from_entries}
use Rattle.ftp_terms.specs.Entries as terms
use Rattle.ftp_terms.specs.declared.entries.Meta.{Meta}
use Rattle.ftp_terms.specs.declared.entries.EntryKind.{EntryKind}
use Rattle.ftp_terms.specs.declared.entries.EntryKind.TheVariants as kind
use Rattle.virtual_path.specs.Path.{Path, parent_of, is_name}

-- a directory, or a file: its octets, and its modification time in milliseconds since 1970
pub data Node : Type 0 where
  Directory : Node
  File : List ℕ → ℕ → Node

-- compares paths name by name, and names by their octets
abbrev pub names_cmp : Path → Path → Ordering
names_cmp = slice_cmp (slice_cmp nat_cmp)

-- compares the directories first, so that a directory's entries are adjacent, in the order of their
-- names
abbrev pub path_cmp : Path → Path → Ordering
path_cmp = then_cmp (on parent_of names_cmp) names_cmp

-- the entry at each path; the root is always a directory and is not an entry
abbrev pub Tree : Type 0
Tree = FinMap path_cmp Node

-- the path of an entry: any path but the root
abbrev pub PathKey : Type 0
PathKey = Path

abbrev pub key_of : Path → Option PathKey
key_of [] = None
key_of (name ∷ names) = Some (name ∷ names)

abbrev pub node_in : Tree → Option PathKey → Option Node
node_in tree None = Some Directory
node_in tree (Some key) = get tree key

-- the node at a path, if there is one
abbrev pub node_at : Tree → Path → Option Node
node_at tree path = node_in tree (key_of path)

-- the metadata of a directory, or of a file, whose time is in whole seconds
abbrev pub meta_of : Node → Meta
meta_of Directory = terms.entry_meta kind.Directory 0 0
meta_of (File octets moment) = terms.entry_meta kind.File (length octets) (moment / 1000)

abbrev pub kind_of : Node → EntryKind
kind_of Directory = kind.Directory
kind_of (File octets moment) = kind.File

-- a file's octets
abbrev pub octets_of : Node → Option (List ℕ)
octets_of Directory = None
octets_of (File octets moment) = Some octets

-- number of octets in a node
abbrev pub size_of : Node → ℕ
size_of Directory = 0
size_of (File octets moment) = length octets

-- number of octets at a path; 0 if there is no entry
abbrev pub size_at : Option Node → ℕ
size_at None = 0
size_at (Some node) = size_of node

-- number of octets in all files
abbrev pub total : Tree → ℕ
total tree = sum_by size_of (values tree)

abbrev pub is_same : Path → Path → Bool
is_same = eq_by_cmp names_cmp

-- the path is that of an entry of this directory
abbrev pub is_in : Path → Path → Bool
is_in directory [] = false
is_in directory (name ∷ names) = is_same directory (parent_of (name ∷ names))

abbrev pub children_in : Tree → Path → List (PathKey × Node)
children_in tree directory = filter (λ entry. is_in directory entry.0) (entries tree)

abbrev pub last_of : Path → List ℕ
last_of [] = []
last_of (name ∷ []) = name
last_of (name ∷ next ∷ names) = last_of (next ∷ names)

-- an entry of a directory as listed: its name there, and its metadata
abbrev pub reported_of : PathKey × Node → List ℕ × Meta
reported_of entry = (last_of entry.0, meta_of entry.1)

-- only names that a path can contain are listed
abbrev pub is_named : PathKey × Node → Bool
is_named entry = is_name (last_of entry.0)

-- a directory's entries, sorted by the octets of their names
abbrev pub listing : Tree → Path → List (List ℕ × Meta)
listing tree directory = map reported_of (filter is_named (children_in tree directory))

-- a path is this one or beneath it
abbrev pub begins_with : Path → Path → Bool
begins_with front path = is_same (take (length front) path) front

-- the path of an entry after a rename: the renamed entry is at its new path, and what was beneath
-- it is beneath that
abbrev pub moved : Path → Path → PathKey → PathKey
moved from to path = cond (begins_with from path) (to ++ drop (length from) path) path

abbrev pub moved_entry : Path → Path → PathKey × Node → PathKey × Node
moved_entry from to entry = (moved from to entry.0, entry.1)

abbrev pub renamed : Tree → Path → Path → Tree
renamed tree from to = from_entries (map (moved_entry from to) (entries tree))
