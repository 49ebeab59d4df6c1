-- The paths that the lines of a sheet mention, and the effect of a line.
use Rattle.std.specs.Prelude.{ℕ, nat_le, nat_lt, Bool, ◌&&◌, ◌||◌, if◌then◌else◌, List, [], ◌∷◌, ◌++◌, length, map, count_by, slice_index_or, Option, Some, None, Result, Ok, Err}
use Rattle.std.specs.List.{list_any, fold}
use Rattle.std.specs.Option.{option_map, is_some}
use Rattle.limit_tree.specs.declared.place.NodeKind.{NodeKind}
use Rattle.limit_tree.specs.declared.place.NodeKind.TheVariants.{Branch}
use Rattle.limit_tree.specs.declared.fault.TreeFault.{TreeFault}
use Rattle.limit_tree.specs.declared.fault.TreeFault.TheVariants.{TooDeep, TooManyLeaves}
use Rattle.limit_tree.specs.declared.bounds.TheConstants.{MAX_DEPTH, MAX_NODES, MAX_LEAVES}
use Rattle.limit_tree.specs.Outline.{is_leaf_kind}
use Rattle.limit_tree.specs.Faults.{kind_fault, or_else}
use Rattle.sheet_text.specs.declared.fault.SheetFault.{SheetFault}
use Rattle.sheet_text.specs.declared.fault.SheetFault.TheVariants.{Twice, LeafHasKids, Tree}
use Rattle.sheet_text.specs.Mentions.{Entry}
use Rattle.sheet_text.specs.Paths.{Path, same_path, is_among, above, way_to}

-- a mentioned path: its kind, and the line that states it, if any
pub record Mention : Type 0 where
  pub path : Path
  pub kind : NodeKind
  pub line : Option ℕ

-- the mentioned paths, in order of first mention
abbrev pub Table : Type 0
Table = List Mention

-- a branch that is only mentioned has no limit
abbrev pub unstated : Path → Mention
unstated path = record { path = path; kind = Branch None; line = None }

-- the table before the first line: the root
abbrev pub fresh : Table
fresh = unstated [] ∷ []

abbrev pub is_at : Path → Mention → Bool
is_at path m = same_path path m.path

abbrev pub paths_in : Table → List Path
paths_in table = map (λ m. m.path) table

abbrev pub mention_at : Table → ℕ → Mention
mention_at table place = slice_index_or table place (unstated [])

abbrev pub path_at : Table → ℕ → Path
path_at table place = slice_index_or (paths_in table) place []

abbrev pub is_mentioned : Table → Path → Bool
is_mentioned table path = is_among (paths_in table) path

abbrev pub has_line : Table → Path → Bool
has_line table path = list_any (λ m. is_at path m && is_some m.line) table

abbrev pub is_want : Table → Path → Bool
is_want table path = list_any (λ m. is_at path m && is_leaf_kind m.kind) table

abbrev pub want_count : Table → ℕ
want_count table = count_by (λ m. is_leaf_kind m.kind) table

abbrev pub mention : Table → Path → Table
mention table path = if is_mentioned table path then table else table ++ unstated path ∷ []

-- a path and those above it
abbrev pub mention_all : Table → Path → Table
mention_all table path = fold mention table (way_to path)

-- the statement of a numbered line about a mentioned path
abbrev pub noted_at : ℕ → Entry → Mention → Mention
noted_at line entry m =
    if is_at entry.path m then record { path = m.path; kind = entry.kind; line = Some line } else m

abbrev pub noted : ℕ → Entry → Table → Table
noted line entry table = map (noted_at line entry) table

-- the fault of a tree of this size: the nodes with a new one of this kind, and the wants without it
abbrev pub size_fault : ℕ → ℕ → NodeKind → Option TreeFault
size_fault nodes wants kind =
    if nat_lt MAX_NODES nodes || (is_leaf_kind kind && nat_le MAX_LEAVES wants)
    then Some TooManyLeaves else kind_fault kind

-- the fault of an entry that the paths before it determine
abbrev pub place_fault : Table → ℕ → Entry → Option SheetFault
place_fault table line entry =
    if has_line table entry.path then Some (Twice line)
    else if list_any (is_want table) (above entry.path)
    || (is_leaf_kind entry.kind && is_mentioned table entry.path) then Some (LeafHasKids line)
    else if nat_lt MAX_DEPTH (length entry.path) then Some (Tree line TooDeep)
    else None

abbrev pub entry_fault : Table → ℕ → Entry → Option SheetFault
entry_fault table line entry =
    or_else (place_fault table line entry)
    (option_map (Tree line)
    (size_fault (length (mention_all table entry.path)) (want_count table) entry.kind))

abbrev pub taken_unless : Option SheetFault → Table → Result Table SheetFault
taken_unless None table = Ok table
taken_unless (Some fault) table = Err fault

-- the table after a line, or the line's fault
abbrev pub taken : Table → ℕ → Entry → Result Table SheetFault
taken table line entry =
    taken_unless (entry_fault table line entry) (noted line entry (mention_all table entry.path))
