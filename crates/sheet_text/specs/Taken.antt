-- The table of all lines of a sheet, and the law of its tree.
use Rattle.std.specs.Prelude.{◌≡◌, ℕ, ◌≤◌, false, IfSome, List, [], ◌∷◌, length, map, slice_index_or, Some, None, Result, Ok, Err}
use Rattle.std.specs.List.{find, fold, list_any}
use Rattle.std.specs.Option.{option_map}
use Rattle.limit_tree.specs.declared.place.NodeKind.TheVariants.{Branch}
use Rattle.limit_tree.specs.declared.bounds.TheConstants.{MAX_DEPTH, MAX_LEAVES, MAX_NODES}
use Rattle.limit_tree.specs.declared.fault.TreeFault.TheVariants.{FloorsOverLimit}
use Rattle.limit_tree.specs.Faults.{first_over, kind_fault, tree_fault}
use Rattle.sheet_text.specs.Paths.{Path, same_path}
use Rattle.sheet_text.specs.Mentions.{mentions, Entry}
use Rattle.sheet_text.specs.TreeLaw.{AreMentions, IsTreeOf}
use Rattle.sheet_text.specs.declared.fault.SheetFault.{SheetFault}
use Rattle.sheet_text.specs.declared.fault.SheetFault.TheVariants.{Tree}
use Rattle.sheet_text.specs.Table.{Table, fresh, is_at, paths_in, taken, want_count}
use Rattle.sheet_text.specs.Tree.{kind_in, line_in, node_paths, outline_of}
use Rattle.sheet_text.specs.Whole.{whole_fault}

-- the statement of a numbered line
pub record Stated : Type 0 where
  pub line : ℕ
  pub entry : Entry

abbrev pub take_on : Result Table SheetFault → Stated → Result Table SheetFault
take_on (Ok table) s = taken table s.line s.entry
take_on (Err fault) s = Err fault

-- the table after lines that follow one another, or the fault of the first faulty one
abbrev pub taken_all : List Stated → Result Table SheetFault
taken_all lines = fold take_on (Ok fresh) lines

abbrev pub stated_paths : List Stated → List Path
stated_paths lines = map (λ s. s.entry.path) lines

-- each statement of a line is in the table, with the number of the line
abbrev pub AreNoted : Table → List Stated → Type 0
AreNoted table [] = Unit {0}
AreNoted table (s ∷ lines) =
    (find (is_at s.entry.path) table
    ≡ Some (record { path = s.entry.path; kind = s.entry.kind; line = Some s.line }))
    × AreNoted table lines

-- The table of lines without a fault: the root, the stated paths and the paths above these, each
-- once; their kinds as stated, and otherwise branches without a limit. Nothing is above a bound,
-- and no want is above a path.
pub record IsTaken (table : Table) (lines : List Stated) : Type 0 where
  pub paths : paths_in table ≡ mentions (stated_paths lines)
  pub noted : AreNoted table lines
  pub unstated : (path : Path) → list_any (same_path path) (stated_paths lines) ≡ false
      → kind_in table path ≡ Branch None
  pub mentions_are : AreMentions (kind_in table) (paths_in table) MAX_DEPTH
  pub sound : (path : Path) → kind_fault (kind_in table path) ≡ None
  pub few_nodes : length table ≤ MAX_NODES
  pub few_wants : want_count table ≤ MAX_LEAVES

-- the floors beneath a branch are above its limit, and the fault has the number of the line that
-- states that limit
abbrev pub IsAboveLimit : Table → SheetFault → Type 0
IsAboveLimit table fault =
    (node line : ℕ) × (fault ≡ Tree line (FloorsOverLimit node))
    × (first_over 0 (outline_of table) ≡ Some node)
    × (line_in table (slice_index_or (node_paths table) node []) ≡ Some line)

-- The tree of lines without a fault is that of their statements. The only fault that it may have is
-- that of a branch whose floors do not fit its limit, which a line states.
pub record IsTreeOfLines (table : Table) (lines : List Stated) : Type 0 where
  pub taken_is : IsTaken table lines
  pub tree : IsTreeOf (kind_in table) (mentions (stated_paths lines)) (outline_of table)
      (node_paths table)
  pub only_floors : tree_fault (outline_of table)
      ≡ option_map FloorsOverLimit (first_over 0 (outline_of table))
  pub over_stated : (node : ℕ) → first_over 0 (outline_of table) ≡ Some node
      → (line : ℕ) × (line_in table (slice_index_or (node_paths table) node []) ≡ Some line)
  pub whole : IfSome (whole_fault table) (IsAboveLimit table)

abbrev pub TreeIsOfLines : Type 0
TreeIsOfLines =
    (lines : List Stated) (table : Table) → taken_all lines ≡ Ok table → IsTreeOfLines table lines
