-- The table of the lines of a sheet, and its first fault.
use Rattle.std.specs.Prelude.{◌≡◌, ◌≢◌, ℕ, ◌+◌, nat_eq, Bool, ◌||◌, if◌then◌else◌, List, [], ◌∷◌, ◌++◌, length, map, filter, slice_index, Option, Some, None, Result, Ok, Err}
use Rattle.std.specs.Str.Lines.{lines}
use Rattle.limit_tree.specs.Outline.{is_leaf_kind}
use Rattle.sheet_text.specs.Hints.{hint_of}
use Rattle.sheet_text.specs.Paths.{Octets, Path}
use Rattle.sheet_text.specs.declared.fault.SheetFault.{SheetFault}
use Rattle.sheet_text.specs.declared.fault.SheetFault.TheVariants.{BadLine, Memory}
use Rattle.sheet_text.specs.Table.{Table, fresh, taken}
use Rattle.sheet_text.specs.Mentions.{Entry}
use Rattle.sheet_text.specs.Taken.{Stated}
use Rattle.sheet_text.specs.Tree.{kind_in, node_paths}
use Rattle.sheet_text.specs.Whole.{whole_fault}
use Rattle.sheet_text.specs.Text.{entry_of}

-- an empty line, or one that begins with `#`
abbrev pub is_skipped : Octets → Bool
is_skipped line = nat_eq (length line) 0 || nat_eq (slice_index line 0) 35

-- the table after the entry of the numbered line, or the fault of a line that has none
abbrev pub entry_taken : Table → ℕ → Octets → Option Entry → Result Table SheetFault
entry_taken table number line None = Err (BadLine number (hint_of line))
entry_taken table number line (Some entry) = taken table number entry

-- the table after the numbered line, or the line's fault
abbrev pub line_taken : Table → ℕ → Octets → Result Table SheetFault
line_taken table number line =
    if is_skipped line then Ok table else entry_taken table number line (entry_of line)

abbrev pub and_then : Result Table SheetFault → (Table → Result Table SheetFault)
    → Result Table SheetFault
and_then (Ok table) next = next table
and_then (Err fault) next = Err fault

-- the table after lines numbered from this number on, or the fault of the first faulty one
abbrev pub lines_taken : Table → ℕ → List Octets → Result Table SheetFault
lines_taken table number [] = Ok table
lines_taken table number (line ∷ lines) =
    and_then (line_taken table number line) (λ next. lines_taken next (number + 1) lines)

-- the same for the lines of a text
abbrev pub text_taken : Octets → Result Table SheetFault
text_taken text = lines_taken fresh 1 (lines text)

abbrev pub stated : ℕ → Option Entry → List Stated
stated number None = []
stated number (Some entry) = record { line = number; entry = entry } ∷ []

abbrev pub line_states : ℕ → Octets → List Stated
line_states number line = if is_skipped line then [] else stated number (entry_of line)

-- the statements of lines numbered from this number on
abbrev pub statements_from : ℕ → List Octets → List Stated
statements_from number [] = []
statements_from number (line ∷ lines) =
    line_states number line ++ statements_from (number + 1) lines

-- the statements of the lines of a text
abbrev pub statements : Octets → List Stated
statements text = statements_from 1 (lines text)

abbrev pub states_want : Stated → Bool
states_want s = is_leaf_kind s.entry.kind

-- the paths of the wants, in the order of their lines
abbrev pub want_paths : List Stated → List Path
want_paths statements = map (λ s. s.entry.path) (filter states_want statements)

-- the paths of the leaves of the tree over a table, in the order of its nodes
abbrev pub leaf_paths : Table → List Path
leaf_paths table = filter (λ path. is_leaf_kind (kind_in table path)) (node_paths table)

abbrev pub fault_of : Result Table SheetFault → Option SheetFault
fault_of (Ok table) = whole_fault table
fault_of (Err fault) = Some fault

-- the fault of a text: that of its first faulty line; if no line has one, that of the whole tree
abbrev pub sheet_fault : Octets → Option SheetFault
sheet_fault text = fault_of (text_taken text)

-- the fault is that of the text's sheet, and not lack of memory
abbrev pub IsSheetFaultOf : Octets → SheetFault → Type 0
IsSheetFaultOf text fault = (fault ≢ Memory) × (sheet_fault text ≡ Some fault)
