-- The grants of a grants file for the wants of a sheet, and its first fault.
use Rattle.std.specs.Prelude.{ℕ, ◌+◌, nat_eq, Bool, false, not, if◌then◌else◌, List, [], ◌∷◌, length, map, filter_map, flat_map, slice_get, slice_index_or, Option, Some, None}
use Rattle.std.specs.List.{position_from, range_with_len}
use Rattle.std.specs.Option.{option_map, option_and_then, option_to_list, is_none}
use Rattle.std.specs.Str.Lines.{lines}
use Rattle.limit_tree.specs.Faults.{or_else}
use Rattle.sheet_commands.specs.declared.grants_fault.GrantsFault.{GrantsFault}
use Rattle.sheet_commands.specs.declared.grants_fault.GrantsFault.TheVariants.{BadLine, WrongPath, NoSuchNode}
use Rattle.sheet_text.specs.Hints.{hint_of}
use Rattle.sheet_text.specs.Paths.{Octets, Path, place_of, same_path}
use Rattle.sheet_text.specs.Text.{GrantLine, grant_of}
use Rattle.sheet_text.specs.Sheet.{is_skipped}
use Rattle.sheet_text.specs.Views.{SheetValue}

-- the path of a want, by its place in the order of the sheet's lines
abbrev pub want_path : SheetValue → ℕ → Option Path
want_path sheet place =
    option_map (λ leaf. slice_index_or sheet.leaves leaf []) (slice_get sheet.wants place)

abbrev pub is_path : Option Path → Path → Bool
is_path None path = false
is_path (Some wanted) path = same_path wanted path

-- the number of the named node, if any
abbrev pub named_node : SheetValue → Option Path → Option ℕ
named_node sheet name = option_and_then (place_of sheet.paths) name

-- the named node is not in the sheet
abbrev pub names_no_node : SheetValue → Option Path → Bool
names_no_node sheet None = false
names_no_node sheet (Some path) = is_none (place_of sheet.paths path)

-- the fault of a line for the want at a place
abbrev pub grant_fault : SheetValue → ℕ → ℕ → GrantLine → Option GrantsFault
grant_fault sheet place number line =
    if not (is_path (want_path sheet place) line.path) then Some (WrongPath number)
    else if names_no_node sheet line.node then Some (NoSuchNode number)
    else None

abbrev pub read_grant_fault : SheetValue → ℕ → ℕ → Octets → Option GrantLine → Option GrantsFault
read_grant_fault sheet place number text None = Some (BadLine number (hint_of text))
read_grant_fault sheet place number text (Some line) = grant_fault sheet place number line

abbrev pub grants_line_fault : SheetValue → ℕ → ℕ → Octets → Option GrantsFault
grants_line_fault sheet place number line =
    if is_skipped line then None else read_grant_fault sheet place number line (grant_of line)

abbrev pub line_grants : Octets → List GrantLine
line_grants line = if is_skipped line then [] else option_to_list (grant_of line)

-- the statements of lines, in their order
abbrev pub grant_lines : List Octets → List GrantLine
grant_lines texts = flat_map line_grants texts

-- the fault of the first faulty line of those numbered from a number on, for the wants from a place
-- on
abbrev pub first_grants_fault : SheetValue → ℕ → ℕ → List Octets → Option GrantsFault
first_grants_fault sheet place number [] = None
first_grants_fault sheet place number (line ∷ lines) =
    or_else (grants_line_fault sheet place number line)
    (first_grants_fault sheet (place + length (line_grants line)) (number + 1) lines)

abbrev pub grants_fault : SheetValue → Octets → Option GrantsFault
grants_fault sheet text = first_grants_fault sheet 0 1 (lines text)

-- the line for a leaf: the lines are in the order of the wants
abbrev pub line_of_leaf : SheetValue → List GrantLine → ℕ → Option GrantLine
line_of_leaf sheet given leaf =
    option_and_then (slice_get given) (position_from (nat_eq leaf) 0 sheet.wants)

-- the lines in the order of the leaves; a leaf without a line is left out, so fewer lines make a
-- short list
abbrev pub lines_by_leaf : SheetValue → List GrantLine → List GrantLine
lines_by_leaf sheet given =
    filter_map (line_of_leaf sheet given) (range_with_len 0 (length sheet.leaves))

abbrev pub grants_in : SheetValue → Octets → List ℕ
grants_in sheet text = map (λ line. line.octets) (lines_by_leaf sheet (grant_lines (lines text)))

abbrev pub entries_in : SheetValue → Octets → List (Option ℕ)
entries_in sheet text =
    map (λ line. named_node sheet line.node) (lines_by_leaf sheet (grant_lines (lines text)))
