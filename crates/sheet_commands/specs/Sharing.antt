-- The output of a program for a sheet.
use Rattle.std.specs.Prelude.{◌≡◌, ℕ, List, [], ◌∷◌, ◌++◌, Option, Some, None, codes, slice_index, slice_index_or}
use Rattle.std.specs.List.{flat_map, sum_by}
use Rattle.std.specs.Fmt.{decimal}
use Rattle.limit_tree.specs.Sharing.{IsWithin, IsBackedBy, IsBest}
use Rattle.limit_tree.specs.Outline.{limits}
use Rattle.depth_users.specs.Shared.{IsSharedAt}
use Rattle.round_allocator.specs.Rounds.{IsExhausted, IsNamed}
use Rattle.sheet_text.specs.Paths.{text_of, written}
use Rattle.sheet_text.specs.Views.{SheetValue, IsSheetOf}
use Rattle.sheet_commands.specs.ShareLines.{total_line}

-- the words after a leaf that is not met: the branch in its entry
abbrev pub held_back : SheetValue → Option ℕ → List ℕ
held_back sheet None = []
held_back sheet (Some node) = codes " full " ++ written (slice_index_or sheet.paths node [])

-- `PATH G of W`, and after it `full NODE` if the leaf's entry names a node
abbrev pub leaf_line : SheetValue → List ℕ → List (Option ℕ) → ℕ → List ℕ
leaf_line sheet grants entries leaf =
    text_of (slice_index_or sheet.leaves leaf []) ++ codes " " ++ decimal (slice_index grants leaf)
    ++ codes " of " ++ decimal (slice_index (limits sheet.outline).wants leaf)
    ++ held_back sheet (slice_index_or entries leaf None) ++ 10 ∷ []

-- a line for each want in the order of the sheet, and last the total of their grants
abbrev pub sharing_text : SheetValue → List ℕ → List (Option ℕ) → List ℕ
sharing_text sheet grants entries =
    flat_map (leaf_line sheet grants entries) sheet.wants
    ++ total_line (sum_by (λ leaf. slice_index grants leaf) sheet.wants)

-- The lines of a text's sheet, for grants that are within its limits and best. The entry of each
-- leaf that has less than it wants is the deepest full branch above it, which backs it; the others
-- name none.
pub record IsSharingOf (text printed : List ℕ) : Type 0 where
  pub sheet : SheetValue
  pub grants : List ℕ
  pub entries : List (Option ℕ)
  pub is_sheet : IsSheetOf text sheet
  pub within : IsWithin (limits sheet.outline) grants
  pub exhausted : IsExhausted (limits sheet.outline) grants
  pub named : IsNamed (limits sheet.outline) grants entries
  pub backed : IsBackedBy (limits sheet.outline) grants entries
  pub best : IsBest (limits sheet.outline) grants
  pub prints : printed ≡ sharing_text sheet grants entries

-- The lines of a text's sheet, for grants that are within its limits, best among the users of a
-- depth, and then among the leaves of each. The entry of each leaf that has less than it wants is
-- the deepest full branch above it, which backs it among users; the others name none.
pub record IsUserSharingOf (depth : ℕ) (text printed : List ℕ) : Type 0 where
  pub sheet : SheetValue
  pub grants : List ℕ
  pub entries : List (Option ℕ)
  pub is_sheet : IsSheetOf text sheet
  pub shared : IsSharedAt sheet.outline depth grants entries
  pub named : IsNamed (limits sheet.outline) grants entries
  pub prints : printed ≡ sharing_text sheet grants entries

-- the lines of a text's sheet among the users of a depth, or without users
abbrev pub IsSharingBy : Option ℕ → List ℕ → List ℕ → Type 0
IsSharingBy None text printed = IsSharingOf text printed
IsSharingBy (Some depth) text printed = IsUserSharingOf depth text printed
