-- The picture of a sheet.
use Rattle.std.specs.Prelude.{◌≡◌, ℕ, List, [], Option, Some, None, map}
use Rattle.limit_tree.specs.Sharing.{IsWithin, IsBackedBy, IsBest}
use Rattle.limit_tree.specs.Outline.{limits}
use Rattle.depth_users.specs.Owners.{AreOwners}
use Rattle.depth_users.specs.Shared.{IsSharedAt}
use Rattle.round_allocator.specs.Rounds.{IsExhausted, IsNamed}
use Rattle.sheet_text.specs.Views.{SheetValue, IsSheetOf}
use Rattle.sheet_commands.specs.declared.column.Column.{Column}
use Rattle.sheet_commands.specs.Columns.{IsOrdered, column_at, seen}
use Rattle.sheet_commands.specs.Frames.{placed}
use Rattle.sheet_commands.specs.Svg.{picture_text}

-- the picture of columns, sorted by their users and by what holds them back
abbrev pub IsDrawn : List Column → List ℕ → Type 0
IsDrawn columns printed =
    (sorted : List Column) × IsOrdered columns sorted × (printed ≡ picture_text (placed sorted))

-- The picture of a text's sheet, for grants that are within its limits and best: a column for each
-- want. The entry of each leaf that has less than it wants is the deepest full branch above it,
-- which backs it; the others name none.
pub record IsPictureOf (text printed : List ℕ) : Type 0 where
  pub sheet : SheetValue
  pub grants : List ℕ
  pub entries : List (Option ℕ)
  pub columns : List Column
  pub is_sheet : IsSheetOf text sheet
  pub within : IsWithin (limits sheet.outline) grants
  pub exhausted : IsExhausted (limits sheet.outline) grants
  pub named : IsNamed (limits sheet.outline) grants entries
  pub backed : IsBackedBy (limits sheet.outline) grants entries
  pub best : IsBest (limits sheet.outline) grants
  pub has : map seen columns ≡ map (column_at sheet [] grants entries) sheet.wants
  pub drawn : IsDrawn columns printed

-- The picture of a text's sheet, for grants that are within its limits, best among the users of a
-- depth, and then among the leaves of each: a column for each want, with its user. The entry of
-- each leaf that has less than it wants is the deepest full branch above it, which backs it among
-- users; the others name none.
pub record IsUserPictureOf (depth : ℕ) (text printed : List ℕ) : Type 0 where
  pub sheet : SheetValue
  pub owners : List ℕ
  pub grants : List ℕ
  pub entries : List (Option ℕ)
  pub columns : List Column
  pub is_sheet : IsSheetOf text sheet
  pub are_owners : AreOwners sheet.outline depth owners
  pub shared : IsSharedAt sheet.outline depth grants entries
  pub named : IsNamed (limits sheet.outline) grants entries
  pub has : map seen columns ≡ map (column_at sheet owners grants entries) sheet.wants
  pub drawn : IsDrawn columns printed

-- the picture of a text's sheet among the users of a depth, or without users
abbrev pub IsPictureBy : Option ℕ → List ℕ → List ℕ → Type 0
IsPictureBy None text printed = IsPictureOf text printed
IsPictureBy (Some depth) text printed = IsUserPictureOf depth text printed
