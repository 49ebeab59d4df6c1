-- The places of columns in a picture, its measures, and the level of its dashed line.
use Rattle.std.specs.Prelude.{ℕ, ◌+◌, ◌*◌, nat_lt, Bool, if◌then◌else◌, List, [], ◌∷◌, ◌++◌, Option, Some, None, count_by, length, max, min}
use Rattle.std.specs.List.{fold}
use Rattle.sheet_commands.specs.declared.column.Column.{Column}
use Rattle.sheet_commands.specs.declared.column.Holder.{Holder}
use Rattle.sheet_commands.specs.declared.frame.Frame.{Frame}
use Rattle.sheet_commands.specs.declared.frame.Level.{Level}
use Rattle.sheet_commands.specs.declared.frame.Placed.{Placed}
use Rattle.sheet_commands.specs.Columns.{is_first, rank}

abbrev pub number_after : ℕ → Bool → ℕ
number_after number first = if first then number + 1 else number

-- a column after `index` others: columns are 24 wide, and each number begins 12 further right
abbrev pub placed_at : Column → ℕ → ℕ → Bool → Placed
placed_at column index number first = record {
  column = column;
  number = number;
  x = 88 + 24 * index + 12 * number;
  first = first;
}

-- columns at their places, with the rank and the number of the last
pub record Placing : Type 0 where
  pub placed : List Placed
  pub last : Option ℕ
  pub number : ℕ

abbrev pub start : Placing
start = record { placed = []; last = None; number = 0 }

-- one more column of that rank, and whether it is the first of it
abbrev pub place_as : Placing → Column → ℕ → Bool → Placing
place_as before column rank first = record {
  placed =
      before.placed
      ++ placed_at column (length before.placed) (number_after before.number first) first ∷ [];
  last = Some rank;
  number = number_after before.number first;
}

abbrev pub place : Placing → Column → Placing
place before column =
    place_as before column (rank column) (is_first before.last (rank column))

-- Columns that are sorted by rank, at their places from left to right: the limits that hold wants
-- of one user back are numbered from 1, and the wants that none holds back have the next number.
abbrev pub placed : List Column → List Placed
placed sorted = (fold place start sorted).placed

-- the lower of a level, if there is one, and the octets of wants that this limit holds back
abbrev pub lower : Option Level → ℕ → Holder → Option Level
lower None octets holder = Some (record { octets = octets; path = holder.path })
lower (Some least) octets holder =
    if nat_lt octets least.octets then Some (record { octets = octets; path = holder.path })
    else Some least

abbrev pub level_with : Option Level → ℕ → Bool → Option Holder → Option Level
level_with level octets first None = level
level_with level octets first (Some holder) =
    if first then level else lower level octets holder

-- the level after one more column, which is after one with the grant `before`
abbrev pub level_after : Option Level → ℕ → Placed → Option Level
level_after level before placed =
    level_with level (min before placed.column.grant) placed.first placed.column.holder

pub record Leveling : Type 0 where
  pub level : Option Level
  pub before : ℕ

abbrev pub level_step : Leveling → Placed → Leveling
level_step now placed = record {
  level = level_after now.level now.before placed;
  before = placed.column.grant;
}

-- The least grant of a want that a limit holds back together with another want, and that limit; the
-- first such limit from the left. Columns of one number are next to each other, so each such want
-- is the left or the right one of two that are.
abbrev pub level : List Placed → Option Level
level placed = (fold level_step (record { level = None; before = 0 }) placed).level

-- the largest grant, at least 1
abbrev pub largest : List Placed → ℕ
largest placed = fold (λ most p. max most p.column.grant) 1 placed

-- the length of the longest path of a want
abbrev pub longest : List Placed → ℕ
longest placed = fold (λ most p. max most (length p.column.path.now)) 0 placed

abbrev pub frame_of : List Placed → Frame
frame_of placed = record {
  largest = largest placed;
  longest = longest placed;
  columns = length placed;
  numbers = count_by (λ p. p.first) placed;
}
