-- A walk from the root along names that are there.
use Rattle.std.specs.Prelude.{◌≡◌, ℕ, ◌<◌, ◌≤◌, Bool, false, ◌&&◌, ◌||◌, Option, Some, None, if◌then◌else◌, [], ◌∷◌, ◌++◌, drop, length, slice_index, take}
use Rattle.sheet_text.specs.Paths.{Octets, Path, names_of}
use Rattle.sheet_text.specs.Table.{Table, is_mentioned, is_want, path_at, unstated}
use Rattle.limit_tree.specs.declared.fault.TreeFault.TheVariants.{TooDeep}
use Rattle.sheet_text.specs.declared.fault.SheetFault.{SheetFault}
use Rattle.sheet_text.specs.declared.fault.SheetFault.TheVariants.{Twice, LeafHasKids, Tree}
use Rattle.sheet_text.specs.declared.walk.Walk.{Walk}

-- the end of a walk: the path that it reaches, the names after that, and whether it passed a want
pub record Walked : Type 0 where
  pub front : Path
  pub left : Path
  pub under : Bool

abbrev pub walked : Table → Path → Bool → Path → Walked
walked table front under [] = record { front = front; left = []; under = under }
walked table front under (name ∷ names) =
    if is_mentioned table (front ++ name ∷ [])
    then walked table (front ++ name ∷ []) (under || is_want table front) names
    else record { front = front; left = name ∷ names; under = under || is_want table front }

-- one path more for each name after a path
abbrev pub grown : Table → Path → Path → Table
grown table front [] = table
grown table front (name ∷ names) =
    grown (table ++ unstated (front ++ name ∷ []) ∷ []) (front ++ name ∷ []) names

-- the first names of a path's text, up to an octet, lead to the place, and after them the text ends
-- or has a slash
pub record IsStand (table : Table) (text : Octets) (place at : ℕ) : Type 0 where
  pub place_in : place < length table
  pub at_in : at ≤ length text
  pub front : path_at table place ≡ names_of (take at text)
  pub slash : at < length text → slice_index text at ≡ 47

-- the next path is not there
abbrev pub IsFresh : Table → Path → Path → Type 0
IsFresh table front [] = Unit {0}
IsFresh table front (name ∷ names) = is_mentioned table (front ++ name ∷ []) ≡ false

-- the walk along the names of a text reaches the place
pub record IsWalk (table : Table) (text : Octets) (walk : Walk) : Type 0 where
  pub stand : IsStand table text walk.place walk.at
  pub walked_is : walked table [] false (names_of text)
      ≡ record {
        front = path_at table walk.place;
        left = names_of (drop walk.at text);
        under = walk.under;
      }

-- the first fault of a path, from these facts: it is there, has a line, is beneath a want, is to be
-- a want, is too deep
abbrev pub fault_shown : ℕ → Bool → Bool → Bool → Bool → Bool → Option SheetFault
fault_shown number there has_line under leaf deep =
    if there && has_line then Some (Twice number)
    else if under || (leaf && there) then Some (LeafHasKids number)
    else if deep then Some (Tree number TooDeep)
    else None
