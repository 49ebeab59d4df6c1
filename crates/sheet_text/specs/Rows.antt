-- The kids of each place.
use Rattle.std.specs.Prelude.{◌≡◌, ℕ, ◌<◌, ◌==◌, if◌then◌else◌, List, [], ◌∷◌, length, map, take, slice_get, slice_index_or, Some, Vec}
use Rattle.sheet_text.specs.TreeLaw.{kids_in}
use Rattle.sheet_text.specs.Table.{Table, path_at, paths_in}

-- all are below a number
abbrev pub AreBelow : ℕ → List ℕ → Type 0
AreBelow count places = (k : ℕ) → k < length places → slice_index_or places k 0 < count

-- the addition of a kid to the row of a place
abbrev pub joined : ℕ → ℕ → ℕ → List ℕ
joined parent kid place = if parent == place then kid ∷ [] else []

-- a row for each place: the places of the kids among the first `n` paths, in order of first mention
pub record AreRowsTo {A : Type 0} (table : Table) (n : ℕ) (rows : Vec (Vec ℕ A) A) : Type 0 where
  pub rows_length : length rows.items ≡ length table
  pub within : (place : ℕ) (row : Vec ℕ A) → slice_get rows.items place ≡ Some row
      → AreBelow (length table) row.items
  pub rows_are : (place : ℕ) (row : Vec ℕ A) → slice_get rows.items place ≡ Some row
      → map (path_at table) row.items ≡ kids_in (take n (paths_in table)) (path_at table place)

abbrev pub AreKidRows : {A : Type 0} → Table → Vec (Vec ℕ A) A → Type 0
AreKidRows {A} table rows = AreRowsTo table (length table) rows
