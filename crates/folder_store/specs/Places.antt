-- The paths of a folder's entries on the machine.
use Rattle.std.specs.Prelude.{◌≡◌, ◌⊎◌, ◌++◌, List, ℕ, ℤ}
use Rattle.virtual_path.specs.Path.{Path, slashed}
use Rattle.folder_store.specs.MachinePaths.{open_text}

-- a path of the machine that leads to a path below a folder: the folder's, then `/` and each name;
-- or that of an open directory, then `/` and each name below that directory
abbrev pub LeadsTo : List ℕ → Path → List ℕ → Type 0
LeadsTo folder path place = (place ≡ folder ++ slashed path)
    ⊎ ((above below : Path) × (number : ℤ) × (path ≡ above ++ below)
    × (place ≡ open_text number ++ slashed below))
