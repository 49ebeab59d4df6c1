-- The machine's calls on files, with their results, one after another.
use Rattle.std.specs.Prelude.{ℕ, ◌≡◌, List, [], ◌∷◌, Result, Ok, Err, take}
use Rattle.std.specs.declared.fs.options.OpenOptions.{OpenOptions}
use Rattle.std.specs.declared.io.Error.{Error}
use Rattle.folder_store.specs.declared.looked.Looked.{Looked}

-- one call: F is the type of open files, and D that of open directories
pub data MachineCall (F D : Type 0) : Type 0 where
  -- a file was opened by these options
  Opens : OpenOptions → List ℕ → Result F Error → MachineCall F D
  -- a directory was opened, through no link at the end of its path
  Enters : List ℕ → Result D Error → MachineCall F D
  -- an entry was examined, through no link at the end of its path
  Looks : List ℕ → Result Looked Error → MachineCall F D
  -- the entry with a name in an open directory was examined; a link was not followed
  LooksIn : D → List ℕ → Result Looked Error → MachineCall F D
  -- an entry was examined, through links
  Follows : List ℕ → Result Looked Error → MachineCall F D
  -- an open file was examined
  Examines : F → Result Looked Error → MachineCall F D
  -- names in an open directory were read, each followed by a NUL
  Reads : D → Result (List ℕ) Error → MachineCall F D
  -- a file was cut to this length
  Cuts : F → ℕ → Result (Unit {0}) Error → MachineCall F D
  -- the next read or write of a file was moved to this offset
  Goes : F → ℕ → Result F Error → MachineCall F D
  -- the octets of a file were written to the device
  Syncs : F → Result (Unit {0}) Error → MachineCall F D
  -- a file was closed
  Closes : F → Result (Unit {0}) Error → MachineCall F D
  MakesDirectory : List ℕ → Result (Unit {0}) Error → MachineCall F D
  RemovesDirectory : List ℕ → Result (Unit {0}) Error → MachineCall F D
  RemovesFile : List ℕ → Result (Unit {0}) Error → MachineCall F D
  Renames : List ℕ → List ℕ → Result (Unit {0}) Error → MachineCall F D

-- exactly these calls, one after another
abbrev pub Makes : {M F D : Type 0} → (M → MachineCall F D → M → Type 0) → M
    → List (MachineCall F D) → M → Type 0
Makes Does old [] new = new ≡ old
Makes {M} Does old (call ∷ calls) new = (mid : M) × Does old call mid × Makes Does mid calls new

-- the names that a read put at the front of a buffer
abbrev pub names_read : List ℕ → Result ℕ Error → Result (List ℕ) Error
names_read buffer (Ok count) = Ok (take count buffer)
names_read buffer (Err error) = Err error
