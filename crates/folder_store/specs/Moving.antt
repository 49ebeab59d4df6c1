-- The machine's calls by which an entry is moved: only over an empty entry that was created before,
-- at a path without an entry.
use Rattle.std.specs.Prelude.{◌⊎◌, ℕ, List, Result, Ok, Err, IsErr, MatchResult}
use Rattle.std.specs.declared.io.Error.{Error}
use Rattle.ftp_terms.specs.declared.entries.EntryKind.{EntryKind}
use Rattle.ftp_terms.specs.declared.entries.EntryKind.TheVariants.{Directory, File}
use Rattle.folder_store.specs.MachineCalls.{MachineCall}
use Rattle.folder_store.specs.MachineCalls.MachineCall.{Opens, MakesDirectory, RemovesDirectory, RemovesFile, Renames}
use Rattle.folder_store.specs.Options.{creating}

-- an empty entry of a kind was created at a path without an entry
abbrev pub Reserves : {M F D : Type 0} → (M → MachineCall F D → M → Type 0) → M → EntryKind
    → List ℕ → M → Type 0
Reserves Does old Directory place new = Does old (MakesDirectory place (Ok tt)) new
Reserves {F = F} Does old File place new =
    (file : F) × Does old (Opens creating place (Ok file)) new

-- one call tried to create it, and was refused
abbrev pub ReserveRefused : {M F D : Type 0} → (M → MachineCall F D → M → Type 0) → M → EntryKind
    → List ℕ → M → Type 0
ReserveRefused Does old Directory place new =
    (error : Error) × Does old (MakesDirectory place (Err error)) new
ReserveRefused Does old File place new =
    (error : Error) × Does old (Opens creating place (Err error)) new

-- the reserved entry of a kind was removed again, if the machine let it
abbrev pub Unreserves : {M F D : Type 0} → (M → MachineCall F D → M → Type 0) → M → EntryKind
    → List ℕ → M → Type 0
Unreserves Does old Directory place new =
    (answer : Result (Unit {0}) Error) × Does old (RemovesDirectory place answer) new
Unreserves Does old File place new =
    (answer : Result (Unit {0}) Error) × Does old (RemovesFile place answer) new

-- an entry was moved over the reserved one, or the machine refused that and this was removed again
abbrev pub Replaces : {M F D T E : Type 0} → (M → MachineCall F D → M → Type 0) → M → EntryKind
    → List ℕ → List ℕ → Result T E → M → Type 0
Replaces {M} Does old kind from to result new = MatchResult result
    (λ _. Does old (Renames from to (Ok tt)) new)
    (λ _. (error : Error) × (mid : M) × Does old (Renames from to (Err error)) mid
    × Unreserves Does mid kind to new)

-- an entry was moved to a path without an entry: an empty entry was reserved there first, and if
-- that was refused, nothing was moved
abbrev pub MovesToFree : {M F D T E : Type 0} → (M → MachineCall F D → M → Type 0) → M → EntryKind
    → List ℕ → List ℕ → Result T E → M → Type 0
MovesToFree {M} Does old kind from to result new =
    (IsErr result × ReserveRefused Does old kind to new)
    ⊎ ((mid : M) × Reserves Does old kind to mid × Replaces Does mid kind from to result new)
