-- The machine's calls by which a path below a folder is walked: each directory on the way is opened
-- by a call that refuses a link, from the folder down. M is the type of machines, F of open files,
-- D of open directories.
use Rattle.std.specs.Prelude.{◌≡◌, ◌⊎◌, ◌++◌, ℕ, ℤ, Bool, true, false, if◌then◌else◌, List, [], ◌∷◌, Option, Some, Ok, Err, IfSome}
use Rattle.std.specs.IoError.{error_kind}
use Rattle.std.specs.declared.io.Error.{Error}
use Rattle.std.specs.declared.io.ErrorKind.TheVariants.{PermissionDenied}
use Rattle.virtual_path.specs.Path.{Path}
use Rattle.ftp_terms.specs.declared.entries.Meta.{Meta}
use Rattle.ftp_terms.specs.declared.entries.EntryKind.TheVariants as entry
use Rattle.folder_store.specs.Looks.{IsSameEntry, meta_of}
use Rattle.folder_store.specs.MachineCalls.{MachineCall}
use Rattle.folder_store.specs.MachineCalls.MachineCall.{Enters, Follows, Looks}
use Rattle.folder_store.specs.MachinePaths.{IsOpenText, open_text}
use Rattle.folder_store.specs.declared.looked.Looked.{Looked}

-- a machine, and whether an open directory was found there by its number, under `/proc`
pub record Walker (M : Type 0) : Type 0 where
  pub machine : M
  pub numbered : Bool

abbrev pub walker : {M : Type 0} → M → Bool → Walker M
walker machine numbered = record { machine = machine; numbered = numbered }

-- the path of an open directory by its number
abbrev pub IsNumbered : {D : Type 0} → (D → Option ℤ) → D → List ℕ → Type 0
IsNumbered number directory text =
    IsOpenText text × IfSome (number directory) (λ n. text ≡ open_text n)

-- An open directory is found by the path of its number: one was found so before, or the entry there
-- is the one at the path by which it was opened. Or the machine shows nothing there.
abbrev pub FindsNumber : {M F D : Type 0} → (M → MachineCall F D → M → Type 0) → Walker M → List ℕ
    → List ℕ → Bool → Walker M → Type 0
FindsNumber {M} Does old place text true new = ((old.numbered ≡ true) × (new ≡ old))
    ⊎ ((seen named : Looked) × (mid : M) × Does old.machine (Follows text (Ok seen)) mid
    × Does mid (Looks place (Ok named)) new.machine × IsSameEntry named seen
    × (new.numbered ≡ true))
FindsNumber Does old place text false new = (error : Error)
    × Does old.machine (Follows text (Err error)) new.machine × (new.numbered ≡ old.numbered)

-- the walk goes on in an open directory: by its number if it is found so, otherwise by the path by
-- which it was opened
abbrev pub GoesInto : {M F D : Type 0} → (M → MachineCall F D → M → Type 0) → (D → Option ℤ)
    → Walker M → D → List ℕ → List ℕ → Walker M → Type 0
GoesInto Does number old directory place next new = (text : List ℕ) × (found : Bool)
    × IsNumbered number directory text × FindsNumber Does old place text found new
    × (next ≡ (if found then text else place))

-- a directory that this process may not read, and no link: the walk goes on by its path
abbrev pub PassesBy : {M F D : Type 0} → (M → MachineCall F D → M → Type 0) → Walker M → List ℕ
    → List ℕ → Walker M → Type 0
PassesBy {M} Does old place next new = (error : Error) × (looked : Looked) × (meta : Meta)
    × (mid : M) × Does old.machine (Enters place (Err error)) mid
    × (error_kind error ≡ PermissionDenied) × Does mid (Looks place (Ok looked)) new.machine
    × (meta_of looked ≡ Some meta) × (meta.kind ≡ entry.Directory) × (next ≡ place)
    × (new.numbered ≡ old.numbered)

-- one name further: the directory there was opened by a call that refuses a link
abbrev pub StepsInto : {M F D : Type 0} → (M → MachineCall F D → M → Type 0) → (D → Option ℤ)
    → Walker M → List ℕ → List ℕ → Walker M → Type 0
StepsInto {M} {D = D} Does number old place next new = ((directory : D) × (mid : M)
    × Does old.machine (Enters place (Ok directory)) mid
    × GoesInto Does number (walker mid old.numbered) directory place next new)
    ⊎ PassesBy Does old place next new

-- the names of directories, one after another, from a place on
abbrev pub Walks : {M F D : Type 0} → (M → MachineCall F D → M → Type 0) → (D → Option ℤ)
    → Walker M → List ℕ → Path → List ℕ → Walker M → Type 0
Walks Does number old place [] end new = (end ≡ place) × (new ≡ old)
Walks {M} Does number old place (name ∷ names) end new = (next : List ℕ) × (mid : Walker M)
    × StepsInto Does number old (place ++ 47 ∷ name) next mid
    × Walks Does number mid next names end new

-- the place of the entry at a path below a folder: the directories above it were walked, and its
-- own name follows, at which nothing was opened
abbrev pub WalksTo : {M F D : Type 0} → (M → MachineCall F D → M → Type 0) → (D → Option ℤ)
    → Walker M → List ℕ → Path → List ℕ → Walker M → Type 0
WalksTo Does number old folder path place new =
    ((path ≡ []) × (place ≡ folder) × (new ≡ old))
    ⊎ ((above : Path) × (last directory : List ℕ) × (path ≡ above ++ last ∷ [])
    × Walks Does number old folder above directory new × (place ≡ directory ++ 47 ∷ last))
