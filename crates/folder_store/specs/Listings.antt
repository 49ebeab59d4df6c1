-- The listing of a directory: the names that the machine gives, and what it shows of each. M is the
-- type of machines, F of open files, D of open directories.
use Rattle.std.specs.Prelude.{◌≡◌, ◌≢◌, ◌⊎◌, ◌++◌, ◌-◌, ℕ, ℤ, false, if◌then◌else◌, nat_eq, List, [], ◌∷◌, length, slice_get, Option, Some, None, Result, Ok, Err, IsPermutation, IsUtf8}
use Rattle.std.specs.Cmp.Lexicographic.{slice_cmp}
use Rattle.std.specs.IoError.{error_kind}
use Rattle.std.specs.List.Sorted.{IsSorted}
use Rattle.std.specs.Ordering.{nat_cmp}
use Rattle.std.specs.String.{string_bytes}
use Rattle.std.specs.declared.cmp.Ordering.TheVariants.{Less}
use Rattle.std.specs.declared.io.Error.{Error}
use Rattle.std.specs.declared.io.ErrorKind.TheVariants.{NotFound}
use Rattle.ftp_terms.specs.declared.entries.Meta.{Meta}
use Rattle.virtual_path.specs.Path.{Path, is_name}
use Rattle.virtual_tree.specs.Calls.{Entry}
use Rattle.virtual_tree.specs.declared.listed.ListedEntry.{ListedEntry}
use Rattle.folder_store.specs.Looks.{meta_of}
use Rattle.folder_store.specs.MachineCalls.{MachineCall}
use Rattle.folder_store.specs.MachineCalls.MachineCall.{Enters, LooksIn, Reads}
use Rattle.folder_store.specs.Walks.{Walker, WalksTo}
use Rattle.folder_store.specs.declared.looked.Looked.{Looked}

-- the name is greater than that of the last entry, octet by octet
abbrev pub ComesLast : {A : Type 0} → List (ListedEntry A) → List ℕ → Type 0
ComesLast {A} listed name =
    (last : ListedEntry A) → slice_get listed (length listed - 1) ≡ Some last
    → slice_cmp nat_cmp (string_bytes last.name) name ≡ Less

-- ---- the names

abbrev pub with_octet : ℕ → List (List ℕ) → List (List ℕ)
with_octet octet [] = (octet ∷ []) ∷ []
with_octet octet (name ∷ names) = (octet ∷ name) ∷ names

-- the names in a text, in which each is followed by a NUL
abbrev pub names_in : List ℕ → List (List ℕ)
names_in [] = []
names_in (octet ∷ rest) =
    if nat_eq octet 0 then [] ∷ names_in rest else with_octet octet (names_in rest)

-- those texts that are UTF-8, as each name of a path is
abbrev pub AreThoseInUtf8 : List (List ℕ) → List (List ℕ) → Type 0
AreThoseInUtf8 [] names = names ≡ []
AreThoseInUtf8 (text ∷ texts) names =
    (IsUtf8 text × ((rest : List (List ℕ)) × (names ≡ text ∷ rest) × AreThoseInUtf8 texts rest))
    ⊎ ((IsUtf8 text → ⊥) × AreThoseInUtf8 texts names)

-- a name is added to those before if it is UTF-8
abbrev pub AddsName : List ℕ → List (List ℕ) → List (List ℕ) → Type 0
AddsName name old new =
    (IsUtf8 name × (new ≡ old ++ name ∷ [])) ⊎ ((IsUtf8 name → ⊥) × (new ≡ old))

-- The names in an open directory are read to the end, which is a read of no octets, and added to
-- those before; the texts are what was read.
abbrev pub ReadsNames : {M F D : Type 0} → (M → MachineCall F D → M → Type 0) → M → D
    → List (List ℕ) → List (List ℕ) → List (List ℕ) → M → Type 0
ReadsNames Does old directory [] before names new =
    Does old (Reads directory (Ok [])) new × (names ≡ before)
ReadsNames {M} Does old directory (text ∷ texts) before names new = (more : List (List ℕ))
    × (mid : M) × Does old (Reads directory (Ok text)) mid × AreThoseInUtf8 (names_in text) more
    × ReadsNames Does mid directory texts (before ++ more) names new

-- all names in an open directory, in the order of their octets
abbrev pub ReadsSorted : {M F D : Type 0} → (M → MachineCall F D → M → Type 0) → M → D
    → List (List ℕ) → M → Type 0
ReadsSorted Does old directory names new = (texts given : List (List ℕ))
    × ReadsNames Does old directory texts [] given new × IsPermutation given names
    × IsSorted (slice_cmp nat_cmp) names

-- ---- the entries

-- the last entry has the name or a greater one: since the names are sorted, it was listed before
abbrev pub IsListedBefore : List Entry → List ℕ → Type 0
IsListedBefore listed name = (last : Entry)
    × (slice_get listed (length listed - 1) ≡ Some last) × (slice_cmp nat_cmp last.0 name ≢ Less)

-- the machine shows this metadata of an entry
abbrev pub IsShown : Result Looked Error → Meta → Type 0
IsShown answer meta = (looked : Looked) × (answer ≡ Ok looked) × (meta_of looked ≡ Some meta)

-- the machine shows none: it is neither a directory nor a file, or it is gone by now
abbrev pub IsUnshown : Result Looked Error → Type 0
IsUnshown answer = ((looked : Looked) × (answer ≡ Ok looked) × (meta_of looked ≡ None))
    ⊎ ((error : Error) × (answer ≡ Err error) × (error_kind error ≡ NotFound))

-- The entry with a name in an open directory is examined and found, with what the machine shows of
-- it; or nothing is shown of it, or no path may have its name, and it is not examined.
abbrev pub ShowsEntry : {M F D : Type 0} → (M → MachineCall F D → M → Type 0) → M → D → List ℕ
    → Option Entry → M → Type 0
ShowsEntry Does old directory name (Some entry) new = (entry.0 ≡ name)
    × ((answer : Result Looked Error) × Does old (LooksIn directory name answer) new
    × IsShown answer entry.1)
ShowsEntry Does old directory name None new = ((is_name name ≡ false) × (new ≡ old))
    ⊎ ((answer : Result Looked Error) × Does old (LooksIn directory name answer) new
    × IsUnshown answer)

abbrev pub and_found : List Entry → Option Entry → List Entry
and_found listed None = listed
and_found listed (Some entry) = listed ++ entry ∷ []

-- of each name that was not listed before, what is found is listed after the entries before
abbrev pub ListsNames : {M F D : Type 0} → (M → MachineCall F D → M → Type 0) → M → D
    → List (List ℕ) → List Entry → List Entry → M → Type 0
ListsNames Does old directory [] listed entries new = (entries ≡ listed) × (new ≡ old)
ListsNames {M} Does old directory (name ∷ names) listed entries new =
    (IsListedBefore listed name × ListsNames Does old directory names listed entries new)
    ⊎ ((found : Option Entry) × (mid : M) × ShowsEntry Does old directory name found mid
    × ListsNames Does mid directory names (and_found listed found) entries new)

-- ---- the directory

-- the place by which a directory is opened: a link may lead to the folder itself, and a slash after
-- its path lets the machine follow that
abbrev pub entrance : Path → List ℕ → List ℕ
entrance [] place = place ++ 47 ∷ []
entrance (name ∷ names) place = place

-- The entries at a path below a folder: the walk there, and the directory, opened through no link;
-- its names, read to the end; and what the machine shows of each in that very directory.
abbrev pub ListsDirectory : {M F D : Type 0} → (M → MachineCall F D → M → Type 0) → (D → Option ℤ)
    → Walker M → List ℕ → Path → List Entry → Walker M → Type 0
ListsDirectory {M} {D = D} Does number old folder path entries new = (place : List ℕ)
    × (directory : D) × (names : List (List ℕ)) × (there : Walker M) × (opened read : M)
    × WalksTo Does number old folder path place there
    × Does there.machine (Enters (entrance path place) (Ok directory)) opened
    × ReadsSorted Does opened directory names read
    × ListsNames Does read directory names [] entries new.machine
    × (new.numbered ≡ there.numbered)
