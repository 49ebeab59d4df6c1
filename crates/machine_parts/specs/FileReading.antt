-- A file of the machine that is read whole: the calls that were made, one after another, and what
-- is said of a file that cannot be had.
use Rattle.std.specs.Prelude.{◌≡◌, ◌≢◌, ◌⊎◌, ◌<◌, ℕ, Bool, true, false, List, [], ◌∷◌, Option, Some, None, IfSome, Ok, Err, codes, length}
use Rattle.std.specs.declared.io.Error.{Error}
use Rattle.folder_store.specs.MachineCalls.{MachineCall, Makes}
use Rattle.folder_store.specs.MachineCalls.MachineCall.{Opens, Follows, Examines, RemovesFile}
use Rattle.folder_store.specs.Options.{reading}
use Rattle.folder_store.specs.declared.looked.Looked.{Looked}
use Rattle.folder_store.specs.declared.looked.LookedKind.TheVariants.{File}
use Rattle.text_io.specs.Texts.{IsTextOf}
use Rattle.text_io.specs.declared.read.TheConstants.{MAX_TEXT}
use Rattle.machine_parts.specs.Reasons.{BeginsWith, SaysUnremoved}

-- the regular file that was found at a path was opened to read, and is a regular file still
abbrev pub OpensFile : {M F D : Type 0} → (M → MachineCall F D → M → Type 0) → M → List ℕ → F → M
    → Type 0
OpensFile Does old path file new =
    (looked opened : Looked) × (looked.kind ≡ File) × (opened.kind ≡ File) × Makes Does old
    (Follows path (Ok looked) ∷ Opens reading path (Ok file) ∷ Examines file (Ok opened) ∷ []) new

-- something else was found at the path, which was not opened; or it was opened in the file's place
abbrev pub FindsNoFile : {M F D : Type 0} → (M → MachineCall F D → M → Type 0) → M → List ℕ → M
    → Type 0
FindsNoFile {F = F} Does old path new =
    ((looked : Looked) × (looked.kind ≢ File) × Makes Does old (Follows path (Ok looked) ∷ []) new)
    ⊎ ((looked opened : Looked) × (file : F) × (opened.kind ≢ File) × Makes Does old
    (Follows path (Ok looked) ∷ Opens reading path (Ok file) ∷ Examines file (Ok opened) ∷ []) new)

-- the machine refused a call with this error, and no other call followed
abbrev pub RefusesFile : {M F D : Type 0} → (M → MachineCall F D → M → Type 0) → M → List ℕ
    → Error → M → Type 0
RefusesFile {F = F} Does old path error new =
    Makes Does old (Follows path (Err error) ∷ []) new
    ⊎ ((looked : Looked) × Makes Does old
    (Follows path (Ok looked) ∷ Opens reading path (Err error) ∷ []) new)
    ⊎ ((looked : Looked) × (file : F) × Makes Does old
    (Follows path (Ok looked) ∷ Opens reading path (Ok file) ∷ Examines file (Err error) ∷ []) new)

-- the octets are all that the file at the path has
abbrev pub HasOctets : {M F D : Type 0} → (M → MachineCall F D → M → Type 0)
    → (F → Option (List ℕ)) → M → List ℕ → List ℕ → M → Type 0
HasOctets {F = F} Does remaining old path octets new =
    (file : F) × OpensFile Does old path file new × IsTextOf octets (remaining file)

-- the words for a file with these octets that is not read: a read failed, or it is too long
abbrev pub IsUnreadFor : Option (List ℕ) → List ℕ → Type 0
IsUnreadFor octets words =
    (words ≡ codes "ReadFault")
    ⊎ ((words ≡ codes "TooLong") × IfSome octets (λ known. MAX_TEXT < length known))

-- The words for a file that is not read begin with its path: it is no regular file; or the machine
-- refused a call; or its octets cannot be had. None for lack of memory.
abbrev pub IsUnread : {M F D : Type 0} → (M → MachineCall F D → M → Type 0)
    → (F → Option (List ℕ)) → M → List ℕ → Option (List ℕ) → M → Type 0
IsUnread Does remaining old path None new = Unit {0}
IsUnread {F = F} Does remaining old path (Some text) new =
    (FindsNoFile Does old path new
    × BeginsWith path text (λ words. words ≡ codes "is not a regular file"))
    ⊎ ((error : Error) × RefusesFile Does old path error new
    × BeginsWith path text (λ words. Unit {0}))
    ⊎ ((file : F) × OpensFile Does old path file new
    × BeginsWith path text (λ words. IsUnreadFor (remaining file) words))

-- a file is removed once it was read, unless it is empty
abbrev pub Removes : {M F D : Type 0} → (M → MachineCall F D → M → Type 0) → M → List ℕ → List ℕ
    → M → Type 0
Removes Does old path [] new = new ≡ old
Removes Does old path (octet ∷ octets) new = Does old (RemovesFile path (Ok tt)) new

-- the machine refused to remove it, and the words say so; none for lack of memory
abbrev pub IsNotRemoved : {M F D : Type 0} → (M → MachineCall F D → M → Type 0) → M → List ℕ
    → Option (List ℕ) → M → Type 0
IsNotRemoved Does old path words new =
    (error : Error) × Does old (RemovesFile path (Err error)) new
    × IfSome words (λ text. SaysUnremoved path text)

-- the octets are those of the file, which is removed after it was read if it is to be
abbrev pub ReadsOnce : {M F D : Type 0} → (M → MachineCall F D → M → Type 0)
    → (F → Option (List ℕ)) → Bool → M → List ℕ → List ℕ → M → Type 0
ReadsOnce Does remaining false old path octets new = HasOctets Does remaining old path octets new
ReadsOnce {M} Does remaining true old path octets new =
    (mid : M) × HasOctets Does remaining old path octets mid × Removes Does mid path octets new

-- the file cannot be read; or it was read, is to be removed, and cannot
abbrev pub IsNotHad : {M F D : Type 0} → (M → MachineCall F D → M → Type 0)
    → (F → Option (List ℕ)) → Bool → M → List ℕ → Option (List ℕ) → M → Type 0
IsNotHad {M} Does remaining removes old path words new =
    IsUnread Does remaining old path words new
    ⊎ ((removes ≡ true) × ((octets : List ℕ) × (mid : M)
    × HasOctets Does remaining old path octets mid × IsNotRemoved Does mid path words new))
