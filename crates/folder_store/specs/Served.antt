-- The machine's calls of each call of a store that is not refused. M is the type of machines, F of
-- open files, D of open directories.
use Rattle.std.specs.Prelude.{◌≡◌, ◌≢◌, ℕ, ℤ, Bool, true, false, List, [], ◌∷◌, Option, Some, Ok, Err}
use Rattle.std.specs.declared.io.Error.{Error}
use Rattle.ftp_terms.specs.declared.entries.Meta.{Meta}
use Rattle.ftp_terms.specs.declared.entries.EntryKind.TheVariants as entry
use Rattle.virtual_path.specs.Path.{Path}
use Rattle.virtual_tree.specs.Calls.{Exchange}
use Rattle.virtual_tree.specs.Calls.Exchange.{Stat, Listing, OpenRead, OpenWrite, Finish, MakeDir, RemoveDir, RemoveFile, Rename}
use Rattle.counted_file.specs.Calls.{FileWithCalls, no_calls}
use Rattle.folder_store.specs.Ends.{SourceState}
use Rattle.folder_store.specs.Listings.{ListsDirectory}
use Rattle.folder_store.specs.Looks.{meta_of}
use Rattle.folder_store.specs.MachineCalls.{MachineCall}
use Rattle.folder_store.specs.MachineCalls.MachineCall.{Closes, Follows, Looks, MakesDirectory, RemovesDirectory, RemovesFile, Syncs}
use Rattle.folder_store.specs.Moving.{MovesToFree}
use Rattle.folder_store.specs.Opening.{LooksAtFile, OpensToRead, OpensToWrite}
use Rattle.folder_store.specs.Walks.{Walker, WalksTo}
use Rattle.folder_store.specs.declared.fault.MachineFault.{MachineFault}
use Rattle.folder_store.specs.declared.looked.Looked.{Looked}

-- an entry was examined, and is shown
abbrev pub ShowsMeta : {M F D : Type 0} → (M → MachineCall F D → M → Type 0) → M → List ℕ → Meta
    → M → Type 0
ShowsMeta Does old place meta new =
    (looked : Looked) × Does old (Looks place (Ok looked)) new × (meta_of looked ≡ Some meta)

-- after the walk to the place of a path, the calls `Then` were made there
abbrev pub AtPlace : {M F D : Type 0} → (M → MachineCall F D → M → Type 0) → (D → Option ℤ)
    → Walker M → List ℕ → Path → (M → List ℕ → M → Type 0) → Walker M → Type 0
AtPlace {M} Does number old folder path Then new = (place : List ℕ) × (there : Walker M)
    × WalksTo Does number old folder path place there × Then there.machine place new.machine
    × (new.numbered ≡ there.numbered)

-- the folder itself may be reached through a link; nothing else is
abbrev pub StatsEntry : {M F D : Type 0} → (M → MachineCall F D → M → Type 0) → (D → Option ℤ)
    → Walker M → List ℕ → Path → Meta → Walker M → Type 0
StatsEntry Does number old folder [] meta new = (looked : Looked)
    × Does old.machine (Follows folder (Ok looked)) new.machine × (meta_of looked ≡ Some meta)
    × (new.numbered ≡ old.numbered)
StatsEntry Does number old folder (name ∷ names) meta new =
    AtPlace Does number old folder (name ∷ names)
    (λ here place after. ShowsMeta Does here place meta after) new

-- a directory was examined, and removed
abbrev pub RemovesShown : {M F D : Type 0} → (M → MachineCall F D → M → Type 0) → M → List ℕ → M
    → Type 0
RemovesShown {M} Does old place new = (meta : Meta) × (seen : M)
    × ShowsMeta Does old place meta seen
    × (meta.kind ≢ entry.File)
    × Does seen (RemovesDirectory place (Ok tt)) new

-- a file was examined, and removed
abbrev pub RemovesThatFile : {M F D : Type 0} → (M → MachineCall F D → M → Type 0) → M → List ℕ → M
    → Type 0
RemovesThatFile {M} Does old place new = (looked : Looked) × (seen : M)
    × LooksAtFile Does old place looked seen × Does seen (RemovesFile place (Ok tt)) new

-- an entry was examined; at the new path there was none, not even a link; and it was moved there
abbrev pub RenamesEntry : {M F D : Type 0} → (M → MachineCall F D → M → Type 0) → (D → Option ℤ)
    → Walker M → List ℕ → Path → Path → Walker M → Type 0
RenamesEntry {M} Does number old folder from to new = (meta : Meta) × (place target : List ℕ)
    × (seen there : Walker M) × (error : Error) × (free : M)
    × AtPlace Does number old folder from
    (λ here at after. (at ≡ place) × ShowsMeta Does here at meta after) seen
    × WalksTo Does number seen folder to target there
    × Does there.machine (Looks target (Err error)) free
    × MovesToFree {T = Unit {0}} {E = MachineFault} Does free meta.kind place target (Ok tt)
    new.machine
    × (new.numbered ≡ there.numbered)

-- a file was closed, after its octets were written to the device if the store syncs
abbrev pub ClosesFile : {M F D : Type 0} → (M → MachineCall F D → M → Type 0) → Bool → M → F → M
    → Type 0
ClosesFile Does false old file new = Does old (Closes file (Ok tt)) new
ClosesFile {M} Does true old file new =
    (mid : M) × Does old (Syncs file (Ok tt)) mid × Does mid (Closes file (Ok tt)) new

-- the calls of the machine that a call of a store takes, if it is not refused
abbrev pub Serves : {M F D : Type 0} → (M → MachineCall F D → M → Type 0) → (D → Option ℤ)
    → Bool → Walker M → List ℕ → Exchange (SourceState F) (FileWithCalls F) → Walker M → Type 0
Serves Does number syncs old folder (Stat path (Ok meta)) new =
    StatsEntry Does number old folder path meta new
Serves Does number syncs old folder (Listing path (Ok entries)) new =
    ListsDirectory Does number old folder path entries new
Serves Does number syncs old folder (OpenRead path offset (Ok source)) new =
    (source.calls ≡ no_calls) × AtPlace Does number old folder path
    (λ here place after. OpensToRead Does here place offset source.file source.left after) new
Serves Does number syncs old folder (OpenWrite path mode moment (Ok sink)) new =
    (sink.calls ≡ no_calls) × AtPlace Does number old folder path
    (λ here place after. OpensToWrite Does mode here place sink.file after) new
Serves Does number syncs old folder (Finish sink moment (Ok done)) new =
    ClosesFile Does syncs old.machine sink.file new.machine × (new.numbered ≡ old.numbered)
Serves Does number syncs old folder (MakeDir path (Ok done)) new =
    AtPlace Does number old folder path
    (λ here place after. Does here (MakesDirectory place (Ok tt)) after) new
Serves Does number syncs old folder (RemoveDir path (Ok done)) new =
    AtPlace Does number old folder path
    (λ here place after. RemovesShown Does here place after) new
Serves Does number syncs old folder (RemoveFile path (Ok done)) new =
    AtPlace Does number old folder path
    (λ here place after. RemovesThatFile Does here place after) new
Serves Does number syncs old folder (Rename from to (Ok done)) new =
    RenamesEntry Does number old folder from to new
Serves Does number syncs old folder exchange new = Unit {0}
