-- A text that is written to a new file beside, which then takes the name of the file.
use Rattle.std.specs.Prelude.{◌≡◌, ℕ, true, List, [], Option, Some, None, Result, Ok, Err, string_bytes}
use Rattle.std.specs.Fs.{asks_create_new, asks_write}
use Rattle.std.specs.Io.KnownBytes.{Appends}
use Rattle.std.specs.List.{AllByRecursion}
use Rattle.std.specs.declared.fs.options.OpenOptions.{OpenOptions}
use Rattle.std.specs.declared.io.Error.{Error}
use Rattle.folder_store.specs.MachineCalls.{MachineCall, Makes}
use Rattle.folder_store.specs.MachineCalls.MachineCall.{Opens, Follows, Closes, RemovesFile, Renames}
use Rattle.folder_store.specs.declared.looked.Looked.{Looked}
use Rattle.folder_store.specs.declared.looked.LookedKind.{LookedKind}
use Rattle.machine_parts.specs.Answers.{may_be_replaced}
use Rattle.machine_parts.specs.declared.status_file.StatusFile.{StatusFile}

-- the kind of the entry of a path, by the machine's answer; none after an error
abbrev pub kind_in : Result Looked Error → Option LookedKind
kind_in (Ok looked) = Some looked.kind
kind_in (Err error) = None

-- a file is written, and only at a path without an entry, even a link
abbrev pub IsNewFile : OpenOptions → Type 0
IsNewFile how = (asks_write how ≡ true) × (asks_create_new how ≡ true)

-- the text was appended to a file, which was then closed
abbrev pub Fills : {M F D : Type 0} → (M → MachineCall F D → M → Type 0) → (F → Option (List ℕ))
    → M → F → List ℕ → M → Type 0
Fills {F = F} Does contents old file text new =
    (full : F) × Appends (contents file) (contents full) text × Does old (Closes full (Ok tt)) new

-- the place was cleared, if the machine let it; a new file was made there, and filled
abbrev pub WritesNew : {M F D : Type 0} → (M → MachineCall F D → M → Type 0)
    → (F → Option (List ℕ)) → M → List ℕ → List ℕ → M → Type 0
WritesNew {M} {F} Does contents old place text new =
    (removed : Result (Unit {0}) Error) × (free : M) × (how : OpenOptions) × (file : F)
    × (made : M) × Does old (RemovesFile place removed) free × IsNewFile how
    × Does free (Opens how place (Ok file)) made × Fills Does contents made file text new

-- nothing else than a regular file was found at the path; the text was written to the new file
-- beside, which then took the name
abbrev pub Rewrites : {M F D : Type 0} → (M → MachineCall F D → M → Type 0)
    → (F → Option (List ℕ)) → StatusFile M → List ℕ → M → Type 0
Rewrites {M} Does contents file text new =
    (found : Result Looked Error) × (seen written : M)
    × Does file.machine (Follows (string_bytes file.path) found) seen
    × (may_be_replaced (kind_in found) ≡ true)
    × WritesNew Does contents seen (string_bytes file.beside) text written
    × Does written (Renames (string_bytes file.beside) (string_bytes file.path) (Ok tt)) new

-- an empty file was written beside, and removed again
abbrev pub TriesOut : {M F D : Type 0} → (M → MachineCall F D → M → Type 0)
    → (F → Option (List ℕ)) → StatusFile M → M → Type 0
TriesOut {M} Does contents file new =
    (written : M) × WritesNew Does contents file.machine (string_bytes file.beside) [] written
    × Does written (RemovesFile (string_bytes file.beside) (Ok tt)) new

-- a call that changes nothing but the file beside: a rename was refused
abbrev pub LeavesOther : {F D : Type 0} → List ℕ → MachineCall F D → Type 0
LeavesOther beside (Follows place answer) = Unit {0}
LeavesOther beside (Opens how place answer) = place ≡ beside
LeavesOther beside (Closes file answer) = Unit {0}
LeavesOther beside (RemovesFile place answer) = place ≡ beside
LeavesOther beside (Renames from to (Err error)) = Unit {0}
LeavesOther beside _ = ⊥

-- so it is of each call that was made
abbrev pub LeavesOthers : {M F D : Type 0} → (M → MachineCall F D → M → Type 0) → List ℕ → M → M
    → Type 0
LeavesOthers {F = F} {D = D} Does beside old new =
    (calls : List (MachineCall F D)) × Makes Does old calls new
    × AllByRecursion (λ call. LeavesOther beside call) calls
