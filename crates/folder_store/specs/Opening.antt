-- The machine's calls by which a file is opened: which options, which offset, and that the file is
-- the very one that was examined. M is the type of machines, F of open files, D of directories.
use Rattle.std.specs.Prelude.{◌≡◌, ◌⊎◌, ◌-◌, ◌≤◌, ℕ, List, Result, Ok, Err}
use Rattle.std.specs.declared.fs.options.OpenOptions.{OpenOptions}
use Rattle.std.specs.declared.io.Error.{Error}
use Rattle.virtual_tree.specs.declared.mode.WriteMode.{WriteMode}
use Rattle.virtual_tree.specs.declared.mode.WriteMode.TheVariants.{New, At, Append}
use Rattle.folder_store.specs.Looks.{IsSameEntry}
use Rattle.folder_store.specs.MachineCalls.{MachineCall}
use Rattle.folder_store.specs.MachineCalls.MachineCall.{Opens, Looks, Examines, Cuts, Goes}
use Rattle.folder_store.specs.Options.{reading, creating, creating_to_append, updating, overwriting, updating_at_end, appending}
use Rattle.folder_store.specs.declared.looked.Looked.{Looked}
use Rattle.folder_store.specs.declared.looked.LookedKind.TheVariants.{File}

-- an open file is the entry that was examined before, and a file
abbrev pub IsThatFile : Looked → Looked → Type 0
IsThatFile looked opened = (opened.kind ≡ File) × IsSameEntry looked opened

-- an entry was examined, and is a file
abbrev pub LooksAtFile : {M F D : Type 0} → (M → MachineCall F D → M → Type 0) → M → List ℕ
    → Looked → M → Type 0
LooksAtFile Does old place looked new =
    Does old (Looks place (Ok looked)) new × (looked.kind ≡ File)

-- a file was opened by the first options; or these were refused, and it was opened by the others
abbrev pub OpensByEither : {M F D : Type 0} → (M → MachineCall F D → M → Type 0)
    → OpenOptions → OpenOptions → M → List ℕ → F → M → Type 0
OpensByEither {M} Does first other old place file new = Does old (Opens first place (Ok file)) new
    ⊎ ((error : Error) × (mid : M) × Does old (Opens first place (Err error)) mid
    × Does mid (Opens other place (Ok file)) new)

-- an open file was examined: it is the one that was examined before
abbrev pub ExaminesThatFile : {M F D : Type 0} → (M → MachineCall F D → M → Type 0) → M → F
    → Looked → Looked → M → Type 0
ExaminesThatFile Does old file looked opened new = Does old (Examines file (Ok opened)) new
    × IsThatFile looked opened

-- a file at its beginning was moved to an offset; at 0 no call is needed
abbrev pub GoesTo : {M F D : Type 0} → (M → MachineCall F D → M → Type 0) → M → F → ℕ → F → M
    → Type 0
GoesTo Does old file offset there new = ((offset ≡ 0) × (there ≡ file) × (new ≡ old))
    ⊎ Does old (Goes file offset (Ok there)) new

-- a file was opened to be read from an offset on: it is the one that was examined, and has `left`
-- octets from there on
abbrev pub OpensToRead : {M F D : Type 0} → (M → MachineCall F D → M → Type 0) → M → List ℕ → ℕ
    → F → ℕ → M → Type 0
OpensToRead {M} {F} Does old place offset there left new = (looked opened : Looked) × (file : F)
    × (first second third : M) × LooksAtFile Does old place looked first
    × Does first (Opens reading place (Ok file)) second
    × ExaminesThatFile Does second file looked opened third
    × (offset ≤ opened.length) × (left ≡ opened.length - offset)
    × GoesTo Does third file offset there new

-- a file that was examined was opened without truncation, cut to its first `kept` octets, and moved
-- there: it has no tail
abbrev pub OpensOver : {M F D : Type 0} → (M → MachineCall F D → M → Type 0) → M → List ℕ
    → Looked → ℕ → F → M → Type 0
OpensOver {M} {F} Does old place looked kept there new = (opened : Looked) × (file : F)
    × (first second third : M) × OpensByEither Does updating overwriting old place file first
    × ExaminesThatFile Does first file looked opened second × (kept ≤ opened.length)
    × Does second (Cuts file kept (Ok tt)) third × GoesTo Does third file kept there new

-- a file that was examined was opened so that each write goes to its end
abbrev pub OpensAtEnd : {M F D : Type 0} → (M → MachineCall F D → M → Type 0) → M → List ℕ
    → Looked → F → M → Type 0
OpensAtEnd {M} Does old place looked file new = (opened : Looked) × (mid : M)
    × OpensByEither Does updating_at_end appending old place file mid
    × ExaminesThatFile Does mid file looked opened new

-- a file that was examined was opened to be written in a mode
abbrev pub WritesInto : {M F D : Type 0} → (M → MachineCall F D → M → Type 0) → WriteMode → M
    → List ℕ → Looked → F → M → Type 0
WritesInto Does New old place looked file new = OpensOver Does old place looked 0 file new
WritesInto Does (At kept) old place looked file new = OpensOver Does old place looked kept file new
WritesInto Does Append old place looked file new = OpensAtEnd Does old place looked file new

-- a file was created by options that refuse an entry, even a link; with an offset none is created
abbrev pub Creates : {M F D : Type 0} → (M → MachineCall F D → M → Type 0) → WriteMode → M
    → List ℕ → F → M → Type 0
Creates Does New old place file new = Does old (Opens creating place (Ok file)) new
Creates Does (At kept) old place file new = ⊥
Creates Does Append old place file new = Does old (Opens creating_to_append place (Ok file)) new

-- an entry was examined, and then the file there was opened to be written in a mode, or created
abbrev pub OpensToWrite : {M F D : Type 0} → (M → MachineCall F D → M → Type 0) → WriteMode → M
    → List ℕ → F → M → Type 0
OpensToWrite {M} Does mode old place file new = ((looked : Looked) × (mid : M)
    × LooksAtFile Does old place looked mid × WritesInto Does mode mid place looked file new)
    ⊎ ((answer : Result Looked Error) × (mid : M) × Does old (Looks place answer) mid
    × Creates Does mode mid place file new)
