-- The words of changes and faults of a store.
use Rattle.std.specs.Prelude.{◌≡◌, ℕ, List, [], ◌++◌, codes, Option, None, Some, option_map}
use Rattle.std.specs.Borrow.{Bor}
use Rattle.std.specs.Fmt.{◌++?◌, debug_str}
use Rattle.std.specs.declared.alloc.Global.{Global}
use Rattle.log.specs.declared.level.Level.{Level}
use Rattle.log.specs.declared.level.Level.TheVariants.{Warn, Info}
use Rattle.recorded_store.specs.declared.record.StoreRecord.{StoreRecord}
use Rattle.recorded_store.specs.declared.record.StoreRecord.TheVariants.{OpenedToRead, OpenedToWrite, MadeDir, RemovedDir, RemovedFile, Renamed, Refused}
use Rattle.session_notes.specs.Words.{words_with}
use Rattle.session_notes.specs.declared.stores.ChangeText.{ChangeText}
use Rattle.virtual_path.specs.Path.{Path, path_text}
use Rattle.virtual_tree.specs.declared.fault.StoreFault.{StoreFault}
use Rattle.virtual_tree.specs.declared.fault.StoreFault.TheVariants.{Device, Memory, Full}

abbrev pub fault_words : StoreFault → List ℕ
fault_words Device = codes "fault of the machine"
fault_words Memory = codes "out of memory"
fault_words Full = codes "the storage is full"
fault_words _ = codes "refused"

abbrev pub record_words : StoreRecord Global → List ℕ
record_words (OpenedToRead path) = codes "opened to read"
record_words (OpenedToWrite path) = codes "opened to write"
record_words (MadeDir path) = codes "made directory"
record_words (RemovedDir path) = codes "removed directory"
record_words (RemovedFile path) = codes "deleted"
record_words (Renamed from to) = codes "renamed"
record_words (Refused fault) = fault_words fault

-- the path that a call was about, if there is one and it is known
abbrev pub path_in : StoreRecord Global → Option Path
path_in (OpenedToRead path) = path
path_in (OpenedToWrite path) = path
path_in (MadeDir path) = path
path_in (RemovedDir path) = path
path_in (RemovedFile path) = path
path_in (Renamed from to) = from
path_in (Refused fault) = None

-- the path to which an entry was moved
abbrev pub path_to : StoreRecord Global → Option Path
path_to (Renamed from to) = to
path_to _ = None

-- the text of a path, if there is one
abbrev pub IsTextOf : Option Path → Option (Bor (List ℕ)) → Type 0
IsTextOf path text = option_map (λ text. text.now) text ≡ option_map path_text path

abbrev pub to_words : Option (Bor (List ℕ)) → Option (List ℕ)
to_words None = Some []
to_words (Some path) = Some (codes " to ") ++? debug_str path.now

-- the words, the path or both, and the user; names are in quotation marks, escaped
abbrev pub change_text : ChangeText → Option (List ℕ)
change_text text =
    words_with text.words.now text.path ++? to_words text.to ++? Some (codes ": user ")
    ++? debug_str text.user.now

-- a fault is for an administrator to look at
abbrev pub level_of_record : StoreRecord Global → Level
level_of_record (Refused fault) = Warn
level_of_record _ = Info
