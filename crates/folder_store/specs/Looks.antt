-- The metadata that a store shows of an entry of the machine.
use Rattle.std.specs.Prelude.{◌≡◌, ℕ, Option, None, Some}
use Rattle.ftp_terms.specs.declared.entries.Meta.{Meta}
use Rattle.ftp_terms.specs.declared.entries.EntryKind.TheVariants as entry
use Rattle.ftp_terms.specs.Entries.{entry_meta}
use Rattle.folder_store.specs.Times.{shown}
use Rattle.folder_store.specs.declared.looked.Looked.{Looked}
use Rattle.folder_store.specs.declared.looked.LookedKind.{LookedKind}
use Rattle.folder_store.specs.declared.looked.LookedKind.TheVariants.{Directory, File, Other}

-- the metadata that a store shows of an entry of this kind, length and second: a directory, or a
-- file with its length, each with its time; nothing else is shown
abbrev pub meta_by : LookedKind → ℕ → ℕ → Option Meta
meta_by Directory length seconds = Some (entry_meta entry.Directory 0 seconds)
meta_by File length seconds = Some (entry_meta entry.File length seconds)
meta_by Other length seconds = None

abbrev pub meta_of : Looked → Option Meta
meta_of looked = meta_by looked.kind looked.length (shown looked.modified)

-- both are one entry, by the machine's numbers of its device and of the entry there
abbrev pub IsSameEntry : Looked → Looked → Type 0
IsSameEntry looked opened = (looked.device ≡ opened.device) × (looked.number ≡ opened.number)
