-- The lines of listings.
use Rattle.std.specs.Prelude.{◌≡◌, ℕ, ◌-◌, Bool, false, true, ◌&&◌, if◌then◌else◌, List, [], ◌∷◌, ◌++◌, codes, slice_index_or, unsigned_abs}
use Rattle.std.specs.List.{flat_map}
use Rattle.std.specs.Fmt.{decimal}
use Rattle.jiff_core.specs.declared.civil.date.Date.{Date}
use Rattle.ftp_terms.specs.declared.entries.EntryKind.{EntryKind}
use Rattle.ftp_terms.specs.declared.entries.EntryKind.TheVariants.{Directory, File}
use Rattle.ftp_terms.specs.declared.entries.Meta.{Meta}
use Rattle.ftp_terms.specs.declared.facts.Facts.{Facts}
use Rattle.ftp_terms.specs.declared.letters.Letters.{Letters}
use Rattle.ftp_reply.specs.Dates.{FallsOn, IsTimeVal}
use Rattle.ftp_reply.specs.Numbers.{spaced, zeroed}

-- the texts of the rows that are enabled, joined
abbrev pub in_force : List (Bool × List ℕ) → List ℕ
in_force = flat_map (λ row. if row.0 then row.1 else [])

-- ---- LIST: a line in the style of `ls -l`

abbrev pub month_names : List (List ℕ)
month_names = codes "Jan" ∷ codes "Feb" ∷ codes "Mar" ∷ codes "Apr" ∷ codes "May" ∷ codes "Jun"
    ∷ codes "Jul" ∷ codes "Aug" ∷ codes "Sep" ∷ codes "Oct" ∷ codes "Nov" ∷ codes "Dec" ∷ []

-- the name of a month, from 1 for January
abbrev pub month_name : ℕ → List ℕ
month_name month = slice_index_or month_names (month - 1) []

abbrev pub mode_text : EntryKind → List ℕ
mode_text Directory = codes "drwxr-xr-x"
mode_text File = codes "-rw-r--r--"

-- a directory has size 0
abbrev pub listed_size : EntryKind → ℕ → ℕ
listed_size Directory size = 0
listed_size File size = size

-- mode, links, owner, group, size, date and name
abbrev pub list_text : Meta → List ℕ → Date → List ℕ
list_text entry name date =
    mode_text entry.kind ++ codes " 1 ftp ftp " ++ spaced 12 (listed_size entry.kind entry.size)
    ++ codes " " ++ month_name date.month ++ codes " " ++ spaced 2 date.day
    ++ codes "  " ++ zeroed 4 (unsigned_abs date.year) ++ codes " " ++ name

-- the text is the entry's line under the name, with the day of its last change
pub record IsListLine (entry : Meta) (name text : List ℕ) : Type 0 where
  pub date : Date
  pub falls_on : FallsOn entry.modified date
  pub text_is : text ≡ list_text entry name date

-- ---- MLST and MLSD: the facts of an entry (RFC 3659, section 7)

-- the operations permitted on a directory, and on a file (section 7.5.5)
abbrev pub directory_perms : Letters → List ℕ
directory_perms letters = in_force (
    (letters.store, codes "c")
    ∷ (letters.delete, codes "d")
    ∷ (letters.change_directory, codes "e")
    ∷ (letters.rename, codes "f")
    ∷ (letters.listing, codes "l")
    ∷ (letters.make_directory, codes "m")
    ∷ (letters.delete, codes "p")
    ∷ [])

abbrev pub file_perms : Letters → List ℕ
file_perms letters = in_force (
    (letters.append_to, codes "a")
    ∷ (letters.delete, codes "d")
    ∷ (letters.rename, codes "f")
    ∷ (letters.retrieve, codes "r")
    ∷ (letters.store, codes "w")
    ∷ [])

-- a fact: its name, its value and a semicolon
abbrev pub fact : List ℕ → List ℕ → List ℕ
fact name value = name ++ codes "=" ++ value ++ codes ";"

abbrev pub type_name : EntryKind → List ℕ
type_name Directory = codes "dir"
type_name File = codes "file"

abbrev pub has_size : EntryKind → Bool
has_size Directory = false
has_size File = true

abbrev pub perms : EntryKind → Letters → List ℕ
perms Directory letters = directory_perms letters
perms File letters = file_perms letters

-- the facts that are enabled; a directory has no size
abbrev pub entry_facts : Meta → Facts → Letters → List ℕ → List ℕ
entry_facts entry facts letters modified = in_force (
    (facts.kind, fact (codes "type") (type_name entry.kind))
    ∷ (facts.size && has_size entry.kind, fact (codes "size") (decimal entry.size))
    ∷ (facts.modify, fact (codes "modify") modified)
    ∷ (facts.perm, fact (codes "perm") (perms entry.kind letters))
    ∷ [])

-- the text is the entry's facts, a space and the path
pub record IsMlstEntry (entry : Meta) (facts : Facts) (letters : Letters) (path text : List ℕ)
    : Type 0 where
  pub modified : List ℕ
  pub modified_is : IsTimeVal entry.modified modified
  pub text_is : text ≡ entry_facts entry facts letters modified ++ codes " " ++ path
