-- Stores of files that are made when they are asked for.
use Rattle.std.specs.Prelude.{◌≡◌, ◌≢◌, ◌⊎◌, ◌-◌, ◌<◌, ◌≤◌, ℕ, List, [], ◌∷◌, drop, length, map, slice_get, Option, Some, None, Result, Ok, Err, Vec, ⊤}
use Rattle.std.specs.Cmp.Lexicographic.{slice_cmp}
use Rattle.std.specs.List.{All}
use Rattle.std.specs.Ordering.{nat_cmp}
use Rattle.std.specs.String.{string_bytes}
use Rattle.std.specs.declared.cmp.Ordering.TheVariants.{Less}
use Rattle.ftp_terms.specs.Entries.{entry_meta}
use Rattle.ftp_terms.specs.declared.entries.EntryKind.TheVariants.{Directory, File}
use Rattle.ftp_terms.specs.declared.entries.Meta.{Meta}
use Rattle.virtual_path.specs.Path.{Path}
use Rattle.virtual_tree.specs.Calls.{Entry, Exchange, refusal}
use Rattle.virtual_tree.specs.Calls.Exchange.{Stat, Listing, OpenRead}
use Rattle.virtual_tree.specs.declared.fault.StoreFault.{StoreFault}
use Rattle.virtual_tree.specs.declared.fault.StoreFault.TheVariants.{Device, Full, IsDir, Memory, NotDir, NotFound, PastEnd}
use Rattle.virtual_tree.specs.declared.listed.ListedEntry.{ListedEntry}

-- Pages that may be shown for a name: the octets of the file of that name, or none if there is
-- none.
abbrev pub Showing : Type 1
Showing = List ℕ → Option (List ℕ) → Type 0

-- the octets that were made, if any
abbrev pub page_of : {A : Type 0} → Option (Vec ℕ A) → Option (List ℕ)
page_of None = None
page_of (Some octets) = Some octets.items

-- the path has one name, and this may be shown for it
abbrev pub IsShownAt : Showing → Path → Option (List ℕ) → Type 0
IsShownAt Shows path page = (name : List ℕ) × (path ≡ name ∷ []) × Shows name page

-- the path has several names, or one for which it may be shown that there is no file
abbrev pub IsMissing : Showing → Path → Type 0
IsMissing Shows path = (name : List ℕ) → path ≡ name ∷ [] → Shows name None

-- the reason for which a file at a path is not made
abbrev pub IsFaultAt : Showing → Path → StoreFault → Type 0
IsFaultAt Shows path IsDir = path ≡ []
IsFaultAt Shows path NotFound = IsMissing Shows path
IsFaultAt Shows path Device = ⊤
IsFaultAt Shows path Memory = ⊤
IsFaultAt Shows path fault = ⊥

-- the octets of the file at a path, as they were made
abbrev pub IsMade : {A : Type 0} → Showing → Path → Result (Vec ℕ A) StoreFault → Type 0
IsMade Shows path (Ok octets) = IsShownAt Shows path (Some octets.items)
IsMade Shows path (Err fault) = IsFaultAt Shows path fault

-- the entry of a file of these octets
abbrev pub file_meta : List ℕ → Meta
file_meta octets = entry_meta File (length octets) 0

-- a directory at the root, and otherwise a file with the length of its octets
abbrev pub IsMeta : Showing → Path → Meta → Type 0
IsMeta Shows path meta = ((path ≡ []) × (meta ≡ entry_meta Directory 0 0))
    ⊎ ((octets : List ℕ) × IsShownAt Shows path (Some octets) × (meta ≡ file_meta octets))

abbrev pub IsStat : Showing → Path → Result Meta StoreFault → Type 0
IsStat Shows path (Ok meta) = IsMeta Shows path meta
IsStat Shows path (Err fault) = IsFaultAt Shows path fault

abbrev pub IsShownEntry : Showing → Entry → Type 0
IsShownEntry Shows entry =
    (octets : List ℕ) × Shows entry.0 (Some octets) × (entry.1 ≡ file_meta octets)

-- the reason for which there is no listing: a file is no directory
abbrev pub IsUnlisted : Showing → Path → StoreFault → Type 0
IsUnlisted Shows path NotDir = (octets : List ℕ) × IsShownAt Shows path (Some octets)
IsUnlisted Shows path fault = IsFaultAt Shows path fault

-- the entries of the root
abbrev pub IsListing : Showing → Path → Result (List Entry) StoreFault → Type 0
IsListing Shows path (Ok entries) = (path ≡ []) × All (IsShownEntry Shows) entries
IsListing Shows path (Err fault) = IsUnlisted Shows path fault

-- the reason for which a file cannot be read from an offset on
abbrev pub IsUnopened : Showing → Path → ℕ → StoreFault → Type 0
IsUnopened Shows path offset PastEnd =
    (octets : List ℕ) × IsShownAt Shows path (Some octets) × (length octets < offset)
IsUnopened Shows path offset fault = IsFaultAt Shows path fault

-- the octets of a file from an offset on
abbrev pub IsOpened : {R : Type 0} → (R → List ℕ) → Showing → Path → ℕ → Result R StoreFault
    → Type 0
IsOpened left Shows path offset (Ok source) =
    (octets : List ℕ) × IsShownAt Shows path (Some octets) × (offset ≤ length octets)
    × (left source ≡ drop offset octets)
IsOpened left Shows path offset (Err fault) = IsUnopened Shows path offset fault

-- a change is refused, as a fault of the device
abbrev pub IsAnswer : {R K : Type 0} → (R → List ℕ) → Showing → Exchange R K → Type 0
IsAnswer left Shows (Stat path answer) = IsStat Shows path answer
IsAnswer left Shows (Listing path answer) = IsListing Shows path answer
IsAnswer left Shows (OpenRead path offset answer) = IsOpened left Shows path offset answer
IsAnswer left Shows change = refusal change ≡ Some Device

-- a refusal: a fault of the device changes the count of faults, and none is for lack of room
pub record IsCounted (old new : ℕ) (fault : StoreFault) : Type 0 where
  pub device : fault ≡ Device → new ≢ old
  pub roomy : fault ≢ Full

-- a call with its result
pub record PageStep {S R K : Type 0} (count : S → ℕ) (left : R → List ℕ) (Shows : Showing)
    (old : S) (exchange : Exchange R K) (new : S) : Type 0 where
  pub device : refusal exchange ≡ Some Device → count new ≢ count old
  pub roomy : refusal exchange ≢ Some Full
  pub answer : IsAnswer left Shows exchange

-- the name is greater than that of the last entry, octet by octet
abbrev pub ComesLast : {A : Type 0} → List (ListedEntry A) → List ℕ → Type 0
ComesLast {A} listed name =
    (last : ListedEntry A) → slice_get listed (length listed - 1) ≡ Some last
    → slice_cmp nat_cmp (string_bytes last.name) name ≡ Less
