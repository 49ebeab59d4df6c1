-- Calls of a store with their results, and the effects of lists of such calls.
use Rattle.std.specs.Prelude.{ℕ, ◌≡◌, ◌⊎◌, ◌<◌, List, [], ◌∷◌, map, Option, None, Result, Ok, Err, IsSomeAnd, Vec}
use Rattle.std.specs.Io.KnownBytes.{Appends}
use Rattle.std.specs.Result.{result_err}
use Rattle.std.specs.String.{string_bytes}
use Rattle.ftp_terms.specs.declared.entries.Meta.{Meta}
use Rattle.virtual_path.specs.Path.{Path}
use Rattle.virtual_tree.specs.declared.fault.StoreFault.{StoreFault}
use Rattle.virtual_tree.specs.declared.fault.StoreFault.TheVariants.{Device, Memory}
use Rattle.virtual_tree.specs.declared.mode.WriteMode.{WriteMode}
use Rattle.virtual_tree.specs.declared.listed.ListedEntry.{ListedEntry}

-- an entry of a directory: its name and its metadata
abbrev pub Entry : Type 0
Entry = List ℕ × Meta

-- the entry that a listing shows
abbrev pub entry_of : {A : Type 0} → ListedEntry A → Entry
entry_of listed = (string_bytes listed.name, listed.meta)

abbrev pub entries_of : {A B : Type 0} → Vec (ListedEntry A) B → List Entry
entries_of listed = map entry_of listed.items

-- a result with its value mapped by f
abbrev pub in_answer : {X Y E : Type 0} → (X → Y) → Result X E → Result Y E
in_answer f (Ok x) = Ok (f x)
in_answer f (Err e) = Err e

-- one call with its result; R is the store's type of sources, and K that of its sinks
pub data Exchange (R K : Type 0) : Type 0 where
  Stat : Path → Result Meta StoreFault → Exchange R K
  Listing : Path → Result (List Entry) StoreFault → Exchange R K
  OpenRead : Path → ℕ → Result R StoreFault → Exchange R K
  OpenWrite : Path → WriteMode → ℕ → Result K StoreFault → Exchange R K
  Finish : K → ℕ → Result (Unit {0}) StoreFault → Exchange R K
  MakeDir : Path → Result (Unit {0}) StoreFault → Exchange R K
  RemoveDir : Path → Result (Unit {0}) StoreFault → Exchange R K
  RemoveFile : Path → Result (Unit {0}) StoreFault → Exchange R K
  Rename : Path → Path → Result (Unit {0}) StoreFault → Exchange R K

-- the reason for which the call was refused, if it was
abbrev pub refusal : {R K : Type 0} → Exchange R K → Option StoreFault
refusal (Stat path answer) = result_err answer
refusal (Listing path answer) = result_err answer
refusal (OpenRead path offset answer) = result_err answer
refusal (OpenWrite path mode moment answer) = result_err answer
refusal (Finish sink moment answer) = result_err answer
refusal (MakeDir path answer) = result_err answer
refusal (RemoveDir path answer) = result_err answer
refusal (RemoveFile path answer) = result_err answer
refusal (Rename from to answer) = result_err answer

-- the call ends an upload after which the files would have more octets than this capacity
abbrev pub PassesCapacity : {R K : Type 0} → Option ℕ → (K → ℕ → ℕ) → Exchange R K → Type 0
PassesCapacity capacity after (Finish sink moment answer) =
    IsSomeAnd capacity (λ most. most < after sink moment)
PassesCapacity capacity after _ = ⊥

-- the names of a listing
abbrev pub names_of : {A B : Type 0} → Vec (ListedEntry A) B → List (List ℕ)
names_of listed = map (λ entry. string_bytes entry.name) listed.items

-- ---- the two ends of a file

-- the file that a sink writes to: its path, and the number of its first octets that are kept before
-- the new ones
pub record Target : Type 0 where
  pub path : Path
  pub kept : ℕ

-- the reason for which a source or sink refuses: if its octets are known, the device is none
abbrev pub IsEndFault : Option (List ℕ) → StoreFault → Type 0
IsEndFault known fault = (fault ≡ Memory) ⊎ ((fault ≡ Device) × (known ≡ None))

-- writing these pieces, one after another, turns one sink into the other
abbrev pub Writes : {K : Type 0} → (K → Option Target) → (K → Option (List ℕ)) → K → List (List ℕ)
    → K → Type 0
Writes target collected first [] last = last ≡ first
Writes {K} target collected first (piece ∷ pieces) last =
    (next : K) × (target next ≡ target first) × Appends (collected first) (collected next) piece
    × Writes target collected next pieces last
