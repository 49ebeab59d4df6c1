-- The record that a call of a store leaves, and the effect of a call on a store that records.
use Rattle.std.specs.Prelude.{◌≡◌, Bool, true, false, cond, Option, Some, IfSome, MatchOption}
use Rattle.virtual_path.specs.Path.{Path}
use Rattle.virtual_tree.specs.declared.fault.StoreFault.{StoreFault}
use Rattle.virtual_tree.specs.declared.fault.StoreFault.TheVariants.{Device, Memory, Full}
use Rattle.virtual_tree.specs.Calls.{Exchange, refusal}
use Rattle.virtual_tree.specs.Calls.Exchange.{OpenRead, OpenWrite, MakeDir, RemoveDir, RemoveFile, Rename}
use Rattle.recorded_store.specs.declared.record.StoreRecord.{StoreRecord}
use Rattle.recorded_store.specs.declared.record.StoreRecord.TheVariants.{OpenedToRead, OpenedToWrite, MadeDir, RemovedDir, RemovedFile, Renamed, Refused}
use Rattle.recorded_store.specs.declared.recorded.RecordedStore.{RecordedStore}

-- a fault of the machine, or lack of room: no fault of what the caller asked for
abbrev pub is_of_the_machine : StoreFault → Bool
is_of_the_machine Device = true
is_of_the_machine Memory = true
is_of_the_machine Full = true
is_of_the_machine _ = false

-- the record that a call refused for this fault leaves, from the one before
abbrev pub after_refusal : {A : Type 0} → StoreFault → Option (StoreRecord A)
    → Option (StoreRecord A)
after_refusal fault before = cond (is_of_the_machine fault) (Some (Refused fault)) before

-- a copy of the path, if there is one
abbrev pub IsCopyOf : Option Path → Path → Type 0
IsCopyOf copy path = IfSome copy (λ copied. copied ≡ path)

-- the record is of this kind, with a copy of the path
abbrev pub IsOf : {A : Type 0} → (Option Path → StoreRecord A) → Path → Option (StoreRecord A)
    → Type 0
IsOf kind path after = (copy : Option Path) × IsCopyOf copy path × (after ≡ Some (kind copy))

-- the record that a successful call leaves, from the one before
abbrev pub RecordsSuccess : {A R K : Type 0} → Exchange R K → Option (StoreRecord A)
    → Option (StoreRecord A) → Type 0
RecordsSuccess (OpenRead path offset answer) before after = IsOf OpenedToRead path after
RecordsSuccess (OpenWrite path mode moment answer) before after = IsOf OpenedToWrite path after
RecordsSuccess (MakeDir path answer) before after = IsOf MadeDir path after
RecordsSuccess (RemoveDir path answer) before after = IsOf RemovedDir path after
RecordsSuccess (RemoveFile path answer) before after = IsOf RemovedFile path after
RecordsSuccess (Rename from to answer) before after =
    (first last : Option Path) × IsCopyOf first from × IsCopyOf last to
    × (after ≡ Some (Renamed first last))
RecordsSuccess _ before after = after ≡ before

-- the record that a call leaves, from the one before
abbrev pub Records : {A R K : Type 0} → Exchange R K → Option (StoreRecord A)
    → Option (StoreRecord A) → Type 0
Records exchange before after = MatchOption (refusal exchange)
    (RecordsSuccess exchange before after) (λ fault. after ≡ after_refusal fault before)

-- the call is a step of the store beneath, and is recorded
abbrev pub RecordedStep : {A S R K : Type 0} → (S → Exchange R K → S → Type 0)
    → RecordedStore S A → Exchange R K → RecordedStore S A → Type 0
RecordedStep Step old exchange new =
    Step old.store exchange new.store × Records exchange old.last new.last
