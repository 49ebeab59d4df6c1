-- The calls on the file of a log that may be opened anew.
use Rattle.std.specs.Prelude.{◌≡◌, ◌≢◌, ◌⊎◌, ℕ, Result}
use Rattle.counted_file.specs.Calls.{FileCalls, Fails, IsCounted, Passes, no_calls}

-- those of the file that is open now: it is that of before, or one without a call was opened
abbrev pub IsAnew : FileCalls → FileCalls → Type 0
IsAnew old new = (new ≡ old) ⊎ (new ≡ no_calls)

-- an answer of a write is counted from the calls of before, or from none if another file was opened
abbrev pub IsCountedAnew : {X E : Type 0} → Result X E → FileCalls → FileCalls → Type 0
IsCountedAnew answer old new = IsCounted answer old new ⊎ IsCounted answer no_calls new

-- a write has failed exactly if it took nothing
abbrev pub IsTaken : ℕ → FileCalls → FileCalls → Type 0
IsTaken count old new = (count ≡ 0 → Fails old new) × (count ≢ 0 → Passes old new)

-- the same from the calls of before, or from none
abbrev pub IsTakenAnew : ℕ → FileCalls → FileCalls → Type 0
IsTakenAnew count old new = IsTaken count old new ⊎ IsTaken count no_calls new
