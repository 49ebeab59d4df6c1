-- Causes that make a session on a host of its own break off.
use Rattle.std.specs.Prelude.{◌≡◌, ◌≤◌, ◌+◌, ◌⊎◌, ℕ, Bool, true, List, Option, IfSome, length}
use Rattle.std.specs.Io.KnownBytes.{Appends}
use Rattle.control_session.specs.declared.fault.ControlFault.{ControlFault}
use Rattle.control_session.specs.declared.fault.ControlFault.TheVariants.{ReadFault, WriteFault, Memory}

-- a read may fail; or the text that is left, if it is known, is long enough for that many reads:
-- each of them but the last returns an octet
abbrev pub MayBreakReading : ℕ → Bool → Option (List ℕ) → Type 0
MayBreakReading reads may_fail left =
    (may_fail ≡ true) ⊎ IfSome left (λ text. reads ≤ length text + 1)

-- the writer may refuse a text, after others that it took
abbrev pub MayBreakWriting : {W : Type 0} → (W → Option (List ℕ)) → (W → List ℕ → Type 0) → W
    → Type 0
MayBreakWriting {W} contents may_refuse writer =
    (later : W) × (taken text : List ℕ) × Appends (contents writer) (contents later) taken
    × may_refuse later text

-- the fault of a session, if reading and writing may break it off
abbrev pub IsBreak : Type 0 → Type 0 → ControlFault → Type 0
IsBreak reading writing ReadFault = reading
IsBreak reading writing WriteFault = writing
IsBreak reading writing Memory = Unit {0}
