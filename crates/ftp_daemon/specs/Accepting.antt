-- Clients that are not served, and reports of connections that could not be accepted.
use Rattle.std.specs.Prelude.{ℕ, ◌+◌, Bool, true, false, nat_lt, List, [], ◌∷◌, ◌++◌, codes, Option, Some, None}
use Rattle.std.specs.IoError.{error_kind}
use Rattle.std.specs.declared.io.Error.{Error}
use Rattle.std.specs.declared.io.ErrorKind.{ErrorKind}
use Rattle.std.specs.declared.io.ErrorKind.TheVariants.{Interrupted}
use Rattle.passive_ports.specs.declared.fault.AdmitFault.{AdmitFault}
use Rattle.passive_ports.specs.declared.fault.AdmitFault.TheVariants.{TooMany, TooManyOfAddress, Memory}
use Rattle.server_house.specs.declared.server_hooks.NotServed.{NotServed}
use Rattle.server_house.specs.declared.server_hooks.NotServed.TheVariants.{NotAdmitted, NoThread, Ending}

abbrev refusal_words : NotServed → List ℕ
refusal_words (NotAdmitted TooMany) = codes "421 Too many connections"
refusal_words (NotAdmitted TooManyOfAddress) = codes "421 Too many connections from this address"
refusal_words (NotAdmitted Memory) = codes "421 Out of memory"
refusal_words NoThread = codes "421 No thread for a session"
refusal_words Ending = codes "421 Server is ending"

-- the reply to a client that is not served
abbrev pub refusal : NotServed → List ℕ
refusal why = refusal_words why ++ 13 ∷ 10 ∷ []

-- a second has passed since the last report, or there was none
abbrev pub is_due : Option ℕ → ℕ → Bool
is_due None now = true
is_due (Some since) now = nat_lt (since + 1_000_000) now

abbrev pub is_reported_of : ErrorKind → Option ℕ → ℕ → Bool
is_reported_of Interrupted reported now = false
is_reported_of _ reported now = is_due reported now

-- a failure is reported at most once a second, and an interrupted call is none
abbrev pub is_reported : Error → Option ℕ → ℕ → Bool
is_reported error reported now = is_reported_of (error_kind error) reported now
