-- Refusals of calls.
use Rattle.std.specs.Prelude.{◌≡◌, Option, Some, None, Result, Err, IsOkUnless}

-- refused for this reason, if there is one; otherwise only for lack of memory
abbrev pub RefusedFor : {X F : Type 0} → F → Option F → Result X F → Type 0
RefusedFor memory None answer = IsOkUnless answer memory
RefusedFor memory (Some fault) answer = answer ≡ Err fault
