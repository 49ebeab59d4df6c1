-- The open files that a server may lack.
use Rattle.std.specs.Prelude.{ℕ, Bool, false, nat_lt, Option, Some, None}

-- a limit is known, and is below what is needed
abbrev pub are_few : Option ℕ → ℕ → Bool
are_few None needed = false
are_few (Some limit) needed = nat_lt limit needed
