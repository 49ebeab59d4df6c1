-- The greatest number of sessions of a user that words state.
use Rattle.std.specs.Prelude.{ℕ, ◌≡◌, ◌≤◌, List}
use Rattle.std.specs.Str.Parse.{IsNumeral, digits_value}
use Rattle.ftpd_program.specs.declared.session_limit.TheConstants.{MOST_USER_SESSIONS}

-- the text states that number of sessions, in digits
abbrev pub AreSessions : List ℕ → ℕ → Type 0
AreSessions text n = IsNumeral 10 text × (digits_value 10 text ≡ n) × (n ≤ MOST_USER_SESSIONS)
