-- Sessions that the owner of a server names.
use Rattle.std.specs.Prelude.{ℕ, ◌≡◌, ◌<◌, List}
use Rattle.std.specs.Str.Parse.{IsNumeral, digits_value}
use Rattle.server_house.specs.declared.asking.TheConstants.{MOST_SESSIONS}

-- the text states that number of a session, in digits
abbrev pub IsSession : List ℕ → ℕ → Type 0
IsSession text n = IsNumeral 10 text × (digits_value 10 text ≡ n) × (n < MOST_SESSIONS)
