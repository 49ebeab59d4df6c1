-- The sessions that an end file names.
use Rattle.std.specs.Prelude.{◌≡◌, ◌≢◌, ℕ, List, [], IsUtf8, string_bytes}
use Rattle.ftp_daemon.specs.declared.ending_sessions.EndSign.{EndSign}
use Rattle.ftp_daemon.specs.declared.ending_sessions.EndSign.TheVariants.{Nothing, Unread, Asked}

-- Those of its text, if it is one. An empty file is one that is still written: it names none.
abbrev pub IsEndSign : List ℕ → EndSign → Type 0
IsEndSign octets Nothing = octets ≡ []
IsEndSign octets (Asked text) = (octets ≢ []) × (string_bytes text ≡ octets)
IsEndSign octets (Unread words) = (octets ≢ []) × (IsUtf8 octets → ⊥)
