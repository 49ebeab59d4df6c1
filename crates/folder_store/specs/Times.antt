-- The time shown for an entry.
use Rattle.std.specs.Prelude.{ℕ, ℤ, pos, negsuc, min}
use Rattle.ftp_terms.specs.declared.entries.TheConstants.{LATEST}

-- a time of the machine in seconds since 1970, as the nearest one that a listing can show
abbrev pub shown : ℤ → ℕ
shown (pos seconds) = min seconds LATEST
shown (negsuc _) = 0
