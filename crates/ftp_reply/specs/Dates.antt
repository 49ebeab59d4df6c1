-- Moments, in seconds since 1970-01-01 00:00:00 UTC, in the civil calendar.
use Rattle.std.specs.Prelude.{◌≡◌, ℕ, ◌/◌, ◌%◌, List, ◌++◌, pos, unsigned_abs}
use Rattle.jiff_core.specs.declared.civil.date.Date.{Date}
use Rattle.jiff_core.specs.Date.{epoch_day}
use Rattle.ftp_reply.specs.Numbers.{zeroed}

-- the moment falls on this day of the calendar: a day has 86,400 seconds, and day 0 is 1970-01-01
abbrev pub FallsOn : ℕ → Date → Type 0
FallsOn seconds date = epoch_day date ≡ pos (seconds / 86400)

-- YYYYMMDDHHMMSS (RFC 3659, section 2.3)
abbrev pub time_val : ℕ → Date → List ℕ
time_val seconds date =
    zeroed 4 (unsigned_abs date.year) ++ zeroed 2 date.month ++ zeroed 2 date.day
    ++ zeroed 2 (seconds / 3600 % 24) ++ zeroed 2 (seconds / 60 % 60) ++ zeroed 2 (seconds % 60)

-- the text is the moment's date and time
pub record IsTimeVal (seconds : ℕ) (text : List ℕ) : Type 0 where
  pub date : Date
  pub falls_on : FallsOn seconds date
  pub text_is : text ≡ time_val seconds date
