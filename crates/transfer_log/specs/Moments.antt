-- The second of a transfer's end.
use Rattle.std.specs.Prelude.{◌≡◌, ℕ, ◌+◌, ◌/◌, ◌%◌, List, [], ◌∷◌, ◌++◌, codes, slice_index_or, unsigned_abs}
use Rattle.jiff_core.specs.declared.civil.date.Date.{Date}
use Rattle.jiff_core.specs.Date.{weekday_of}
use Rattle.ftp_reply.specs.Dates.{FallsOn}
use Rattle.ftp_reply.specs.Listings.{month_name}

-- a number below 100 in two digits, and one below 10,000 in four
abbrev pub two_digits : ℕ → List ℕ
two_digits n = (48 + n / 10) ∷ (48 + n % 10) ∷ []

abbrev pub four_digits : ℕ → List ℕ
four_digits n = two_digits (n / 100) ++ two_digits (n % 100)

-- the name of a day of the week, from 0 for Monday
abbrev pub day_name : ℕ → List ℕ
day_name day = slice_index_or (codes "Mon" ∷ codes "Tue" ∷ codes "Wed" ∷ codes "Thu" ∷ codes "Fri"
    ∷ codes "Sat" ∷ codes "Sun" ∷ []) day []

-- `DDD MMM dd `
abbrev pub date_text : Date → List ℕ
date_text date =
    day_name (weekday_of date) ++ codes " " ++ month_name date.month ++ codes " "
    ++ two_digits date.day ++ codes " "

-- `hh:mm:ss `
abbrev pub clock_text : ℕ → List ℕ
clock_text seconds =
    two_digits (seconds / 3600 % 24) ++ codes ":" ++ two_digits (seconds / 60 % 60) ++ codes ":"
    ++ two_digits (seconds % 60) ++ codes " "

-- the text is the moment, in seconds since 1970, as `DDD MMM dd hh:mm:ss YYYY`
pub record IsMoment (seconds : ℕ) (text : List ℕ) : Type 0 where
  pub date : Date
  pub falls_on : FallsOn seconds date
  pub text_is : text ≡ date_text date ++ clock_text seconds ++ four_digits (unsigned_abs date.year)
