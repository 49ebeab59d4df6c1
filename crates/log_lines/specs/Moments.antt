-- The second at which a transfer ended.
use Rattle.std.specs.Prelude.{ℕ, Bool, ◌&&◌, nat_eq, nat_le, nat_lt, bytes_eq, if◌then◌else◌, List, [], ◌∷◌, codes, pos, Option, Some, None, option_map}
use Rattle.std.specs.Option.{option_and_then}
use Rattle.jiff_core.specs.Calendar.{days_from_civil, days_in_month, weekday_number}
use Rattle.transfer_log.specs.Moments.{day_name}
use Rattle.log_lines.specs.Numbers.{four_of, two_of}
use Rattle.log_lines.specs.Words.{Octets}
use Rattle.log_lines.specs.declared.moment.LogDay.{LogDay}
use Rattle.log_lines.specs.declared.moment.LogMoment.{LogMoment}

-- the number of a month, from 1 for January
abbrev pub month_of : Octets → Option ℕ
month_of word =
    if bytes_eq word (codes "Jan") then Some 1
    else if bytes_eq word (codes "Feb") then Some 2
    else if bytes_eq word (codes "Mar") then Some 3
    else if bytes_eq word (codes "Apr") then Some 4
    else if bytes_eq word (codes "May") then Some 5
    else if bytes_eq word (codes "Jun") then Some 6
    else if bytes_eq word (codes "Jul") then Some 7
    else if bytes_eq word (codes "Aug") then Some 8
    else if bytes_eq word (codes "Sep") then Some 9
    else if bytes_eq word (codes "Oct") then Some 10
    else if bytes_eq word (codes "Nov") then Some 11
    else if bytes_eq word (codes "Dec") then Some 12
    else None

-- the calendar has this day
abbrev pub is_day : ℕ → ℕ → ℕ → Bool
is_day year month day =
    nat_le 1 month && nat_le month 12 && nat_le 1 day
    && nat_le day (days_in_month (pos year) month)

-- the name of its day of the week
abbrev pub weekday_name : ℕ → ℕ → ℕ → Octets
weekday_name year month day = day_name (weekday_number (days_from_civil (pos year) month day))

-- the day, if the calendar has it
abbrev pub day_of : ℕ → ℕ → ℕ → Option LogDay
day_of year month day =
    if is_day year month day then Some (record { year = year; month = month; day = day })
    else None

-- the day, if it is the one of the week that is stated
abbrev pub on_weekday : Octets → LogDay → Option LogDay
on_weekday weekday day =
    if bytes_eq (weekday_name day.year day.month day.day) weekday then Some day else None

abbrev pub stated_day : Option ℕ → Option ℕ → Option ℕ → Option LogDay
stated_day year month day =
    option_and_then (λ y. option_and_then (λ m. option_and_then (λ d. day_of y m d) day) month) year

-- hour, minute and second
abbrev pub Clock : Type 0
Clock = ℕ × ℕ × ℕ

abbrev pub clock_at : ℕ → ℕ → ℕ → Option Clock
clock_at hour minute second =
    if nat_lt hour 24 && nat_lt minute 60 && nat_lt second 60 then Some (hour, minute, second)
    else None

abbrev pub stated_clock : Option ℕ → Option ℕ → Option ℕ → Option Clock
stated_clock hour minute second =
    option_and_then
    (λ h. option_and_then (λ m. option_and_then (λ s. clock_at h m s) second) minute) hour

-- `hh:mm:ss`
abbrev pub clock_of : Octets → Option Clock
clock_of (a ∷ b ∷ first ∷ c ∷ d ∷ second ∷ e ∷ f ∷ []) =
    if nat_eq first 58 && nat_eq second 58
    then stated_clock (two_of (a ∷ b ∷ [])) (two_of (c ∷ d ∷ [])) (two_of (e ∷ f ∷ []))
    else None
clock_of word = None

abbrev pub at_clock : LogDay → Clock → LogMoment
at_clock day clock =
    record { day = day; hour = clock.0; minute = clock.1; second = clock.2 }

-- `DDD MMM dd hh:mm:ss YYYY`, by its words
abbrev pub moment_of : Octets → Octets → Octets → Octets → Octets → Option LogMoment
moment_of weekday month day clock year =
    option_and_then
    (λ date. option_map (at_clock date) (clock_of clock))
    (option_and_then (on_weekday weekday) (stated_day (four_of year) (month_of month) (two_of day)))

-- the moment that words begin with, and the words after it
abbrev pub moment_taken : List Octets → Option (LogMoment × List Octets)
moment_taken (weekday ∷ month ∷ day ∷ clock ∷ year ∷ more) =
    option_map (λ moment. (moment, more)) (moment_of weekday month day clock year)
moment_taken words = None

-- `YYYY-MM-DD`, by its words
abbrev pub iso_day : List Octets → Option LogDay
iso_day (year ∷ month ∷ day ∷ []) = stated_day (four_of year) (two_of month) (two_of day)
iso_day words = None
