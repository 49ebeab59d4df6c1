-- A date and time as a text is ASCII.
use Rattle.std.proofs.Common.{ℕ, ◌-◌, ◌/◌, ◌%◌, ◌^◌, ◌<◌, ◌≤◌, zero, suc, List, arith, length, unsigned_abs, subst, sym}
use Rattle.std.proofs.Math.ListN.{replicate}
use Rattle.std.proofs.lemmas.Str.{IsAscii-append}
use Rattle.std.proofs.lemmas.Str.Ascii.{IsAscii-nil, IsAscii-cons}
use Rattle.std.proofs.lemmas.Fmt.{IsAscii-decimal}
use Rattle.std.proofs.lemmas.Int.{ints}
use Rattle.std.specs.Str.{IsAscii}
use Rattle.std.specs.Fmt.{decimal}
use Rattle.jiff_core.specs.declared.civil.date.Date.{Date}
use Rattle.jiff_core.proofs.CalendarLemmas.{days_in_month_bounds}
use Rattle.ftp_reply.specs.Numbers.{zeroed}
use Rattle.ftp_reply.specs.Dates.{IsTimeVal, time_val}

IsAscii-replicate : (n octet : ℕ) → octet < 128 → IsAscii (replicate n octet)
IsAscii-replicate zero octet low = IsAscii-nil
IsAscii-replicate (suc n) octet low = IsAscii-cons octet (replicate n octet) low (IsAscii-replicate n octet low)

pub IsAscii-zeroed : (places n : ℕ) → n < 2 ^ 64 → IsAscii (zeroed places n)
IsAscii-zeroed places n fits =
    IsAscii-append (replicate (places - length (decimal n)) 48) (decimal n)
    (IsAscii-replicate _ 48 (omega arith)) (IsAscii-decimal n fits)

pub year_fits : (date : Date) → unsigned_abs date.year ≤ 9999
year_fits date = let h = date.year_in in omega (arith, ints)

pub day_fits : (date : Date) → date.day ≤ 31
day_fits date = omega (arith, (days_in_month_bounds date.year date.month).0, date.day_in)

IsAscii-time_val : (seconds : ℕ) (date : Date) → IsAscii (time_val seconds date)
IsAscii-time_val seconds date =
    let year : unsigned_abs date.year ≤ 9999 = year_fits date in
    let day : date.day ≤ 31 = day_fits date in
    IsAscii-append _ _
    (IsAscii-append _ _
    (IsAscii-append _ _
    (IsAscii-append _ _
    (IsAscii-append _ _
    (IsAscii-zeroed 4 (unsigned_abs date.year) (omega arith))
    (IsAscii-zeroed 2 date.month (omega (arith, date.month_in))))
    (IsAscii-zeroed 2 date.day (omega arith)))
    (IsAscii-zeroed 2 (seconds / 3600 % 24) (omega arith)))
    (IsAscii-zeroed 2 (seconds / 60 % 60) (omega arith)))
    (IsAscii-zeroed 2 (seconds % 60) (omega arith))

pub IsAscii-from_time_val : (seconds : ℕ) (text : List ℕ) → IsTimeVal seconds text → IsAscii text
IsAscii-from_time_val seconds text reported = subst IsAscii (sym reported.text_is) (IsAscii-time_val seconds reported.date)
