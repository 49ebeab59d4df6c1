-- The keys by which transfers are added up.
use Rattle.std.specs.Prelude.{ℕ, ◌+◌, ◌/◌, ◌%◌, [], ◌∷◌, ◌++◌, codes}
use Rattle.log_lines.specs.Lines.{Line}
use Rattle.log_lines.specs.Words.{Octets}
use Rattle.log_lines.specs.declared.moment.LogDay.{LogDay}
use Rattle.log_lines.specs.declared.moment.LogMoment.{LogMoment}
use Rattle.usage_report.specs.declared.key.UsageKey.{UsageKey}
use Rattle.usage_report.specs.declared.key.UsageKey.TheVariants.{User, File, Hour, Address}

-- the last two, and the last four, digits of a number
abbrev pub two_digits : ℕ → Octets
two_digits n = (48 + n / 10 % 10) ∷ (48 + n % 10) ∷ []

abbrev pub four_digits : ℕ → Octets
four_digits n = two_digits (n / 100 % 100) ++ two_digits (n % 100)

-- a day, as `YYYY-MM-DD`
abbrev pub day_text : LogDay → Octets
day_text day =
    four_digits day.year ++ codes "-" ++ two_digits day.month ++ codes "-" ++ two_digits day.day

-- the hour of a moment, as `YYYY-MM-DD hh`: its texts are in the order of time
abbrev pub hour_text : LogMoment → Octets
hour_text moment = day_text moment.day ++ codes " " ++ two_digits moment.hour

abbrev pub key_of : UsageKey → Line → Octets
key_of User line = line.user
key_of File line = line.size.path
key_of Hour line = hour_text line.ended
key_of Address line = line.size.address
