-- The report that words ask for.
use Rattle.std.specs.Prelude.{◌≡◌, ◌≤◌, ℕ, Bool, true, false, Option, Some, None, bytes_eq, codes, if◌then◌else◌, option_map}
use Rattle.std.specs.Str.Parse.{IsNumeral, digits_value}
use Rattle.log_lines.specs.Moments.{iso_day}
use Rattle.log_lines.specs.Words.{Octets, parts}
use Rattle.log_lines.specs.declared.moment.LogDay.{LogDay}
use Rattle.usage_report.specs.declared.ask.AskWords.{AskWords}
use Rattle.usage_report.specs.declared.ask.UsageAsk.{UsageAsk}
use Rattle.usage_report.specs.declared.ask.TheConstants.{FIRST, MOST_FIRST}
use Rattle.usage_report.specs.declared.ask.UsageForm.{UsageForm}
use Rattle.usage_report.specs.declared.ask.UsageForm.TheVariants.{Table, Json, Csv}
use Rattle.usage_report.specs.declared.key.UsageKey.{UsageKey}
use Rattle.usage_report.specs.declared.key.UsageKey.TheVariants.{User, File, Hour, Address}

-- the name of a key
abbrev pub key_name : UsageKey → Octets
key_name User = codes "user"
key_name File = codes "file"
key_name Hour = codes "hour"
key_name Address = codes "address"

-- the key of that name
abbrev pub key_named : Octets → Option UsageKey
key_named word =
    if bytes_eq word (codes "user") then Some User
    else if bytes_eq word (codes "file") then Some File
    else if bytes_eq word (codes "hour") then Some Hour
    else if bytes_eq word (codes "address") then Some Address
    else None

-- the word states that number of rows, in digits
abbrev pub IsFirst : Octets → ℕ → Type 0
IsFirst word n = IsNumeral 10 word × (digits_value 10 word ≡ n) × (n ≤ MOST_FIRST)

-- the words state that key, that day, that number of rows and that form, or what counts without
-- them
abbrev pub IsKeyAsked : Option Octets → UsageKey → Type 0
IsKeyAsked None by = by ≡ User
IsKeyAsked (Some word) by = key_named word ≡ Some by

abbrev pub IsDayAsked : Option Octets → Option LogDay → Type 0
IsDayAsked None day = day ≡ None
IsDayAsked (Some word) None = ⊥
IsDayAsked (Some word) (Some day) = iso_day (parts 45 word) ≡ Some day

abbrev pub IsFirstAsked : Option Octets → ℕ → Type 0
IsFirstAsked None n = n ≡ FIRST
IsFirstAsked (Some word) n = IsFirst word n

abbrev pub form_of : Bool → Bool → UsageForm
form_of true csv = Json
form_of false true = Csv
form_of false false = Table

-- that is what the words ask for
pub record IsAsked (words : AskWords) (ask : UsageAsk) : Type 0 where
  pub by : IsKeyAsked (option_map (λ w. w.now) words.by) ask.by
  pub day : IsDayAsked (option_map (λ w. w.now) words.day) ask.day
  pub first : IsFirstAsked (option_map (λ w. w.now) words.first) ask.first
  pub form : ask.form ≡ form_of words.json words.csv

-- the words ask for JSON and for CSV
abbrev pub AreTwoForms : AskWords → Type 0
AreTwoForms words = (words.json ≡ true) × (words.csv ≡ true)
