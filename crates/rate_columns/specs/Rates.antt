-- Rates as text: in octets a second, and in Mbit/s.
use Rattle.std.specs.Prelude.{ℕ, ◌/◌, ◌%◌, if◌then◌else◌, nat_eq, List, ◌++◌, codes}
use Rattle.std.specs.Fmt.{decimal}
use Rattle.rate_columns.specs.Columns.{number, right}

-- a rate in octets a second in its column; none is a dash
abbrev pub rate_column : ℕ → List ℕ
rate_column rate = if nat_eq rate 0 then right 14 (codes "-") else number 14 rate

-- a number of hundredths, with two decimals after its whole part
abbrev pub with_decimals : List ℕ → ℕ → List ℕ
with_decimals whole n = whole ++ codes "." ++ decimal (n / 10 % 10) ++ decimal (n % 10)

-- a rate in Mbit/s, rounded down, a hundredth of which is 1,250 octets a second
abbrev pub megabits_text : ℕ → List ℕ
megabits_text rate = with_decimals (decimal (rate / 1250 / 100)) (rate / 1250)

-- the same in its column; none is a dash
abbrev pub megabits_column : ℕ → List ℕ
megabits_column rate =
    if nat_eq rate 0 then right 12 (codes "-")
    else with_decimals (number 9 (rate / 1250 / 100)) (rate / 1250)
