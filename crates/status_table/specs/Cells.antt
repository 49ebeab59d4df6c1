-- The cells of a line.
use Rattle.std.specs.Prelude.{◌-◌, ◌*◌, ◌/◌, ◌%◌, ◌^◌, ℕ, Bool, List, ◌++◌, ◌&&◌, ◌||◌, codes, encode_utf8, false, if◌then◌else◌, min, nat_eq, nat_le, nat_lt, not}
use Rattle.std.specs.Fmt.{decimal, digits, format_spec, styled_text}
use Rattle.std.specs.List.{flat_map}
use Rattle.std.specs.Str.{chars}
use Rattle.ucd_category.specs.GeneralCategory.{general_category}
use Rattle.ucd_category.specs.GeneralCategoryGroup.{in_group}
use Rattle.ucd_category.specs.declared.GeneralCategory.{GeneralCategory}
use Rattle.ucd_category.specs.declared.GeneralCategoryGroup.TheVariants.{Other, Separator}

-- ---- characters

-- a printable character of ASCII
abbrev pub is_printable : ℕ → Bool
is_printable c = nat_le 32 c && nat_le c 126

-- letters, marks, numbers, punctuation and symbols: all of Unicode's groups of categories but
-- Separator and Other, which has the characters of control, of format and of private use, and those
-- that are not assigned
abbrev pub is_visible : GeneralCategory → Bool
is_visible kind = not (in_group Other kind) && not (in_group Separator kind)

-- a character that a screen shows
abbrev pub is_shown : ℕ → Bool
is_shown c = is_printable c || is_visible (general_category c)

-- A character: as it is if it is shown and no backslash, otherwise its number in hexadecimal
-- digits, as `\u{1b}`.
abbrev pub shown_char : ℕ → List ℕ
shown_char c =
    if is_shown c && not (nat_eq c 92) then encode_utf8 c
    else codes "\\u{" ++ digits 16 false c ++ codes "}"

abbrev pub shown_text : List ℕ → List ℕ
shown_text text = flat_map shown_char (chars text)

-- a character as a screen may show it: itself, or a question mark
abbrev pub plain : ℕ → ℕ
plain c = if is_shown c then c else 63

-- ---- amounts

-- a text of ASCII at the right of a column
abbrev pub right : ℕ → List ℕ → List ℕ
right width text = styled_text (format_spec 32 3 0 width (2 ^ 64 - 1)) text

-- the hundredths of a unit that are left of a number
abbrev pub hundredths : ℕ → ℕ → ℕ
hundredths n unit = n % unit * 100 / unit

-- a number in a unit, with two decimals, rounded down
abbrev pub scaled : ℕ → ℕ → List ℕ → List ℕ
scaled n unit letter =
    decimal (n / unit) ++ codes "." ++ decimal (hundredths n unit / 10)
    ++ decimal (hundredths n unit % 10) ++ letter

-- octets, in thousands, millions or thousands of millions
abbrev pub amount : ℕ → List ℕ
amount n =
    if nat_lt n 1000000 then scaled n 1000 (codes "K")
    else if nat_lt n 1000000000 then scaled n 1000000 (codes "M")
    else scaled n 1000000000 (codes "G")

-- a limit; 0 is none
abbrev pub limit_text : ℕ → List ℕ
limit_text rate = if nat_eq rate 0 then codes "-" else amount rate

-- a part of a whole in per cent, rounded down, and at most 100; of nothing, 100
abbrev pub percent : ℕ → ℕ → ℕ
percent part whole = if nat_eq whole 0 then 100 else min (part * 100 / whole) 100
