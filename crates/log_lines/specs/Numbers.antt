-- Numbers as they are written.
use Rattle.std.specs.Prelude.{ℕ, ◌+◌, ◌-◌, ◌*◌, ◌^◌, Bool, not, ◌&&◌, ◌||◌, nat_eq, nat_le, nat_lt, if◌then◌else◌, List, [], ◌∷◌, length, slice_index, Option, Some, None, option_map}
use Rattle.std.specs.Char.{is_ascii_digit}
use Rattle.std.specs.List.{list_all}
use Rattle.std.specs.Option.{option_and_then}
use Rattle.std.specs.Str.Parse.{digits_value}
use Rattle.log_lines.specs.Words.{Octets}

-- digits, at least one, without a needless leading zero
abbrev pub is_numeral : Octets → Bool
is_numeral word =
    nat_le 1 (length word) && (nat_le (length word) 1 || not (nat_eq (slice_index word 0) 48))
    && list_all is_ascii_digit word

-- the number below 2^64 of a numeral
abbrev pub number_of : Octets → Option ℕ
number_of word =
    if is_numeral word && nat_lt (digits_value 10 word) (2 ^ 64)
    then Some (digits_value 10 word) else None

-- the number of two digits
abbrev pub two_of : Octets → Option ℕ
two_of [] = None
two_of (ten ∷ []) = None
two_of (ten ∷ one ∷ []) =
    if is_ascii_digit ten && is_ascii_digit one then Some ((ten - 48) * 10 + (one - 48))
    else None
two_of (ten ∷ one ∷ more ∷ rest) = None

abbrev pub hundreds : Option ℕ → Option ℕ → Option ℕ
hundreds front back = option_and_then (λ f. option_map (λ b. f * 100 + b) back) front

-- and that of four
abbrev pub four_of : Octets → Option ℕ
four_of (a ∷ b ∷ c ∷ d ∷ []) = hundreds (two_of (a ∷ b ∷ [])) (two_of (c ∷ d ∷ []))
four_of word = None
