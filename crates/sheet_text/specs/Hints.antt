-- The likely slip of a line that is no statement, by its octets.
use Rattle.std.specs.Prelude.{◌==◌, Bool, true, false, not, ◌&&◌, if◌then◌else◌, [], ◌∷◌, Option, Some, None}
use Rattle.std.specs.List.{list_all, list_any}
use Rattle.std.specs.Char.{is_ascii_digit}
use Rattle.sheet_text.specs.Paths.{Octets, parts}
use Rattle.sheet_text.specs.declared.hint.Hint.{Hint}
use Rattle.sheet_text.specs.declared.hint.Hint.TheVariants.{ByteOrderMark, Tab, Remark, Blank, Unit}

-- the first octets are the byte order mark, U+FEFF in UTF-8 (RFC 3629, section 6)
abbrev pub begins_with_mark : Octets → Bool
begins_with_mark (first ∷ second ∷ third ∷ rest) = first == 239 && second == 187 && third == 191
begins_with_mark line = false

abbrev pub has_tab : Octets → Bool
has_tab line = list_any (λ octet. octet == 9) line

-- a word begins with `#`
abbrev pub is_remark : Octets → Bool
is_remark [] = false
is_remark (octet ∷ rest) = octet == 35

abbrev pub is_empty : Octets → Bool
is_empty [] = true
is_empty (octet ∷ rest) = false

-- a word begins with a digit, and has an octet that is not one
abbrev pub is_amount_with_unit : Octets → Bool
is_amount_with_unit [] = false
is_amount_with_unit (octet ∷ rest) = is_ascii_digit octet && not (list_all is_ascii_digit rest)

-- one of the words between single blanks passes the test
abbrev pub has_word : (Octets → Bool) → Octets → Bool
has_word is_such line = list_any is_such (parts 32 line)

-- the first of these slips that the line has: a byte order mark, a tab, a remark after a statement,
-- two blanks (a word between them is empty), a number with a unit
abbrev pub hint_of : Octets → Option Hint
hint_of line =
    if begins_with_mark line then Some ByteOrderMark
    else if has_tab line then Some Tab
    else if has_word is_remark line then Some Remark
    else if has_word is_empty line then Some Blank
    else if has_word is_amount_with_unit line then Some Unit
    else None
