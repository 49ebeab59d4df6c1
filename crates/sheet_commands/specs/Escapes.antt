-- Texts within XML 1.0, as the content of an element or of an attribute in double quotes.
use Rattle.std.specs.Prelude.{ℕ, ◌==◌, ◌||◌, if◌then◌else◌, List, codes, encode_utf8}
use Rattle.std.specs.Char.{is_control}
use Rattle.std.specs.List.{flat_map}
use Rattle.std.specs.Str.{chars}

-- U+FFFD in place of a control character, U+FFFE or U+FFFF
abbrev pub allowed : ℕ → ℕ
allowed character =
    if is_control character || character == 65534 || character == 65535 then 65533 else character

-- `&`, `<`, `>` and `"` as references
abbrev pub escaped_character : ℕ → List ℕ
escaped_character character =
    if character == 38 then codes "&amp;"
    else if character == 60 then codes "&lt;"
    else if character == 62 then codes "&gt;"
    else if character == 34 then codes "&quot;"
    else encode_utf8 (allowed character)

abbrev pub escaped : List ℕ → List ℕ
escaped text = flat_map escaped_character (chars text)
