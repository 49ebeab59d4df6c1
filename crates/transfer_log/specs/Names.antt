-- Names within a line of fields.
use Rattle.std.specs.Prelude.{ℕ, Bool, ◌&&◌, ◌||◌, nat_eq, nat_le, if◌then◌else◌, List, [], ◌∷◌, codes, encode_utf8}
use Rattle.std.specs.Char.{is_control, is_whitespace}
use Rattle.std.specs.List.{flat_map}
use Rattle.std.specs.Str.{chars}

-- from one number to another, both included
abbrev between : ℕ → ℕ → ℕ → Bool
between first last n = nat_le first n && nat_le n last

-- the characters of format (Unicode's category Cf) below U+10000: they show nothing themselves, and
-- some turn the direction of what follows
abbrev pub is_format : ℕ → Bool
is_format c =
    nat_eq c 0xad || between 0x600 0x605 c || nat_eq c 0x61c || nat_eq c 0x6dd || nat_eq c 0x70f
    || between 0x890 0x891 c || nat_eq c 0x8e2 || nat_eq c 0x180e || between 0x200b 0x200f c
    || between 0x202a 0x202e c || between 0x2060 0x206f c || nat_eq c 0xfeff
    || between 0xfff9 0xfffb c

-- a blank, a control character or a format character is replaced by `_`
abbrev pub plain : ℕ → ℕ
plain character =
    if is_whitespace character || is_control character || is_format character then 95
    else character

-- the characters of a text, each a plain one
abbrev pub plain_text : List ℕ → List ℕ
plain_text text = flat_map (λ character. encode_utf8 (plain character)) (chars text)

-- the text as one field, which is not empty
abbrev pub field_text : List ℕ → List ℕ
field_text [] = codes "_"
field_text (octet ∷ octets) = plain_text (octet ∷ octets)
