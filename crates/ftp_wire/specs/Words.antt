-- Words of a line.
use Rattle.std.specs.Prelude.{ℕ, List, Bool, map, ◌==◌, ◌&&◌, not, nat_le}
use Rattle.std.specs.Char.{to_ascii_lowercase}
use Rattle.std.specs.List.{list_all}
use Rattle.std.specs.Str.{bytes_eq, is_utf8}

-- two texts are equal, ignoring the case of ASCII letters
abbrev pub same_letters : List ℕ → List ℕ → Bool
same_letters a b = bytes_eq (map to_ascii_lowercase a) (map to_ascii_lowercase b)

-- octets that separate the parts of arguments
abbrev pub comma : ℕ
comma = 44

abbrev pub hyphen : ℕ
hyphen = 45

abbrev pub dot : ℕ
dot = 46

abbrev pub semicolon : ℕ
semicolon = 59

abbrev pub is_space : ℕ → Bool
is_space octet = octet == 32

-- only spaces
abbrev pub is_blank : List ℕ → Bool
is_blank octets = list_all is_space octets

abbrev pub is_printed : ℕ → Bool
is_printed octet = nat_le 32 octet && not (octet == 127)

-- UTF-8 without control characters
abbrev pub is_text : List ℕ → Bool
is_text octets = list_all is_printed octets && is_utf8 octets
