-- Label values in Prometheus' text format.
use Rattle.std.specs.Prelude.{ℕ, if◌then◌else◌, nat_eq, List, codes, encode_utf8}
use Rattle.std.specs.List.{flat_map}
use Rattle.std.specs.Str.{chars}

-- a backslash before a backslash and a quotation mark, and `\n` for a line feed
abbrev pub escape : ℕ → List ℕ
escape character =
    if nat_eq character 92 then codes "\\\\"
    else if nat_eq character 34 then codes "\\\""
    else if nat_eq character 10 then codes "\\n"
    else encode_utf8 character

-- a text within the quotation marks of a label
abbrev pub escaped : List ℕ → List ℕ
escaped text = flat_map escape (chars text)
