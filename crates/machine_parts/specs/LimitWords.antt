-- A limit in words: its key, and whose it is.
use Rattle.std.specs.Prelude.{ℕ, if◌then◌else◌, nat_eq, List, ◌++◌, codes, encode_utf8, Option, Some, None, map, slice_get, string_bytes}
use Rattle.std.specs.Char.{is_control}
use Rattle.std.specs.List.{flat_map}
use Rattle.std.specs.Str.{chars}
use Rattle.line_rates.specs.declared.ask.Name.{Name}
use Rattle.line_rates.specs.declared.ask.Name.TheVariants.{Server, Direction, Group, User, Session}
use Rattle.line_rates.specs.declared.ask.Way.{Way}
use Rattle.line_rates.specs.declared.ask.Way.TheVariants.{Down, Up}
use Rattle.machine_parts.specs.Names.{name_in}
use Rattle.machine_parts.specs.declared.known.Known.{Known}

-- the key of a rate of a way
abbrev pub key_of : Way → List ℕ
key_of Down = codes "down_rate"
key_of Up = codes "up_rate"

-- the name of whom a limit is; none if it is the server's, or if nobody is known by the number
abbrev pub name_of : Known → Name → Option (List ℕ)
name_of known Server = None
name_of known (Direction way) = None
name_of known (Group way group) = slice_get (map string_bytes known.groups.items) group
name_of known (User way user) = name_in known.users.items user
name_of known (Session way user session) = name_in known.users.items user

-- a backslash before a quotation mark and a backslash, and a question mark for a control character
abbrev pub escaped_character : ℕ → List ℕ
escaped_character character =
    if nat_eq character 34 then codes "\\\""
    else if nat_eq character 92 then codes "\\\\"
    else if is_control character then codes "?"
    else encode_utf8 character

abbrev pub escaped : List ℕ → List ℕ
escaped name = flat_map escaped_character (chars name)

-- a name in quotation marks
abbrev pub quoted : List ℕ → List ℕ
quoted name = codes "\"" ++ (escaped name ++ codes "\"")

-- words, and a name in quotation marks; none without a name
abbrev pub with_name : List ℕ → Option (List ℕ) → Option (List ℕ)
with_name words None = None
with_name words (Some name) = Some (words ++ quoted name)

-- the key of a limit, and whose it is
abbrev pub limit_text : Known → Name → Option (List ℕ)
limit_text known Server = Some (codes "`rate` of the server")
limit_text known (Direction way) = Some (codes "`" ++ (key_of way ++ codes "` of the server"))
limit_text known (Group way group) =
    with_name (codes "`" ++ (key_of way ++ codes "` of the group "))
    (name_of known (Group way group))
limit_text known (User way user) =
    with_name (codes "`" ++ (key_of way ++ codes "` of the user ")) (name_of known (User way user))
limit_text known (Session way user session) =
    with_name (codes "`session_" ++ (key_of way ++ codes "` of the user "))
    (name_of known (Session way user session))
