-- The begin of a statement of a TOML text: the header of a table, or a key.
use Rattle.std.specs.Prelude.{ℕ, Bool, true, false, ◌||◌, ◌&&◌, not, nat_eq, List, length, drop, codes, Option, Some, None, is_some, option_map, option_and_then, if◌then◌else◌}
use Rattle.std.specs.List.{starts_with, prefix_len}
use Rattle.std.specs.Option.{option_or}
use Rattle.config_file.specs.declared.fault.TableName.{TableName}
use Rattle.config_file.specs.declared.fault.TableName.TheVariants as name

abbrev pub is_blank : ℕ → Bool
is_blank octet = nat_eq octet 32 || nat_eq octet 9

abbrev pub after_blanks : List ℕ → List ℕ
after_blanks octets = drop (prefix_len is_blank octets) octets

-- the rest after a text at the front
abbrev pub after_text : List ℕ → List ℕ → Option (List ℕ)
after_text text octets =
    if starts_with nat_eq octets text then Some (drop (length text) octets) else None

-- the rest after a name between two quotes
abbrev pub after_quoted : List ℕ → List ℕ → List ℕ → Option (List ℕ)
after_quoted quote text octets =
    option_and_then (after_text quote)
    (option_and_then (after_text text) (after_text quote octets))

-- the rest after a name in one of its three spellings
abbrev pub after_spelled : List ℕ → List ℕ → Option (List ℕ)
after_spelled text octets =
    option_or (after_text text octets)
    (option_or (after_quoted (codes "\"") text octets) (after_quoted (codes "'") text octets))

-- the same, with the blanks around it
abbrev pub after_name : List ℕ → List ℕ → Option (List ℕ)
after_name text octets = option_map after_blanks (after_spelled text (after_blanks octets))

-- a name between these texts is at the front
abbrev pub is_between : List ℕ → List ℕ → List ℕ → List ℕ → Bool
is_between front text back octets =
    is_some (option_and_then (after_text back)
    (option_and_then (after_name text) (after_text front octets)))

-- the header of a table; the keys above all tables have none
abbrev pub is_header : TableName → List ℕ → Bool
is_header name.Top octets = false
is_header name.Server octets = is_between (codes "[") (codes "server") (codes "]") octets
is_header name.Group octets = is_between (codes "[[") (codes "group") (codes "]]") octets
is_header name.User octets = is_between (codes "[[") (codes "user") (codes "]]") octets
is_header (name.Override user) octets =
    is_some (option_and_then (after_text (codes "]]"))
    (option_and_then (after_name (codes "override"))
    (option_and_then (after_text (codes ".")) (option_and_then (after_name (codes "user"))
    (after_text (codes "[[") octets)))))
is_header name.Dir octets = is_between (codes "[[") (codes "dir") (codes "]]") octets
is_header name.File octets = is_between (codes "[[") (codes "file") (codes "]]") octets

-- a header that begins with the key
abbrev pub is_headed : List ℕ → List ℕ → Bool
is_headed key octets =
    (is_between (codes "[") key (codes "]") octets || is_between (codes "[") key (codes ".") octets)
    || (is_between (codes "[[") key (codes "]]") octets
    || is_between (codes "[[") key (codes ".") octets)

-- the value of the key, or of a key of its table
abbrev pub is_stated : List ℕ → List ℕ → Bool
is_stated key octets =
    is_between (codes "") key (codes "=") octets || is_between (codes "") key (codes ".") octets
