-- The line of a fault in the text of a file.
use Rattle.std.specs.Prelude.{◌≡◌, ℕ, Bool, false, ◌||◌, ◌&&◌, nat_eq, List, [], ◌∷◌, codes, string_bytes}
use Rattle.config_file.specs.TextLines.{line_of}
use Rattle.server_config.specs.declared.fault.ConfigFault.{ConfigFault}
use Rattle.server_config.specs.declared.fault.ConfigFault.TheVariants.{NotToml, Key, BadGroup, BadUser, BadStore}
use Rattle.server_config.specs.declared.fault.OwnedHeader.{OwnedHeader}

-- a byte order mark of UTF-16 is at the front, or one of the first two octets is 0
abbrev pub is_utf16 : List ℕ → Bool
is_utf16 (first ∷ second ∷ more) =
    ((nat_eq first 254 && nat_eq second 255) || (nat_eq first 255 && nat_eq second 254))
    || (nat_eq first 0 || nat_eq second 0)
is_utf16 octets = false

-- the header has the line of its table in the text; above all tables, that of the key
abbrev pub IsAtLine : List ℕ → List ℕ → OwnedHeader → Type 0
IsAtLine octets key header = header.line ≡ line_of octets header.table header.row key

-- a fault of a table has its line in the text; one of the whole text says whether that is UTF-16
abbrev pub HasLine : List ℕ → ConfigFault → Type 0
HasLine octets (NotToml place problem) = problem.is_utf16 ≡ is_utf16 octets
HasLine octets (Key header key problem) = IsAtLine octets (string_bytes key.name) header
HasLine octets (BadGroup header problem) = IsAtLine octets (codes "") header
HasLine octets (BadUser header problem) = IsAtLine octets (codes "") header
HasLine octets (BadStore header problem) = IsAtLine octets (codes "") header
HasLine octets _ = Unit {0}
