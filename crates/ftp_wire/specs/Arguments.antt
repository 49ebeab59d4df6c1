-- The arguments of commands.
use Rattle.std.specs.Prelude.{ℕ, ◌+◌, ◌*◌, ◌==◌, ◌&&◌, ◌||◌, List, [], ◌∷◌, Bool, Option, Some, None, Result, Ok, Err, if◌then◌else◌, codes, ◌-◌, drop, false, length, min, nat_le, nat_lt, not, option_and_then, option_map, slice_index_or, take}
use Rattle.std.specs.List.{after_first, list_any, slice_split}
use Rattle.std.specs.Str.{all_ascii_digits}
use Rattle.std.specs.Str.Parse.{digits_value}
use Rattle.ftp_terms.specs.declared.data_type.DataType.{DataType}
use Rattle.ftp_terms.specs.declared.data_type.DataType.TheVariants.{Ascii, Image}
use Rattle.ftp_wire.specs.declared.commands.ExtendedPassive.{ExtendedPassive}
use Rattle.ftp_wire.specs.declared.commands.ExtendedPassive.TheVariants.{All, Protocol}
use Rattle.ftp_wire.specs.declared.commands.ExtendedPort.{ExtendedPort}
use Rattle.ftp_wire.specs.declared.commands.ExtendedPort.TheVariants.{Ipv4, Unsupported}
use Rattle.ftp_terms.specs.declared.facts.Facts.{Facts}
use Rattle.ftp_wire.specs.declared.commands.FeatureOption.{FeatureOption}
use Rattle.ftp_wire.specs.declared.commands.FeatureOption.TheVariants.{Mlst, Utf8On}
use Rattle.ftp_wire.specs.declared.commands.HostPort.{HostPort}
use Rattle.ftp_wire.specs.declared.faults.LineFault.{LineFault}
use Rattle.ftp_wire.specs.declared.faults.LineFault.TheVariants.{BadArgument, BadParameter}
use Rattle.ftp_wire.specs.Words.{comma, dot, hyphen, is_blank, is_space, same_letters, semicolon}

infixl 10 ◌>>=◌
abbrev pub ◌>>=◌ : {A B : Type 0} → Option A → (A → Option B) → Option B
o >>= f = option_and_then f o

-- the value; if there is none, the argument is bad
abbrev pub or_bad : {X : Type 0} → Option X → Result X LineFault
or_bad None = Err BadArgument
or_bad (Some x) = Ok x

-- decimal digits, at least one, and the number that they represent
abbrev pub is_number : List ℕ → Bool
is_number text = not (length text == 0) && all_ascii_digits text

unfoldable pub number_of : List ℕ → Option ℕ
number_of text = if is_number text then Some (digits_value 10 text) else None

-- a number of at most `limit`
unfoldable pub number_up_to : ℕ → List ℕ → Option ℕ
number_up_to limit text = number_of text >>= λ n. if nat_le n limit then Some n else None

-- a number, cut to `limit`
unfoldable pub number_cut_at : ℕ → List ℕ → Option ℕ
number_cut_at limit text = option_map (λ n. min n limit) (number_of text)

-- one to three digits, 0 to 255
unfoldable pub octet_of : List ℕ → Option ℕ
octet_of text = if nat_le (length text) 3 then number_up_to 255 text else None

-- the text after a word at the start; letters match in either case
unfoldable pub after_word : List ℕ → List ℕ → Option (List ℕ)
after_word word text =
    if same_letters (take (length word) text) word then Some (drop (length word) text) else None

-- L and the size of an octet: 8 is the same as I; any other up to 255 is not served
abbrev pub local_size : Option ℕ → Result DataType LineFault
local_size None = Err BadArgument
local_size (Some n) =
    if n == 8 then Ok Image
    else (if nat_lt 0 n && nat_le n 255 then Err BadParameter else Err BadArgument)

abbrev pub local_type : List ℕ → Result DataType LineFault
local_type text = local_size (after_word (codes "L ") text >>= number_cut_at 65535)

-- TYPE (RFC 959, section 3.1.1)
unfoldable pub type_of : List ℕ → Result DataType LineFault
type_of text =
    if same_letters text (codes "A") || same_letters text (codes "A N") then Ok Ascii else
    (if same_letters text (codes "I") then Ok Image else
    (if same_letters text (codes "E")
    || (same_letters text (codes "A T") || same_letters text (codes "A C"))
    then Err BadParameter else
    local_type text))

-- MODE and STRU: one letter is served, two others are known (RFC 959, sections 3.4 and 3.1.2)
unfoldable pub letter_of : List ℕ → List ℕ → List ℕ → List ℕ → Result (Unit {0}) LineFault
letter_of served one other text =
    if same_letters text served then Ok tt else
    (if same_letters text one || same_letters text other then Err BadParameter else
    Err BadArgument)

-- six numbers of one octet, the last two the port (RFC 959, section 4.1.2)
abbrev pub host_port : List (List ℕ) → Option HostPort
host_port (a ∷ b ∷ c ∷ d ∷ high ∷ low ∷ []) = do
  h1 ← octet_of a
  h2 ← octet_of b
  h3 ← octet_of c
  h4 ← octet_of d
  p1 ← octet_of high
  p2 ← octet_of low
  Some (record { address = h1 ∷ h2 ∷ h3 ∷ h4 ∷ []; port = p1 * 256 + p2 })
host_port _ = None

-- the parts between octets of this value
abbrev pub parts_at : ℕ → List ℕ → List (List ℕ)
parts_at wanted text = slice_split (λ octet. octet == wanted) text

unfoldable pub port_of : List ℕ → Result HostPort LineFault
port_of text = or_bad (host_port (parts_at comma text))

-- four numbers up to 255
abbrev pub host : List (List ℕ) → Option (List ℕ)
host (a ∷ b ∷ c ∷ d ∷ []) = do
  h1 ← number_up_to 255 a
  h2 ← number_up_to 255 b
  h3 ← number_up_to 255 c
  h4 ← number_up_to 255 d
  Some (h1 ∷ h2 ∷ h3 ∷ h4 ∷ [])
host _ = None

unfoldable pub host_of : List ℕ → Option (List ℕ)
host_of text = host (parts_at dot text)

abbrev pub ipv4 : List ℕ → List ℕ → Option ExtendedPort
ipv4 address port = do
  h ← host_of address
  p ← number_up_to 65535 port
  Some (Ipv4 (record { address = h; port = p }))

-- the parts of EPRT's argument: protocol, address, port, and nothing after the last delimiter (RFC
-- 2428, section 2); for a protocol other than 1, address and port may be anything
abbrev pub extended_parts : List (List ℕ) → Option ExtendedPort
extended_parts (protocol ∷ address ∷ port ∷ [] ∷ []) = do
  n ← number_cut_at 65535 protocol
  if n == 1 then ipv4 address port else Some (Unsupported n)
extended_parts _ = None

-- the delimiter is a printable octet of ASCII
unfoldable pub extended_port_of : List ℕ → Result ExtendedPort LineFault
extended_port_of [] = Err BadArgument
extended_port_of (delimiter ∷ text) =
    if nat_le 33 delimiter && nat_le delimiter 126
    then or_bad (extended_parts (parts_at delimiter text))
    else Err BadArgument

-- EPSV (RFC 2428, section 3)
unfoldable pub extended_passive_of : List ℕ → Result ExtendedPassive LineFault
extended_passive_of text =
    if same_letters text (codes "ALL") then Ok All
    else or_bad (option_map Protocol (number_cut_at 65535 text))

-- REST: an offset of at most 19 digits (RFC 3659, section 5)
unfoldable pub offset_of : List ℕ → Result ℕ LineFault
offset_of text = if nat_le (length text) 19 then or_bad (number_of text) else Err BadArgument

abbrev pub names_fact : List ℕ → List (List ℕ) → Bool
names_fact fact names = list_any (λ name. same_letters name fact) names

-- the facts in the list; unknown names are ignored
unfoldable pub facts_of : List (List ℕ) → Facts
facts_of names = record {
  kind = names_fact (codes "type") names;
  size = names_fact (codes "size") names;
  modify = names_fact (codes "modify") names;
  perm = names_fact (codes "perm") names;
}

abbrev pub no_facts : Facts
no_facts = record { kind = false; size = false; modify = false; perm = false }

-- no names, or each followed by a semicolon and without a space
abbrev pub is_name_list : List ℕ → Bool
is_name_list text =
    length text == 0
    || (slice_index_or text (length text - 1) 0 == semicolon && not (list_any is_space text))

abbrev pub listed_facts : Option (List ℕ) → Option FeatureOption
listed_facts None = None
listed_facts (Some names) =
    if is_name_list names then Some (Mlst (facts_of (parts_at semicolon names))) else None

-- OPTS (RFC 2389, section 4; RFC 3659, section 7.9)
unfoldable pub option_of : List ℕ → Result FeatureOption LineFault
option_of text =
    if same_letters text (codes "UTF8 ON") then Ok Utf8On else
    (if same_letters text (codes "MLST") then Ok (Mlst no_facts) else
    or_bad (listed_facts (after_word (codes "MLST ") text)))

-- drops a first word that begins with a hyphen, such as `-la` in LIST, NLST and STAT, with the
-- space after it
unfoldable pub without_switches : List ℕ → Option (List ℕ)
without_switches text =
    if slice_index_or text 0 0 == hyphen
    then (if is_blank (after_first is_space text) then None else Some (after_first is_space text))
    else Some text
