-- The value of a key, by its kind and its range.
use Rattle.std.specs.Prelude.{◌≡◌, ℕ, Bool, ◌||◌, pos, negsuc, if◌then◌else◌, List, nat_lt, Option, Some, None, Result, Ok, Err, MatchResult}
use Rattle.std.specs.List.{list_any}
use Rattle.std.specs.Net.Addr.{ipv4_octets}
use Rattle.std.specs.Net.Grammar.{IsIpv4Text}
use Rattle.std.specs.declared.net.ipv4_addr.Ipv4Addr.{Ipv4Addr}
use Rattle.toml.specs.Data.{Data, string, integer, boolean, array, table, Items, Members}
use Rattle.ftp_terms.specs.Lines.{is_control}
use Rattle.config_file.specs.declared.fault.Problem.{Problem}
use Rattle.config_file.specs.declared.fault.Problem.TheVariants.{WrongKind, OutOfRange}
use Rattle.config_file.specs.declared.kind.KeyKind.{KeyKind}
use Rattle.config_file.specs.declared.kind.KeyKind.TheVariants.{Text, Line, Password, Flag, Number, Address, Table, Rows}

-- the value of a key; `nothing` for an optional key that is left out
pub data Held : Type 0 where
  nothing : Held
  number : ℕ → Held
  text : List ℕ → Held
  flag : Bool → Held
  address : List ℕ → Held
  inner : Members → Held
  items : Items → Held

-- a value that may be left out
abbrev pub text_if : Option (List ℕ) → Held
text_if None = nothing
text_if (Some s) = text s

abbrev pub address_if : Option (List ℕ) → Held
address_if None = nothing
address_if (Some octets) = address octets

-- a value, or its problem
abbrev pub Judged : Type 0
Judged = Result Held Problem

abbrev pub as_number : ℕ → ℕ → Data → Judged
as_number low high (integer (pos n)) =
    if nat_lt n low || nat_lt high n then Err (OutOfRange (Number low high)) else Ok (number n)
as_number low high (integer (negsuc n)) = Err (OutOfRange (Number low high))
as_number low high _ = Err (WrongKind (Number low high))

abbrev pub as_text : Data → Judged
as_text (string s) = Ok (text s)
as_text _ = Err (WrongKind Text)

-- a text without control octets
abbrev pub as_line : KeyKind → Data → Judged
as_line kind (string s) = if list_any is_control s then Err (OutOfRange kind) else Ok (text s)
as_line kind _ = Err (WrongKind kind)

abbrev pub as_flag : Data → Judged
as_flag (boolean b) = Ok (flag b)
as_flag _ = Err (WrongKind Flag)

abbrev pub as_inner : Data → Judged
as_inner (table members) = Ok (inner members)
as_inner _ = Err (WrongKind Table)

abbrev pub as_items : Data → Judged
as_items (array elements) = Ok (items elements)
as_items _ = Err (WrongKind Rows)

-- the text is the address of these octets
abbrev pub IsAddressHeld : List ℕ → Held → Type 0
IsAddressHeld s (address octets) = (a : Ipv4Addr) × (octets ≡ ipv4_octets a) × IsIpv4Text s a
IsAddressHeld s _ = ⊥

-- the text is no address
abbrev pub IsNoAddress : List ℕ → Problem → Type 0
IsNoAddress s problem = (problem ≡ OutOfRange Address) × ((a : Ipv4Addr) → IsIpv4Text s a → ⊥)

abbrev pub ReadsAddress : Data → Judged → Type 0
ReadsAddress (string s) judged = MatchResult judged (IsAddressHeld s) (IsNoAddress s)
ReadsAddress _ judged = judged ≡ Err (WrongKind Address)

-- the result of reading a value of this kind
abbrev pub Reads : KeyKind → Data → Judged → Type 0
Reads Text found judged = judged ≡ as_text found
Reads Line found judged = judged ≡ as_line Line found
Reads Password found judged = judged ≡ as_line Password found
Reads Flag found judged = judged ≡ as_flag found
Reads (Number low high) found judged = judged ≡ as_number low high found
Reads Address found judged = ReadsAddress found judged
Reads Table found judged = judged ≡ as_inner found
Reads Rows found judged = judged ≡ as_items found
