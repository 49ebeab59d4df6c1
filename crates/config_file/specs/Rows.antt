-- Rows of each kind, whose default is a value of that kind.
use Rattle.std.specs.Prelude.{◌≤◌, ℕ, Option, Some, None}
use Rattle.toml.specs.Data.{no_items}
use Rattle.ftp_terms.specs.Lines.{HasNoControl}
use Rattle.config_file.specs.declared.kind.KeyKind.{KeyKind}
use Rattle.config_file.specs.declared.kind.KeyKind.TheVariants as kind
use Rattle.config_file.specs.Keys.{KeyRow}
use Rattle.config_file.specs.Values.{Held, nothing, number, text, flag, address, items}

abbrev pub IsNumberDefault : ℕ → Option Held → Type 0
IsNumberDefault high None = Unit {0}
IsNumberDefault high (Some (number n)) = n ≤ high
IsNumberDefault high _ = ⊥

abbrev pub IsNumbered : KeyKind → Option Held → Type 0
IsNumbered (kind.Number low high) default = IsNumberDefault high default
IsNumbered _ default = ⊥

abbrev pub IsNumberRow : KeyRow → Type 0
IsNumberRow row = IsNumbered row.kind row.default

-- the largest number that a kind has
abbrev pub highest_of : KeyKind → ℕ
highest_of (kind.Number low high) = high
highest_of _ = 0

abbrev pub highest : KeyRow → ℕ
highest row = highest_of row.kind

abbrev pub IsSmallRow : KeyRow → Type 0
IsSmallRow row = IsNumberRow row × (highest row ≤ 65535)

abbrev pub IsTexted : KeyKind → Option Held → Type 0
IsTexted kind.Text None = Unit {0}
IsTexted _ default = ⊥

abbrev pub IsTextRow : KeyRow → Type 0
IsTextRow row = IsTexted row.kind row.default

abbrev pub IsLineDefault : Option Held → Type 0
IsLineDefault None = Unit {0}
IsLineDefault (Some (text line)) = HasNoControl line
IsLineDefault _ = ⊥

abbrev pub IsLined : KeyKind → Option Held → Type 0
IsLined kind.Line default = IsLineDefault default
IsLined kind.Password default = IsLineDefault default
IsLined _ default = ⊥

abbrev pub IsLineRow : KeyRow → Type 0
IsLineRow row = IsLined row.kind row.default

abbrev pub IsNothing : Option Held → Type 0
IsNothing (Some nothing) = Unit {0}
IsNothing _ = ⊥

abbrev pub IsOptional : KeyKind → KeyKind → Option Held → Type 0
IsOptional kind.Line kind.Line default = IsNothing default
IsOptional kind.Address kind.Address default = IsNothing default
IsOptional _ _ default = ⊥

-- a line that may be left out
abbrev pub IsOptionalLineRow : KeyRow → Type 0
IsOptionalLineRow row = IsOptional kind.Line row.kind row.default

-- an address that may be left out
abbrev pub IsOptionalAddressRow : KeyRow → Type 0
IsOptionalAddressRow row = IsOptional kind.Address row.kind row.default

abbrev pub IsFlagDefault : Option Held → Type 0
IsFlagDefault None = Unit {0}
IsFlagDefault (Some (flag b)) = Unit {0}
IsFlagDefault _ = ⊥

abbrev pub IsFlagged : KeyKind → Option Held → Type 0
IsFlagged kind.Flag default = IsFlagDefault default
IsFlagged _ default = ⊥

abbrev pub IsFlagRow : KeyRow → Type 0
IsFlagRow row = IsFlagged row.kind row.default

abbrev pub IsAddressDefault : Option Held → Type 0
IsAddressDefault None = Unit {0}
IsAddressDefault (Some (address octets)) = Unit {0}
IsAddressDefault _ = ⊥

abbrev pub IsAddressed : KeyKind → Option Held → Type 0
IsAddressed kind.Address default = IsAddressDefault default
IsAddressed _ default = ⊥

abbrev pub IsAddressRow : KeyRow → Type 0
IsAddressRow row = IsAddressed row.kind row.default

abbrev pub IsTabled : KeyKind → Option Held → Type 0
IsTabled kind.Table None = Unit {0}
IsTabled _ default = ⊥

abbrev pub IsTableRow : KeyRow → Type 0
IsTableRow row = IsTabled row.kind row.default

abbrev pub IsListed : KeyKind → Option Held → Type 0
IsListed kind.Rows (Some (items no_items)) = Unit {0}
IsListed _ default = ⊥

abbrev pub IsListRow : KeyRow → Type 0
IsListRow row = IsListed row.kind row.default
