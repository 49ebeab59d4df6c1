-- The commands that lines represent.
use Rattle.std.specs.Prelude.{◌≡◌, ◌≢◌, ◌≤◌, ◌<◌, ◌^◌, ◌==◌, ℕ, List, IfSome, Ok, false, length, slice_index, true}
use Rattle.ftp_wire.specs.declared.items.TheConstants.{LONGEST_LINE}
use Rattle.ftp_wire.specs.declared.commands.Command.{Command}
use Rattle.ftp_wire.specs.declared.commands.ExtendedPassive.{ExtendedPassive}
use Rattle.ftp_wire.specs.declared.commands.ExtendedPassive.TheVariants.{Protocol}
use Rattle.ftp_wire.specs.declared.commands.ExtendedPort.{ExtendedPort}
use Rattle.ftp_wire.specs.declared.commands.ExtendedPort.TheVariants.{Ipv4, Unsupported}
use Rattle.ftp_wire.specs.declared.commands.HostPort.{HostPort}
use Rattle.ftp_wire.specs.Commands.{Argument, Parts, bare_part, for_extended_port, for_offset, for_passive, for_port, form_part, listing_part, optional_part, parts_of, text_part}
use Rattle.ftp_wire.specs.Items.{line_item}
use Rattle.ftp_wire.specs.Words.{is_blank, is_text}
use Rattle.ftp_wire.specs.Written.{written_line}

-- a text that is an argument: printable, and not only spaces
pub record IsArgument (text : List ℕ) : Type 0 where
  pub some : is_blank text ≡ false
  pub printed : is_text text ≡ true

pub record IsHostPort (host_port : HostPort) : Type 0 where
  pub four : length host_port.address ≡ 4
  pub octets : (i : ℕ) → slice_index host_port.address i ≤ 255
  pub port : host_port.port ≤ 65535

abbrev pub IsExtendedPort : ExtendedPort → Type 0
IsExtendedPort (Ipv4 host_port) = IsHostPort host_port
IsExtendedPort (Unsupported protocol) = (protocol ≤ 65535) × (protocol ≢ 1)

abbrev pub IsExtendedPassive : ExtendedPassive → Type 0
IsExtendedPassive (Protocol protocol) = protocol ≤ 65535
IsExtendedPassive _ = Unit {0}

abbrev pub IsOffset : ℕ → Type 0
IsOffset offset = offset < 10 ^ 19

abbrev pub IsGivenArgument : Argument → Type 0
IsGivenArgument (for_port to) = IsHostPort to
IsGivenArgument (for_extended_port to) = IsExtendedPort to
IsGivenArgument (for_passive protocol) = IsExtendedPassive protocol
IsGivenArgument (for_offset octets) = IsOffset octets
IsGivenArgument _ = Unit {0}

abbrev pub AreGiven : Parts (List ℕ) → Type 0
AreGiven (bare_part _) = Unit {0}
AreGiven (text_part _ text) = IsArgument text
AreGiven (optional_part _ text) = IfSome text IsArgument
AreGiven (listing_part _ text) = IfSome text IsArgument
AreGiven (form_part argument) = IsGivenArgument argument

-- the property of each command that a line represents
abbrev pub IsGiven : Command (List ℕ) → Type 0
IsGiven c = AreGiven (parts_of c)

-- the text does not begin with a hyphen
abbrev pub HasNoHyphen : List ℕ → Type 0
HasNoHyphen text = (slice_index text 0 == 45) ≡ false

-- if it did, it would be read as switches
abbrev pub HaveNoSwitch : Parts (List ℕ) → Type 0
HaveNoSwitch (listing_part _ text) = IfSome text HasNoHyphen
HaveNoSwitch _ = Unit {0}

abbrev pub HasNoSwitch : Command (List ℕ) → Type 0
HasNoSwitch c = HaveNoSwitch (parts_of c)

-- some line represents the command, and its written line is read as the same command
pub record CanBeReadBack (c : Command (List ℕ)) : Type 0 where
  pub line : List ℕ
  pub given : line_item line ≡ Ok c
  pub no_switch : HasNoSwitch c
  pub fits : length (written_line c) ≤ LONGEST_LINE
