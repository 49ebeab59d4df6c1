-- Commands with texts of any type.
use Rattle.std.specs.Prelude.{ℕ, List, Option, Some, None, option_map}
use Rattle.ftp_terms.specs.declared.data_type.DataType.{DataType}
use Rattle.ftp_wire.specs.declared.commands.Command.{Command}
use Rattle.ftp_wire.specs.declared.commands.Command.TheVariants as command
use Rattle.ftp_wire.specs.declared.commands.ExtendedPassive.{ExtendedPassive}
use Rattle.ftp_wire.specs.declared.commands.ExtendedPort.{ExtendedPort}
use Rattle.ftp_wire.specs.declared.commands.FeatureOption.{FeatureOption}
use Rattle.ftp_wire.specs.declared.commands.HostPort.{HostPort}
use Rattle.ftp_wire.specs.declared.table.Verb.{Verb}
use Rattle.ftp_wire.specs.declared.table.Verb.TheVariants as verb
use Rattle.ftp_wire.specs.declared.table.Bare.{Bare}
use Rattle.ftp_wire.specs.declared.table.Bare.TheVariants as bare
use Rattle.ftp_wire.specs.declared.table.Text.{Text}
use Rattle.ftp_wire.specs.declared.table.Text.TheVariants as text
use Rattle.ftp_wire.specs.declared.table.Form.TheVariants as form
use Rattle.ftp_wire.specs.declared.table.Optional.{Optional}
use Rattle.ftp_wire.specs.declared.table.Optional.TheVariants as optional
use Rattle.ftp_wire.specs.declared.table.Listing.{Listing}
use Rattle.ftp_wire.specs.declared.table.Listing.TheVariants as listing
use Rattle.ftp_wire.specs.Table.{bare_row, listing_row, optional_row, text_row}

-- an argument with a form of its own
pub data Argument : Type 0 where
  for_type : DataType → Argument
  for_mode : Argument
  for_structure : Argument
  for_port : HostPort → Argument
  for_extended_port : ExtendedPort → Argument
  for_passive : ExtendedPassive → Argument
  for_offset : ℕ → Argument
  for_option : FeatureOption → Argument

-- a command in parts, by the kind of its argument
pub data Parts (T : Type 0) : Type 0 where
  bare_part : Bare → Parts T
  text_part : Text → T → Parts T
  optional_part : Optional → Option T → Parts T
  listing_part : Listing → Option T → Parts T
  form_part : Argument → Parts T

-- the parts of a command: one row for each command
abbrev pub parts_of : {T : Type 0} → Command T → Parts T
parts_of (command.User t) = text_part text.User t
parts_of (command.Pass t) = optional_part optional.Pass t
parts_of (command.Cwd t) = text_part text.Cwd t
parts_of command.Cdup = bare_part bare.Cdup
parts_of command.Quit = bare_part bare.Quit
parts_of command.Rein = bare_part bare.Rein
parts_of (command.SetType argument) = form_part (for_type argument)
parts_of command.Mode = form_part for_mode
parts_of command.Stru = form_part for_structure
parts_of (command.Port argument) = form_part (for_port argument)
parts_of (command.Eprt argument) = form_part (for_extended_port argument)
parts_of command.Pasv = bare_part bare.Pasv
parts_of (command.Epsv argument) = form_part (for_passive argument)
parts_of (command.Retr t) = text_part text.Retr t
parts_of (command.Stor t) = text_part text.Stor t
parts_of (command.Appe t) = text_part text.Appe t
parts_of (command.Rest argument) = form_part (for_offset argument)
parts_of (command.Rnfr t) = text_part text.Rnfr t
parts_of (command.Rnto t) = text_part text.Rnto t
parts_of command.Abor = bare_part bare.Abor
parts_of (command.Dele t) = text_part text.Dele t
parts_of (command.Rmd t) = text_part text.Rmd t
parts_of (command.Mkd t) = text_part text.Mkd t
parts_of command.Pwd = bare_part bare.Pwd
parts_of (command.Size t) = text_part text.Size t
parts_of (command.Mdtm t) = text_part text.Mdtm t
parts_of (command.List t) = listing_part listing.List t
parts_of (command.Nlst t) = listing_part listing.Nlst t
parts_of (command.Mlsd t) = optional_part optional.Mlsd t
parts_of (command.Mlst t) = optional_part optional.Mlst t
parts_of (command.Stat t) = listing_part listing.Stat t
parts_of (command.Opts argument) = form_part (for_option argument)
parts_of command.Feat = bare_part bare.Feat
parts_of (command.Allo t) = optional_part optional.Allo t
parts_of command.Syst = bare_part bare.Syst
parts_of (command.Help t) = optional_part optional.Help t
parts_of command.Noop = bare_part bare.Noop

abbrev pub bare_command : {T : Type 0} → Bare → Command T
bare_command v = (bare_row v).1

abbrev pub text_command : {T : Type 0} → Text → T → Command T
text_command v t = (text_row v).1 t

abbrev pub optional_command : {T : Type 0} → Optional → Option T → Command T
optional_command v t = (optional_row v).1 t

abbrev pub listing_command : {T : Type 0} → Listing → Option T → Command T
listing_command v t = (listing_row v).1 t

abbrev pub argument_command : {T : Type 0} → Argument → Command T
argument_command (for_type argument) = command.SetType argument
argument_command for_mode = command.Mode
argument_command for_structure = command.Stru
argument_command (for_port argument) = command.Port argument
argument_command (for_extended_port argument) = command.Eprt argument
argument_command (for_passive argument) = command.Epsv argument
argument_command (for_offset argument) = command.Rest argument
argument_command (for_option argument) = command.Opts argument

-- the command with these parts, its text as a list of octets
abbrev pub joined : {T : Type 0} → (T → List ℕ) → Parts T → Command (List ℕ)
joined f (bare_part v) = bare_command v
joined f (text_part v t) = text_command v (f t)
joined f (optional_part v t) = optional_command v (option_map f t)
joined f (listing_part v t) = listing_command v (option_map f t)
joined f (form_part argument) = argument_command argument

-- the command with its texts as lists of octets
abbrev pub with_texts : {T : Type 0} → (T → List ℕ) → Command T → Command (List ℕ)
with_texts f c = joined f (parts_of c)

abbrev pub argument_verb : Argument → Verb
argument_verb (for_type _) = verb.Form form.SetType
argument_verb for_mode = verb.Form form.Mode
argument_verb for_structure = verb.Form form.Stru
argument_verb (for_port _) = verb.Form form.Port
argument_verb (for_extended_port _) = verb.Form form.Eprt
argument_verb (for_passive _) = verb.Epsv
argument_verb (for_offset _) = verb.Form form.Rest
argument_verb (for_option _) = verb.Form form.Opts

abbrev pub part_verb : {T : Type 0} → Parts T → Verb
part_verb (bare_part v) = verb.Bare v
part_verb (text_part v _) = verb.Text v
part_verb (optional_part v _) = verb.Optional v
part_verb (listing_part v _) = verb.Listing v
part_verb (form_part argument) = argument_verb argument

-- the command without its argument
abbrev pub verb_of : {T : Type 0} → Command T → Verb
verb_of c = part_verb (parts_of c)

abbrev pub part_text : {T : Type 0} → Parts T → Option T
part_text (text_part _ t) = Some t
part_text (optional_part _ t) = t
part_text (listing_part _ t) = t
part_text _ = None

-- the text of a command, if it has one
abbrev pub text_argument : {T : Type 0} → Command T → Option T
text_argument c = part_text (parts_of c)
