-- The items that lines represent.
use Rattle.std.specs.Prelude.{ℕ, List, Option, Some, None, Result, Ok, Err, codes, if◌then◌else◌, ◌-◌, ◌==◌, length, nat_le, slice_index_or, take}
use Rattle.std.specs.List.{after_first, before_first}
use Rattle.ftp_wire.specs.declared.items.TheConstants.{LONGEST_LINE}
use Rattle.ftp_wire.specs.declared.commands.Command.{Command}
use Rattle.ftp_wire.specs.declared.commands.Command.TheVariants as command
use Rattle.ftp_wire.specs.declared.commands.ExtendedPassive.TheVariants.{Same}
use Rattle.ftp_wire.specs.declared.faults.LineFault.{LineFault}
use Rattle.ftp_wire.specs.declared.faults.LineFault.TheVariants as fault
use Rattle.ftp_wire.specs.declared.table.Known.{Known}
use Rattle.ftp_wire.specs.declared.table.Known.TheVariants.{NotServed, Served}
use Rattle.ftp_wire.specs.declared.table.Verb.{Verb}
use Rattle.ftp_wire.specs.declared.table.Verb.TheVariants as verb
use Rattle.ftp_wire.specs.declared.table.Form.{Form}
use Rattle.ftp_wire.specs.declared.table.Form.TheVariants as form
use Rattle.ftp_wire.specs.Arguments.{extended_passive_of, extended_port_of, letter_of, offset_of, option_of, port_of, type_of, without_switches}
use Rattle.ftp_wire.specs.Commands.{bare_command, listing_command, optional_command, text_command}
use Rattle.ftp_wire.specs.Table.{row_of, table}
use Rattle.ftp_wire.specs.Words.{is_blank, is_space, is_text}

-- a command with its texts as octets, or the fault of the line
abbrev pub Item : Type 0
Item = Result (Command (List ℕ)) LineFault

abbrev pub with_command : {X T : Type 0}
    → (X → Command T) → Result X LineFault → Result (Command T) LineFault
with_command make (Ok argument) = Ok (make argument)
with_command make (Err fault) = Err fault

-- the commands whose argument has a form of its own
abbrev pub form_command : {T : Type 0} → Form → List ℕ → Result (Command T) LineFault
form_command form.SetType text = with_command command.SetType (type_of text)
form_command form.Mode text =
    with_command (λ _. command.Mode) (letter_of (codes "S") (codes "B") (codes "C") text)
form_command form.Stru text =
    with_command (λ _. command.Stru) (letter_of (codes "F") (codes "R") (codes "P") text)
form_command form.Port text = with_command command.Port (port_of text)
form_command form.Eprt text = with_command command.Eprt (extended_port_of text)
form_command form.Rest text = with_command command.Rest (offset_of text)
form_command form.Opts text = with_command command.Opts (option_of text)

-- a command without an argument
abbrev pub absent_item : Verb → Item
absent_item (verb.Bare v) = Ok (bare_command v)
absent_item (verb.Text v) = Err fault.ArgumentMissing
absent_item (verb.Form v) = Err fault.ArgumentMissing
absent_item (verb.Optional v) = Ok (optional_command v None)
absent_item (verb.Listing v) = Ok (listing_command v None)
absent_item verb.Epsv = Ok (command.Epsv Same)

-- a command with a text
abbrev pub text_item : Verb → List ℕ → Item
text_item (verb.Bare v) text = Err fault.ArgumentUnwanted
text_item (verb.Text v) text = Ok (text_command v text)
text_item (verb.Form v) text = form_command v text
text_item (verb.Optional v) text = Ok (optional_command v (Some text))
text_item (verb.Listing v) text = Ok (listing_command v (without_switches text))
text_item verb.Epsv text = with_command command.Epsv (extended_passive_of text)

-- a command with an argument
abbrev pub argument_item : Verb → List ℕ → Item
argument_item (verb.Bare v) argument = Err fault.ArgumentUnwanted
argument_item v argument = if is_text argument then text_item v argument else Err fault.BadArgument

-- an argument that is empty or only spaces counts as absent
abbrev pub verb_item : Verb → List ℕ → Item
verb_item v argument = if is_blank argument then absent_item v else argument_item v argument

-- the item for a row of the table and the argument
abbrev pub known_item : Option Known → List ℕ → Item
known_item None argument = Err fault.Unknown
known_item (Some NotServed) argument = Err fault.NotServed
known_item (Some (Served v)) argument = verb_item v argument

-- a line without its end: the code ends at the first space, and the argument follows that space
unfoldable pub words_item : List ℕ → Item
words_item line =
    if length (before_first is_space line) == 0 then Err fault.Empty
    else known_item (row_of table (before_first is_space line)) (after_first is_space line)

-- a line without the CR before its LF, if there is one
abbrev pub without_cr : List ℕ → List ℕ
without_cr line =
    if slice_index_or line (length line - 1) 0 == 13 then take (length line - 1) line else line

-- a line without its LF
unfoldable pub line_item : List ℕ → Item
line_item line =
    if nat_le (length (without_cr line)) LONGEST_LINE then words_item (without_cr line)
    else Err fault.TooLong
