-- The line of a command.
use Rattle.std.specs.Prelude.{ℕ, ◌/◌, ◌%◌, ◌++◌, List, [], ◌∷◌, Bool, true, false, Option, Some, None, codes, ◌||◌, if◌then◌else◌, slice_index}
use Rattle.std.specs.Fmt.{decimal}
use Rattle.ftp_wire.specs.declared.commands.Command.{Command}
use Rattle.ftp_terms.specs.declared.data_type.DataType.{DataType}
use Rattle.ftp_terms.specs.declared.data_type.DataType.TheVariants.{Ascii, Image}
use Rattle.ftp_wire.specs.declared.commands.ExtendedPassive.{ExtendedPassive}
use Rattle.ftp_wire.specs.declared.commands.ExtendedPassive.TheVariants.{All, Protocol, Same}
use Rattle.ftp_wire.specs.declared.commands.ExtendedPort.{ExtendedPort}
use Rattle.ftp_wire.specs.declared.commands.ExtendedPort.TheVariants.{Ipv4, Unsupported}
use Rattle.ftp_terms.specs.declared.facts.Facts.{Facts}
use Rattle.ftp_wire.specs.declared.commands.FeatureOption.{FeatureOption}
use Rattle.ftp_wire.specs.declared.commands.FeatureOption.TheVariants.{Mlst, Utf8On}
use Rattle.ftp_wire.specs.declared.commands.HostPort.{HostPort}
use Rattle.ftp_wire.specs.Commands.{Argument, Parts, for_extended_port, for_mode, for_offset, for_option, for_passive, for_port, for_structure, for_type, form_part, parts_of, text_argument, verb_of}
use Rattle.ftp_wire.specs.Table.{code}
use Rattle.ftp_wire.specs.Words.{comma, dot}

abbrev pub type_text : DataType → List ℕ
type_text Ascii = codes "A"
type_text Image = codes "I"

-- the four numbers of an address with separators between them, and what follows
abbrev pub host_text : ℕ → List ℕ → List ℕ → List ℕ
host_text separator address after =
    decimal (slice_index address 0) ++ separator ∷ (decimal (slice_index address 1)
    ++ separator ∷ (decimal (slice_index address 2)
    ++ separator ∷ (decimal (slice_index address 3) ++ after)))

unfoldable pub port_text : HostPort → List ℕ
port_text host_port = host_text comma host_port.address
    (comma ∷ (decimal (host_port.port / 256) ++ comma ∷ decimal (host_port.port % 256)))

unfoldable pub extended_port_text : ExtendedPort → List ℕ
extended_port_text (Ipv4 host_port) =
    codes "|1|" ++ host_text dot host_port.address (124 ∷ (decimal host_port.port ++ codes "|"))
extended_port_text (Unsupported protocol) = 124 ∷ (decimal protocol ++ codes "|||")

abbrev pub extended_passive_text : ExtendedPassive → Option (List ℕ)
extended_passive_text Same = None
extended_passive_text All = Some (codes "ALL")
extended_passive_text (Protocol protocol) = Some (decimal protocol)

abbrev pub fact_text : Bool → List ℕ → List ℕ
fact_text true name = name
fact_text false name = []

unfoldable pub facts_text : Facts → List ℕ
facts_text facts =
    fact_text facts.kind (codes "type;") ++ (fact_text facts.size (codes "size;")
    ++ (fact_text facts.modify (codes "modify;") ++ fact_text facts.perm (codes "perm;")))

-- a star after the name of a fact that is enabled
abbrev pub starred_fact : Bool → List ℕ → List ℕ
starred_fact in_force name = name ++ (if in_force then codes "*;" else codes ";")

unfoldable pub starred_facts_text : Facts → List ℕ
starred_facts_text facts =
    starred_fact facts.kind (codes "type") ++ (starred_fact facts.size (codes "size")
    ++ (starred_fact facts.modify (codes "modify") ++ starred_fact facts.perm (codes "perm")))

abbrev pub has_facts : Facts → Bool
has_facts facts = facts.kind || (facts.size || (facts.modify || facts.perm))

unfoldable pub option_text : FeatureOption → List ℕ
option_text Utf8On = codes "UTF8 ON"
option_text (Mlst facts) =
    if has_facts facts then codes "MLST " ++ facts_text facts else codes "MLST"

-- an argument with a form of its own, if there is one
abbrev pub argument_text : Argument → Option (List ℕ)
argument_text (for_type argument) = Some (type_text argument)
argument_text for_mode = Some (codes "S")
argument_text for_structure = Some (codes "F")
argument_text (for_port argument) = Some (port_text argument)
argument_text (for_extended_port argument) = Some (extended_port_text argument)
argument_text (for_passive argument) = extended_passive_text argument
argument_text (for_offset argument) = Some (decimal argument)
argument_text (for_option argument) = Some (option_text argument)

abbrev pub part_form : {T : Type 0} → Parts T → Option (List ℕ)
part_form (form_part argument) = argument_text argument
part_form _ = None

-- the argument of a command whose argument has a form of its own
abbrev pub form_argument : {T : Type 0} → Command T → Option (List ℕ)
form_argument c = part_form (parts_of c)

-- a space and the argument, if there is one
abbrev pub argument_part : Option (List ℕ) → List ℕ
argument_part None = []
argument_part (Some text) = 32 ∷ text

-- the code in capitals, and the argument
unfoldable pub written_line : Command (List ℕ) → List ℕ
written_line c =
    code (verb_of c) ++ (argument_part (text_argument c) ++ argument_part (form_argument c))

abbrev pub written : Command (List ℕ) → List ℕ
written c = written_line c ++ 13 ∷ 10 ∷ []
