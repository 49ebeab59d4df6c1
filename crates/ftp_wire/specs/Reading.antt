-- The items that the octets of a control connection represent.
use Rattle.std.specs.Prelude.{◌≡◌, ◌<◌, ◌≤◌, ◌++◌, ◌∷◌, [], ℕ, List, Bool, true, false, Ok, Err, length, map, string_bytes, vec_len}
use Rattle.ftp_wire.specs.declared.items.TheConstants.{LONGEST_HELD}
use Rattle.ftp_wire.specs.declared.commands.Command.{Command}
use Rattle.ftp_wire.specs.declared.items.LineItem.{LineItem}
use Rattle.ftp_wire.specs.declared.items.LineItem.TheVariants as item
use Rattle.ftp_wire.specs.declared.lines.OpenLine.{OpenLine}
use Rattle.ftp_wire.specs.declared.reader.LineReader.{LineReader}
use Rattle.ftp_wire.specs.Commands.{with_texts}
use Rattle.ftp_wire.specs.Items.{Item, line_item}
use Rattle.ftp_wire.specs.Lines.{Cuts}
use Rattle.ftp_wire.specs.Stages.{StripsTo}
use Rattle.ftp_wire.specs.Telnet.{Strips}

-- an item with its texts as octets
abbrev pub item_of : {A : Type 0} → LineItem A → Item
item_of (item.Command command) = Ok (with_texts string_bytes command)
item_of (item.Fault fault) = Err fault

abbrev pub items_of : {A : Type 0} → List (LineItem A) → List Item
items_of = map item_of

-- The octets represent the items: Telnet commands are removed, the rest is cut at each LF, and each
-- line is one item.
pub record ReadsAs (octets : List ℕ) (items : List Item) : Type 0 where
  pub text : List ℕ
  pub lines : List (List ℕ)
  pub rest : List ℕ
  pub strips : Strips octets text
  pub cuts : Cuts text lines rest
  pub items_are : items ≡ map line_item lines

-- they represent these items and no others
abbrev pub OnlyReadsAs : List ℕ → List Item → Type 0
OnlyReadsAs octets items =
    ReadsAs octets items × ((others : List Item) → ReadsAs octets others → others ≡ items)

-- a spelling of a command: the command is complete at the last octet, and nothing is before
pub record IsSpelling (octets : List ℕ) (command : Command (List ℕ)) : Type 0 where
  pub front : List ℕ
  pub last : ℕ
  pub octets_are : octets ≡ front ++ last ∷ []
  pub before : ReadsAs front []
  pub after : ReadsAs octets (Ok command ∷ [])

-- the stored part of the rest: all of it, or that it is too long whatever ends it
abbrev pub KnowsRest : Bool → List ℕ → List ℕ → Type 0
KnowsRest true held rest = (LONGEST_HELD < length rest) × (held ≡ [])
KnowsRest false held rest = (held ≡ rest) × (length rest ≤ LONGEST_HELD)

abbrev pub Holds : {A : Type 0} → List ℕ → OpenLine A → Type 0
Holds rest line = KnowsRest line.is_long line.octets.items rest

-- the reader has read the octets and returned the items
pub record HasRead {A : Type 0} (octets : List ℕ) (items : List Item) (reader : LineReader A)
    : Type 0 where
  pub text : List ℕ
  pub lines : List (List ℕ)
  pub rest : List ℕ
  pub strips : StripsTo octets text reader.stage
  pub cuts : Cuts text lines rest
  pub items_are : items ≡ map line_item lines
  pub holds : Holds rest reader.line

-- number of octets that the reader stores
abbrev pub held : {A : Type 0} → LineReader A → ℕ
held reader = vec_len reader.line.octets
