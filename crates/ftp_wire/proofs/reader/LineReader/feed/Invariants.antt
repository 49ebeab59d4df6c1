use Rattle.std.proofs.Common.{◌++◌, ℕ, List, take}
use Rattle.ftp_wire.specs.Items.{Item}
use Rattle.ftp_wire.specs.Reading.{HasRead, items_of}
use Rattle.ftp_wire.proofs.reader.LineReader.feed.Given as goal

abbrev pub invariant-loop-octet : goal.invariant-loop-octet
invariant-loop-octet g l = (octets : List ℕ) (items : List Item) → HasRead octets items l.fn.self
    → HasRead (octets ++ take l.octet-index l.piece) (items ++ items_of l.found.items) l.next
