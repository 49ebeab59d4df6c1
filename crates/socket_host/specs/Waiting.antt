-- Signs of life, and of something to look at.
use Rattle.std.specs.Prelude.{Bool, true, false, Option, Some, None}
use Rattle.client_door.specs.declared.heard.Heard.{Heard}
use Rattle.client_door.specs.declared.heard.Heard.TheVariants.{Silence, Ring, Knock, Refusal}
use Rattle.control_session.specs.declared.host.Piece.{Piece}
use Rattle.control_session.specs.declared.host.Piece.TheVariants.{Octets, Nothing, AtEnd}
use Rattle.socket_host.specs.declared.waiting.Beside.{Beside}
use Rattle.socket_host.specs.declared.waiting.Beside.TheVariants.{Look, Read, Rest}

-- a read that found octets, or the end of the text, or any while something runs
abbrev pub is_life : Bool → Piece → Bool
is_life true piece = true
is_life false Nothing = false
is_life false (Octets count) = true
is_life false AtEnd = true

-- after a silence a client is read within a line alone, since that ends an ABOR whose end was lost
abbrev pub after_silence : Bool → Beside
after_silence true = Read
after_silence false = Rest

-- the bell is for the data side
abbrev pub looks_first : Heard → Bool → Option Beside
looks_first Ring is_open = Some Look
looks_first Knock is_open = Some Read
looks_first Silence is_open = Some (after_silence is_open)
looks_first Refusal is_open = None

-- the same at the door of a data connection, for which the client is the bell
abbrev pub looks_at_door : Heard → Bool → Option Beside
looks_at_door Ring is_open = Some Read
looks_at_door Knock is_open = Some Look
looks_at_door Silence is_open = Some (after_silence is_open)
looks_at_door Refusal is_open = None

-- after a rest without the client, with something to report or not
abbrev pub after_rest : Bool → Beside
after_rest true = Look
after_rest false = Read
