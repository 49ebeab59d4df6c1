-- Waiting wire octets as contracts see them.
use Rattle.std.specs.Prelude.{◌≡◌, ◌+◌, ◌*◌, ◌/◌, ◌<◌, ◌≤◌, ◌++◌, ℕ, min, max, List, length, Option, None, Some}
use Rattle.std.specs.Io.KnownBytes.{Consumes, IsAtEnd}
use Rattle.ftp_terms.specs.declared.data_type.DataType.{DataType}
use Rattle.ftp_terms.specs.declared.data_type.DataType.TheVariants.{Ascii, Image}
use Rattle.data_pump.specs.declared.buffer.TheConstants.{MAX_WAITING, LEAST_ROOM}
use Rattle.data_pump.specs.WireText.{sent}

pub record Waiting : Type 0 where
  pub data_type : DataType
  pub octets : List ℕ
  -- most octets that may wait at once, the same after all calls
  pub room : ℕ

-- most wire octets that this number of a file's octets may become
abbrev pub most_sent : DataType → ℕ → ℕ
most_sent Ascii count = 2 * count
most_sent Image count = count

-- length of the buffer that a read of a file is lent, if its wire octets have this room
abbrev pub lent_for : DataType → ℕ → ℕ
lent_for Ascii room = room / 2
lent_for Image room = room

-- Room of a buffer for the octets that are expected of a source, and for one more, so that a read
-- of all of them leaves room; the most that there may be if nothing is expected.
abbrev pub room_for : DataType → Option ℕ → ℕ
room_for data_type None = MAX_WAITING
room_for data_type (Some count) =
    min MAX_WAITING (max LEAST_ROOM (most_sent data_type (count + 1)))

-- under TYPE A a text has half as much room, before its conversion, as its wire octets
abbrev pub HasText : DataType → List ℕ → List ℕ → Type 0
HasText Ascii text octets = length text ≡ length octets / 2
HasText Image text octets = Unit {0}

pub record IsBuffer (data_type : DataType) (text octets : List ℕ) (from to : ℕ) : Type 0 where
  pub has_text : HasText data_type text octets
  pub has_octets : 1 < length octets
  pub most : length octets ≤ MAX_WAITING
  pub in_order : from ≤ to
  pub within : to ≤ length octets

-- One read of a source returned octets, and these are their wire octets; it returned none only at
-- the end.
pub record Fills (data_type : DataType) (old new : Option (List ℕ)) (count : ℕ)
    (wire : List ℕ) : Type 0 where
  pub read : List ℕ
  pub consumed : Consumes old new read
  pub turned : wire ≡ sent data_type read
  pub at_end : count ≡ 0 → IsAtEnd new

-- One read of a source of image octets was appended to those that wait.
pub record FillsUp (old new : Option (List ℕ)) (count : ℕ) (waiting more : List ℕ) : Type 0 where
  pub read : List ℕ
  pub appended : more ≡ waiting ++ read
  pub count_is : count ≡ length read
  pub consumed : Consumes old new read
  pub at_end : count ≡ 0 → IsAtEnd new
