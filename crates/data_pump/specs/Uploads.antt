-- Uploads as contracts see them, and the effect of a pump.
use Rattle.std.specs.Prelude.{◌≡◌, ◌≢◌, ◌⊎◌, ◌<◌, ◌≤◌, ◌++◌, ℕ, min, List, [], length, Option, Some}
use Rattle.std.specs.Io.KnownBytes.{Appends, Consumes, IsAtEnd}
use Rattle.ftp_terms.specs.declared.data_type.DataType.{DataType}
use Rattle.ftp_terms.specs.declared.data_type.DataType.TheVariants.{Ascii, Image}
use Rattle.line_rates.specs.declared.ask.Way.TheVariants.{Up}
use Rattle.data_pump.specs.WireText.{received, ReceivesOctets}
use Rattle.data_pump.specs.Counts.{CallCounts, next, IsOnceAtMost, FailsAsReported}
use Rattle.data_pump.specs.declared.pumped.FailedPart.TheVariants.{Connection, Sink}
use Rattle.data_pump.specs.declared.pumped.PumpEnd.{PumpEnd}
use Rattle.data_pump.specs.declared.pumped.PumpEnd.TheVariants.{Ended, More, ReadFault, WriteFault, Memory}
use Rattle.data_pump.specs.declared.pumped.Pumped.{Pumped}
use Rattle.virtual_tree.specs.Calls.{Target}
use Rattle.data_pump.specs.declared.inflow.TheConstants.{MAX_READ}

-- the flow in: the connection and the sink, each with the counts of its calls, the length of the
-- buffer that the last read of the connection was lent, and the octets held back
pub record InFlow (K X : Type 0) : Type 0 where
  pub connection : K
  pub reads : CallCounts
  pub lent : ℕ
  pub sink : X
  pub writes : CallCounts
  pub data_type : DataType
  pub held : List ℕ

-- an upload: its flow, and the end of the last pump
pub record InView (K X : Type 0) : Type 0 where
  pub flow : InFlow K X
  pub last : PumpEnd

-- under TYPE A, the text buffer has room for this number of octets and a CR that was held back
abbrev pub HasTextRoom : DataType → ℕ → List ℕ → Type 0
HasTextRoom Ascii octets text = octets < length text
HasTextRoom Image octets text = Unit {0}

pub record IsRoom (data_type : DataType) (octets text : List ℕ) : Type 0 where
  pub octets_room : length octets ≡ MAX_READ
  pub text_room : HasTextRoom data_type (length octets) text

-- an end for a fault of the sink, or of its memory
abbrev pub IsSinkFault : PumpEnd → Type 0
IsSinkFault end = (end ≡ WriteFault) ⊎ (end ≡ Memory)

-- The sink received the text of a piece of octets, and `rest` is held back.
pub record Gives (data_type : DataType) (held octets : List ℕ) (old new : Option (List ℕ))
    (rest : List ℕ) : Type 0 where
  pub text : List ℕ
  pub meant : ReceivesOctets data_type held octets text rest
  pub appended : Appends old new text

-- The connection has ended, and the sink has received what was held back.
pub record IsEnd {K X : Type 0} (remaining : K → Option (List ℕ)) (collected : X → Option (List ℕ))
    (old new : InFlow K X) (moved : ℕ) : Type 0 where
  pub none : moved ≡ 0
  pub at_end : IsAtEnd (remaining new.connection)
  pub appended : Appends (collected old.sink) (collected new.sink) old.held
  pub alone : received old.data_type old.held ≡ old.held
  pub nothing : new.held ≡ []

-- A pump of an upload with a grant of `octets` moved `pumped`, by one read.
pub record MovesIn {K X : Type 0} (remaining : K → Option (List ℕ))
    (collected : X → Option (List ℕ)) (target : X → Option Target) (octets : ℕ)
    (old new : InFlow K X) (pumped : Pumped) : Type 0 where
  pub most : pumped.moved ≤ min octets MAX_READ
  -- they are what the connection's read returned
  pub read : List ℕ
  pub count : length read ≡ pumped.moved
  pub consumed : Consumes (remaining old.connection) (remaining new.connection) read
  pub no_call : octets ≡ 0 → (pumped.end ≡ More) × (new ≡ old)
  -- one read and at most one write, of which one failed exactly if the end says so
  pub once : 0 < octets → new.reads.made ≡ next old.reads.made
  -- that read was lent a buffer for all that was granted
  pub lent : 0 < octets → new.lent ≡ min octets MAX_READ
  pub reads_failed : FailsAsReported Up pumped.end Connection old.reads new.reads
  pub writes_once : IsOnceAtMost old.writes new.writes
  pub writes_failed : FailsAsReported Up pumped.end Sink old.writes new.writes
  -- the meaning of the end
  pub some : pumped.end ≡ More → 0 < octets → 0 < pumped.moved
  pub given : pumped.end ≡ More
      → Gives old.data_type old.held read (collected old.sink) (collected new.sink) new.held
  pub ended : pumped.end ≡ Ended → IsEnd remaining collected old new pumped.moved
  pub failed : pumped.end ≡ ReadFault
      → (pumped.moved ≡ 0) × (new.sink ≡ old.sink) × (new.held ≡ old.held)
  pub refused : IsSinkFault pumped.end → collected new.sink ≡ collected old.sink
  pub same_target : target new.sink ≡ target old.sink
  pub same_type : new.data_type ≡ old.data_type

-- Some of an upload's octets were received. The sink has, after what it had before, the text of
-- these without what is held back; and the text of all of them once the last pump has ended.
pub record IsReceiving {K X : Type 0} (remaining : K → Option (List ℕ))
    (collected : X → Option (List ℕ)) (before octets : List ℕ) (upload : InView K X) : Type 0 where
  pub came : List ℕ
  pub rest : List ℕ
  pub held : List ℕ
  pub text : List ℕ
  pub whole : octets ≡ came ++ rest
  pub holds : collected upload.flow.sink ≡ Some (before ++ text)
  pub meant : upload.last ≢ Ended → ReceivesOctets upload.flow.data_type [] came text held
  pub more : upload.last ≡ More
      → (remaining upload.flow.connection ≡ Some rest) × (upload.flow.held ≡ held)
  pub ended : upload.last ≡ Ended → text ≡ received upload.flow.data_type octets
