-- Downloads as contracts see them, and the effect of a pump.
use Rattle.std.specs.Prelude.{◌≡◌, ◌⊎◌, ◌↔◌, ◌*◌, ◌-◌, ◌<◌, ◌≤◌, ◌++◌, ℕ, nat_lt, min, List, [], length, take, drop, Option, Some, IfSome, Bool, true, false, ◌&&◌, not, IsTrue}
use Rattle.std.specs.Option.{option_map}
use Rattle.std.specs.Io.KnownBytes.{Keeps, Appends, Consumes, IsAtEnd}
use Rattle.ftp_terms.specs.declared.data_type.DataType.{DataType}
use Rattle.ftp_terms.specs.declared.data_type.DataType.TheVariants.{Ascii, Image}
use Rattle.line_rates.specs.declared.ask.Way.TheVariants.{Down}
use Rattle.data_pump.specs.WireText.{sent}
use Rattle.data_pump.specs.Counts.{CallCounts, next, with_passed, with_failed, IsOnceAtMost, FailsAsReported}
use Rattle.data_pump.specs.Buffers.{lent_for, room_for}
use Rattle.data_pump.specs.declared.pumped.FailedPart.TheVariants.{Connection, Source}
use Rattle.data_pump.specs.declared.pumped.PumpEnd.{PumpEnd}
use Rattle.data_pump.specs.declared.pumped.PumpEnd.TheVariants.{Ended, More, ReadFault, WriteFault, Memory}
use Rattle.data_pump.specs.declared.pumped.Pumped.{Pumped}

-- the flow out: the source and the connection, each with the counts of its calls, the length of the
-- buffer that the last read of the source was lent, the waiting wire octets, and whether the source
-- has ended
pub record OutFlow (S K : Type 0) : Type 0 where
  pub source : S
  pub reads : CallCounts
  pub lent : ℕ
  pub connection : K
  pub writes : CallCounts
  pub data_type : DataType
  pub waiting : List ℕ
  -- most octets that may wait at once, the same after all calls
  pub room : ℕ
  pub is_over : Bool

-- a download: its flow, and the end of the last pump
pub record OutView (S K : Type 0) : Type 0 where
  pub flow : OutFlow S K
  pub last : PumpEnd

-- the wire octets still to be written, if those of the source are known
abbrev pub still_to_come : DataType → List ℕ → Option (List ℕ) → Option (List ℕ)
still_to_come data_type waiting known =
    option_map (λ octets. waiting ++ sent data_type octets) known

abbrev pub to_come : {S K : Type 0} → (S → Option (List ℕ)) → OutFlow S K → Option (List ℕ)
to_come remaining flow = still_to_come flow.data_type flow.waiting (remaining flow.source)

-- the source has ended, and no octets wait
abbrev pub HasEnded : {S K : Type 0} → OutFlow S K → Type 0
HasEnded flow = IsTrue flow.is_over × (flow.waiting ≡ [])

-- an end for a fault of the source, or of its memory
abbrev pub IsSourceFault : PumpEnd → Type 0
IsSourceFault end = (end ≡ ReadFault) ⊎ (end ≡ Memory)

-- Between two pumps: while there is more, octets wait, unless the source was empty from the start;
-- and a pump's end is `Ended` only if the transfer has ended.
pub record IsReady {S K : Type 0} (flow : OutFlow S K) (last : PumpEnd) : Type 0 where
  pub more : last ≡ More → (0 < length flow.waiting) ⊎ HasEnded flow
  pub ended : last ≡ Ended → HasEnded flow

-- The source was not read, or once, and that read was lent a buffer for all the room.
abbrev pub LendsAllRoom : {S K : Type 0} → OutFlow S K → OutFlow S K → Type 0
LendsAllRoom old new =
    ((new.reads ≡ old.reads) × (new.lent ≡ old.lent))
    ⊎ ((new.reads.made ≡ next old.reads.made) × (new.lent ≡ lent_for new.data_type new.room))

-- A pump of a download with a grant of `octets` moved `pumped`.
pub record MovesOut {S K : Type 0} (remaining : S → Option (List ℕ))
    (contents : K → Option (List ℕ)) (octets : ℕ) (old new : OutFlow S K)
    (pumped : Pumped) : Type 0 where
  -- at most the grant, and at most what waited; less only if a write failed
  pub most : pumped.moved ≤ min octets (length old.waiting)
  pub fewer : pumped.moved < min octets (length old.waiting) → pumped.end ≡ WriteFault
  pub failed : pumped.end ≡ WriteFault → pumped.moved < min octets (length old.waiting)
  -- they are what the connection's writes took, and the first of what was to come
  pub written : Appends (contents old.connection) (contents new.connection)
      (take pumped.moved old.waiting)
  pub come : Consumes (to_come remaining old) (to_come remaining new)
      (take pumped.moved old.waiting)
  pub no_call : octets ≡ 0 → (new.connection ≡ old.connection) × (new.writes ≡ old.writes)
  -- the source is read once, and only if no octets wait any more
  pub left : pumped.moved < length old.waiting
      → (new.waiting ≡ drop pumped.moved old.waiting) × (new.source ≡ old.source)
      × (new.reads ≡ old.reads)
  pub once : IsOnceAtMost old.reads new.reads
  pub lent : LendsAllRoom old new
  -- a call failed exactly if the end says so
  pub reads_failed : FailsAsReported Down pumped.end Source old.reads new.reads
  pub writes_failed : FailsAsReported Down pumped.end Connection old.writes new.writes
  -- the meaning of the end
  pub more : pumped.end ≡ More → 0 < length new.waiting
  pub ended : pumped.end ≡ Ended → HasEnded new
  pub at_end : pumped.end ≡ Ended → IsAtEnd (to_come remaining new)
  pub fault : IsSourceFault pumped.end → new.waiting ≡ []
  pub data_type : new.data_type ≡ old.data_type
  pub room : new.room ≡ old.room

abbrev pub is_image : DataType → Bool
is_image Ascii = false
is_image Image = true

-- The room is that for a number of octets that is expected, or for none. If the octets of the
-- source are known, a number is theirs.
pub record IsRoomFor (known : Option (List ℕ)) (data_type : DataType) (room : ℕ) : Type 0 where
  pub expected : Option ℕ
  pub right : IfSome known (λ octets. IfSome expected (λ count. count ≡ length octets))
  pub room_is : room ≡ room_for data_type expected

-- under TYPE I, fewer octets wait than half of the room, and the source has not ended
abbrev pub is_low : {S K : Type 0} → OutFlow S K → Bool
is_low flow =
    is_image flow.data_type && not flow.is_over && nat_lt (2 * length flow.waiting) flow.room

-- One read of the source passed, lent the room after the octets that wait: its octets wait after
-- these, and the source has ended exactly if there are none.
pub record ReadsMore {S K : Type 0} (remaining : S → Option (List ℕ))
    (old new : OutFlow S K) : Type 0 where
  pub counted : new.reads ≡ with_passed old.reads
  pub lent : new.lent ≡ old.room - length old.waiting
  pub read : List ℕ
  pub waiting : new.waiting ≡ old.waiting ++ read
  pub consumed : Consumes (remaining old.source) (remaining new.source) read
  pub over : IsTrue new.is_over ↔ (read ≡ [])
  pub at_end : read ≡ [] → IsAtEnd (remaining new.source)

-- One read of the source failed, lent the same room: that call is counted, and the source keeps its
-- octets.
pub record ReadsNone {S K : Type 0} (remaining : S → Option (List ℕ))
    (old new : OutFlow S K) : Type 0 where
  pub counted : new.reads ≡ with_failed old.reads
  pub lent : new.lent ≡ old.room - length old.waiting
  pub waiting : new.waiting ≡ old.waiting
  pub kept : Keeps (remaining old.source) (remaining new.source)
  pub over : new.is_over ≡ old.is_over

-- If they are low, the octets that wait are topped up by one read of the source, which passes or
-- fails; otherwise nothing is done.
pub record TopsUp {S K : Type 0} (remaining : S → Option (List ℕ))
    (old new : OutFlow S K) : Type 0 where
  pub high : is_low old ≡ false → new ≡ old
  pub low : is_low old ≡ true → ReadsMore remaining old new ⊎ ReadsNone remaining old new
  pub come : Keeps (to_come remaining old) (to_come remaining new)
  pub connection : (new.connection ≡ old.connection) × (new.writes ≡ old.writes)
  pub data_type : new.data_type ≡ old.data_type
  pub room : new.room ≡ old.room

-- A part of a wire text was written after what the connection had before; the rest is to come.
pub record IsSending {S K : Type 0} (remaining : S → Option (List ℕ))
    (contents : K → Option (List ℕ)) (before text : List ℕ) (flow : OutFlow S K) : Type 0 where
  pub written : List ℕ
  pub rest : List ℕ
  pub holds : contents flow.connection ≡ Some (before ++ written)
  pub comes : to_come remaining flow ≡ Some rest
  pub whole : text ≡ written ++ rest
