-- Jobs, and transfers in progress, as contracts see them.
use Rattle.std.specs.Prelude.{◌≡◌, ◌⊎◌, ◌<◌, ◌≤◌, ℕ, List, [], length, Option, Some}
use Rattle.ftp_terms.specs.declared.data_type.DataType.{DataType}
use Rattle.line_rates.specs.declared.ask.Way.{Way}
use Rattle.line_rates.specs.declared.ask.Way.TheVariants.{Down, Up}
use Rattle.virtual_tree.specs.Calls.{Target}
use Rattle.data_pump.specs.declared.pumped.PumpEnd.{PumpEnd}
use Rattle.data_pump.specs.declared.pumped.PumpEnd.TheVariants.{More}
use Rattle.data_pump.specs.declared.pumped.Pumped.{Pumped}
use Rattle.data_pump.specs.WireText.{sent}
use Rattle.data_pump.specs.Downloads.{OutView, HasEnded, IsRoomFor, MovesOut, TopsUp, IsSending}
use Rattle.data_pump.specs.Uploads.{InView, MovesIn}
use Rattle.transfer_worker.specs.declared.job.LaneJob.{LaneJob}
use Rattle.transfer_worker.specs.declared.job.LaneJob.TheVariants.{Send, Take}
use Rattle.transfer_worker.specs.declared.running.Running.{Running}
use Rattle.transfer_worker.specs.declared.running.Running.TheVariants.{Out, In}
use Rattle.data_pump.specs.declared.inflow.TheConstants.{MAX_READ}

-- an upload asks for an octet at least, and for at most as many as one read can return
abbrev pub IsUploadWant : ℕ → Type 0
IsUploadWant want = (0 < want) × (want ≤ MAX_READ)

-- a transfer in progress
pub data Flow (R K C : Type 0) : Type 0 where
  Sending : OutView R C → Flow R K C
  Receiving : InView C K → Flow R K C

-- the knowable octets of sources, sinks and connections
pub record Known (R K C : Type 0) : Type 0 where
  pub remaining : R → Option (List ℕ)
  pub collected : K → Option (List ℕ)
  pub target : K → Option Target
  pub incoming : C → Option (List ℕ)
  pub contents : C → Option (List ℕ)

module _ {R K C : Type 0} where
  abbrev pub known : (R → Option (List ℕ)) → (K → Option (List ℕ)) → (K → Option Target)
      → (C → Option (List ℕ)) → (C → Option (List ℕ)) → Known R K C
  known remaining collected target incoming contents =
      record {
        remaining = remaining;
        collected = collected;
        target = target;
        incoming = incoming;
        contents = contents;
      }

  abbrev pub flow_of : {A : Type 0} → Running R K C A → Flow R K C
  flow_of (Out out) = Sending out
  flow_of (In upload) = Receiving upload

  abbrev pub way_in : Flow R K C → Way
  way_in (Sending out) = Down
  way_in (Receiving upload) = Up

  -- the end of its last pump
  abbrev pub last_in : Flow R K C → PumpEnd
  last_in (Sending out) = out.last
  last_in (Receiving upload) = upload.last

  -- the transfer may ask for this many octets: a download for all that wait to be written, an
  -- upload for what its gate may choose
  abbrev pub MayWant : (ℕ → Type 0) → Flow R K C → ℕ → Type 0
  MayWant may_want (Sending out) want = want ≡ length out.flow.waiting
  MayWant may_want (Receiving upload) want = IsUploadWant want × may_want want

  abbrev pub user_of : LaneJob R K C → ℕ
  user_of (Send user session source connection data_type) = user
  user_of (Take user session connection sink data_type) = user

  abbrev pub session_of : LaneJob R K C → ℕ
  session_of (Send user session source connection data_type) = session
  session_of (Take user session connection sink data_type) = session

  abbrev pub way_of : LaneJob R K C → Way
  way_of (Send user session source connection data_type) = Down
  way_of (Take user session connection sink data_type) = Up

  -- a download just opened
  pub record OpensOut (k : Known R K C) (source : R) (connection : C) (data_type : DataType)
      (out : OutView R C) : Type 0 where
    pub connection_is : out.flow.connection ≡ connection
    pub type_is : out.flow.data_type ≡ data_type
    pub room_is : IsRoomFor (k.remaining source) data_type out.flow.room
    pub more : out.last ≡ More
    pub filled : (0 < length out.flow.waiting) ⊎ HasEnded out.flow
    pub sending : (before octets : List ℕ) → k.contents connection ≡ Some before
        → k.remaining source ≡ Some octets
        → IsSending k.remaining k.contents before (sent data_type octets) out.flow

  pub record OpensIn (k : Known R K C) (connection : C) (sink : K) (data_type : DataType)
      (upload : InView C K) : Type 0 where
    pub connection_is : upload.flow.connection ≡ connection
    pub sink_is : upload.flow.sink ≡ sink
    pub type_is : upload.flow.data_type ≡ data_type
    pub held_is : upload.flow.held ≡ []
    pub more : upload.last ≡ More

  -- the transfer is that of the job, just opened
  abbrev pub Opens : Known R K C → LaneJob R K C → Flow R K C → Type 0
  Opens k (Send user session source connection data_type) (Sending out) =
      OpensOut k source connection data_type out
  Opens k (Send user session source connection data_type) (Receiving upload) = ⊥
  Opens k (Take user session connection sink data_type) (Sending out) = ⊥
  Opens k (Take user session connection sink data_type) (Receiving upload) =
      OpensIn k connection sink data_type upload

  -- the octets that wait were topped up, if the transfer is a download
  abbrev pub ToppedUp : Known R K C → Flow R K C → Flow R K C → Type 0
  ToppedUp k (Sending old) (Sending new) =
      TopsUp k.remaining old.flow new.flow × (new.last ≡ old.last)
  ToppedUp k (Sending old) (Receiving new) = ⊥
  ToppedUp k (Receiving old) (Sending new) = ⊥
  ToppedUp k (Receiving old) (Receiving new) = new ≡ old

  -- a grant of `octets` was pumped with result `pumped`
  abbrev pub Pumps : Known R K C → ℕ → Flow R K C → Flow R K C → Pumped → Type 0
  Pumps k octets (Sending old) (Sending new) pumped =
      MovesOut k.remaining k.contents octets old.flow new.flow pumped × (new.last ≡ pumped.end)
  Pumps k octets (Sending old) (Receiving new) pumped = ⊥
  Pumps k octets (Receiving old) (Sending new) pumped = ⊥
  Pumps k octets (Receiving old) (Receiving new) pumped =
      MovesIn k.incoming k.collected k.target octets old.flow new.flow pumped
      × (new.last ≡ pumped.end)
