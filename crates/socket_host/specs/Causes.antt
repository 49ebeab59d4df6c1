-- Reasons for the ends of transfers.
use Rattle.std.specs.Prelude.{◌≡◌, ⊤, Bool, true, false, IsTrue, Option, Some, None}
use Rattle.std.specs.declared.alloc.Global.{Global}
use Rattle.std.specs.declared.io.Error.{Error}
use Rattle.server_house.specs.declared.transfer_end.TransferEnd.{TransferEnd}
use Rattle.server_house.specs.declared.cause.EndCause.{EndCause}
use Rattle.server_house.specs.declared.cause.EndCause.TheVariants as cause
use Rattle.session_table.specs.declared.inputs.End.{End}
use Rattle.session_table.specs.declared.inputs.Input.{Input}
use Rattle.session_table.specs.declared.inputs.Input.TheVariants.{TransferEnded}
use Rattle.session_table.specs.declared.inputs.End.TheVariants.{Done, Lost, Local, Full, NoConnection, NoMemory, Aborted}
use Rattle.socket_host.specs.declared.running.Preparation.{Preparation}
use Rattle.socket_host.specs.declared.running.Preparation.TheVariants as prepared
use Rattle.socket_host.specs.declared.running.SideTransfer.{SideTransfer}
use Rattle.socket_host.specs.declared.running.SideTransfer.TheVariants as running

-- the reason for the end that a lane reports, with the connection's last error
abbrev pub cause_of : Bool → End → Option Error → Option EndCause
cause_of true end fault = Some cause.Aborted
cause_of false Done fault = None
cause_of false Lost fault = Some (cause.Connection fault)
cause_of false Local fault = Some cause.File
cause_of false Full fault = Some cause.File
cause_of false NoConnection fault = Some cause.NoClient
cause_of false NoMemory fault = Some cause.NoMemory
cause_of false Aborted fault = Some cause.ServerEnds

-- nobody has come, or the machine could not accept who has
abbrev pub absence : Option Error → EndCause
absence None = cause.NoClient
absence (Some error) = cause.NotAccepted error

-- with nothing prepared the transfer ends at once, for that reason
abbrev pub StartCause : Preparation → Option EndCause → Type 0
StartCause prepared.Nothing new = new ≡ Some cause.NothingPrepared
StartCause (prepared.Listening port) new = ⊤
StartCause (prepared.Target to) new = ⊤

-- the reason for an end of a moving transfer: an abort, or what the end and the error say
abbrev pub MovedCause : Bool → End → Option EndCause → Type 0
MovedCause true end new = new ≡ Some cause.Aborted
MovedCause false end new = (fault : Option Error) × (new ≡ cause_of false end fault)

module _ {R K : Type 0} where
  -- an aborted transfer that is over by that
  abbrev pub AbortedCause : SideTransfer R K → Option EndCause → Option EndCause → Type 0
  AbortedCause running.Nothing old new = new ≡ old
  AbortedCause (running.Awaited port job since) old new = new ≡ old
  AbortedCause (running.Connecting outgoing job since) old new = new ≡ old
  AbortedCause (running.Moving connection is_aborted) old new = new ≡ old
  AbortedCause (running.Over reported) old new = new ≡ Some cause.Aborted

  -- a transfer without a connection ends by the abort itself, as does one that no lane has begun
  abbrev pub AbortCause
      : SideTransfer R K → SideTransfer R K → Option EndCause → Option EndCause → Type 0
  AbortCause running.Nothing after old new = new ≡ old
  AbortCause (running.Awaited port job since) after old new = new ≡ Some cause.Aborted
  AbortCause (running.Connecting outgoing job since) after old new = new ≡ Some cause.Aborted
  AbortCause (running.Moving connection is_aborted) after old new = AbortedCause after old new
  AbortCause (running.Over reported) after old new = new ≡ old

  -- a transfer without a connection may end for a reason of its own
  abbrev pub GoesCause : SideTransfer R K → Option EndCause → Option EndCause → Type 0
  GoesCause running.Nothing old new = new ≡ old
  GoesCause (running.Awaited port job since) old new = ⊤
  GoesCause (running.Connecting outgoing job since) old new = ⊤
  GoesCause (running.Moving connection is_aborted) old new = new ≡ old
  GoesCause (running.Over reported) old new = new ≡ old

  -- the reason for the end that is taken
  abbrev pub TakenCause
      : SideTransfer R K → Option (TransferEnd K) → Option EndCause → Option EndCause → Type 0
  TakenCause running.Nothing end old new = new ≡ old
  TakenCause (running.Awaited port job since) end old new = new ≡ old
  TakenCause (running.Connecting outgoing job since) end old new = new ≡ old
  TakenCause (running.Moving connection is_aborted) None old new = new ≡ old
  TakenCause (running.Moving connection is_aborted) (Some reported) old new =
      MovedCause is_aborted reported.end new
  TakenCause (running.Over reported) end old new = new ≡ old

  -- the reason for the end that a look reports
  abbrev pub LookCause
      : SideTransfer R K → Option (Input Global K) → Option EndCause → Option EndCause → Type 0
  LookCause running.Nothing event old new = new ≡ old
  LookCause (running.Awaited port job since) event old new = ⊤
  LookCause (running.Connecting outgoing job since) event old new = ⊤
  LookCause (running.Moving connection is_aborted) None old new = new ≡ old
  LookCause (running.Moving connection is_aborted) (Some (TransferEnded end sink)) old new =
      MovedCause is_aborted end new
  LookCause (running.Moving connection is_aborted) (Some other) old new = ⊤
  LookCause (running.Over reported) event old new = new ≡ old
