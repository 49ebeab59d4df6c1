-- The passive port that a session keeps between its transfers.
use Rattle.std.specs.Prelude.{◌≡◌, ◌⊎◌, ℕ, Bool, false, cond, List, Option, Some, None}
use Rattle.server_config.specs.declared.settings.ServerNumbers.{ServerNumbers}
use Rattle.server_house.specs.Ports.{may_keep_ports}
use Rattle.session_table.specs.declared.inputs.End.TheVariants.{NoConnection, NoMemory}
use Rattle.socket_host.specs.declared.keeping.KeptPort.{KeptPort}
use Rattle.socket_host.specs.declared.ports.LeasedPort.{LeasedPort}
use Rattle.socket_host.specs.declared.running.Preparation.{Preparation}
use Rattle.socket_host.specs.declared.running.Preparation.TheVariants as prepared
use Rattle.socket_host.specs.declared.running.SideTransfer.{SideTransfer}
use Rattle.socket_host.specs.declared.running.SideTransfer.TheVariants as running

-- a session that accepts connections of its peer alone keeps its port, if there are enough for all
abbrev pub may_keep : ServerNumbers → Option (List ℕ) → Bool
may_keep numbers None = false
may_keep numbers (Some peer) = may_keep_ports numbers

abbrev pub without_port : KeptPort → KeptPort
without_port kept = record kept { at = None }

abbrev pub with_port : KeptPort → LeasedPort → KeptPort
with_port kept port = record kept { at = Some port }

-- the port that is kept once a client has connected at this one: it, if ports are kept
abbrev pub kept_after : KeptPort → LeasedPort → KeptPort
kept_after kept port = record kept { at = cond kept.keeps (Some port) kept.at }

-- the port that is then closed: the one kept before, or this one
abbrev pub closed_after : KeptPort → LeasedPort → Option LeasedPort
closed_after kept port = cond kept.keeps kept.at (Some port)

module _ {R K : Type 0} where
  -- after a look for the client at a port: this one is kept if the client has connected, also if
  -- there was no memory for its transfer
  abbrev pub Keeps : KeptPort → LeasedPort → SideTransfer R K → KeptPort → Type 0
  Keeps old port running.Nothing new = ⊥
  Keeps old port (running.Awaited at job since) new = new ≡ old
  Keeps old port (running.Connecting outgoing job since) new = ⊥
  Keeps old port (running.Moving connection is_aborted) new = new ≡ kept_after old port
  Keeps old port (running.Over reported) new =
      (reported.end ≡ NoMemory → new ≡ kept_after old port)
      × (reported.end ≡ NoConnection → new ≡ old)

  -- a transfer over what was prepared
  abbrev pub StartKeeps : Preparation → KeptPort → SideTransfer R K → KeptPort → Type 0
  StartKeeps prepared.Nothing old run new = new ≡ old
  StartKeeps (prepared.Target to) old run new = new ≡ old
  StartKeeps (prepared.Listening port) old run new = Keeps old port run new

  -- only a transfer that awaits its client changes what is kept
  abbrev pub GoesKeeps : SideTransfer R K → KeptPort → SideTransfer R K → KeptPort → Type 0
  GoesKeeps running.Nothing old run new = new ≡ old
  GoesKeeps (running.Awaited port job since) old run new =
      Keeps old port run new
  GoesKeeps (running.Connecting outgoing job since) old run new = new ≡ old
  GoesKeeps (running.Moving connection is_aborted) old run new = new ≡ old
  GoesKeeps (running.Over reported) old run new = new ≡ old

  -- after a look whose end is taken too
  abbrev pub KeepsOrEnds : KeptPort → LeasedPort → SideTransfer R K → KeptPort → Type 0
  KeepsOrEnds old port running.Nothing new = (new ≡ old) ⊎ (new ≡ kept_after old port)
  KeepsOrEnds old port (running.Awaited at job since) new = new ≡ old
  KeepsOrEnds old port (running.Connecting outgoing job since) new = ⊥
  KeepsOrEnds old port (running.Moving connection is_aborted) new = new ≡ kept_after old port
  KeepsOrEnds old port (running.Over reported) new = ⊥

  abbrev pub LookKeeps : SideTransfer R K → KeptPort → SideTransfer R K → KeptPort → Type 0
  LookKeeps running.Nothing old run new = new ≡ old
  LookKeeps (running.Awaited port job since) old run new =
      KeepsOrEnds old port run new
  LookKeeps (running.Connecting outgoing job since) old run new = new ≡ old
  LookKeeps (running.Moving connection is_aborted) old run new = new ≡ old
  LookKeeps (running.Over reported) old run new = new ≡ old
