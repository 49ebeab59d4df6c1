-- The effect of each call on a host with all parts for one session: each call changes only its
-- part.
use Rattle.std.specs.Prelude.{ℕ, ◌≡◌, ◌<◌, Bool, true, List, [], Option, length}
use Rattle.std.specs.Io.KnownBytes.{Appends, Consumes, IsAtEnd}
use Rattle.authorizer.specs.Users.{Users}
use Rattle.handler_hooks.specs.Events.{Event}
use Rattle.rate_floors.specs.Promises.{Promises, after_release}
use Rattle.text_io.specs.Parts.{AppendsPart}
use Rattle.control_session.specs.Calls.{HostCall}
use Rattle.control_session.specs.Calls.HostCall.{Lent, Tried, Released, Noted, Wrote, Broke, Read, ReadEnd, ReadFailed, Declined, Asked}
use Rattle.control_session.specs.Sides.{SideCall}
use Rattle.session_host.specs.declared.host.SoleHost.{SoleHost}

-- The parts of such a host, apart from its users: the store, the floors, the clock, the data side,
-- the client's text, the replies written to it, and the handler.
pub record Parts (S C D R W H : Type 0) : Type 0 where
  pub store : S
  pub promises : Promises
  pub clock : C
  pub side : D
  pub reader : R
  pub writer : W
  pub hooks : H

module _ {S F C D R W H : Type 0} where
  -- the parts of a host, which borrows all of them
  abbrev pub parts : SoleHost S F C D R W H → Parts S C D R W H
  parts host =
      record {
        store = host.store.now;
        promises = host.floors.now;
        clock = host.clock.now;
        side = host.side.now;
        reader = host.reader.now;
        writer = host.writer.now;
        hooks = host.hooks.now;
      }

  -- the references are those that were lent
  pub record SameLent (old new : SoleHost S F C D R W H) : Type 0 where
    pub users : new.users ≡ old.users
    pub store : new.store.ghost_name ≡ old.store.ghost_name
    pub floors : new.floors.ghost_name ≡ old.floors.ghost_name
    pub clock : new.clock.ghost_name ≡ old.clock.ghost_name
    pub side : new.side.ghost_name ≡ old.side.ghost_name
    pub reader : new.reader.ghost_name ≡ old.reader.ghost_name
    pub writer : new.writer.ghost_name ≡ old.writer.ghost_name
    pub hooks : new.hooks.ghost_name ≡ old.hooks.ghost_name

-- A is an allocator, S are stores, Q their sources and K their sinks. `users` are those of the
-- host. Gives relates the moments of the clock, Asks is the effect of a call on the data side, Told
-- the effect of a call on the handler; the octets left to read, and those written, are known or
-- not.
module _ {A S C D R W H Q K : Type 0} (users : Users) (Gives : C → ℕ → C → Type 0)
    (Asks : D → SideCall A Q K → D → Type 0) (Reported : H → Event → H → Type 0)
    (remaining : R → Option (List ℕ)) (may_fail : R → Bool) (contents : W → Option (List ℕ))
    (may_refuse : W → List ℕ → Type 0) where
  -- the users of the host, store and floors are lent at a moment of the clock; all other parts are
  -- unchanged
  pub record Lends (old : Parts S C D R W H) (moment : ℕ) (lent : Users) (store store' : S)
      (promises promises' : Promises) (new : Parts S C D R W H) : Type 0 where
    pub gives : Gives old.clock moment new.clock
    pub users_lent : lent ≡ users
    pub store_lent : store ≡ old.store
    pub promises_lent : promises ≡ old.promises
    pub rest : new ≡ record old { clock = new.clock; store = store'; promises = promises' }

  -- octets are taken from the front of those left to read
  pub record Takes (old : Parts S C D R W H) (octets : List ℕ) (new : Parts S C D R W H) :
      Type 0 where
    pub taken : Consumes (remaining old.reader) (remaining new.reader) octets
    pub fails : may_fail new.reader ≡ may_fail old.reader
    pub rest : new ≡ record old { reader = new.reader }

  abbrev pub AloneDoes : Parts S C D R W H → HostCall A S Q K → Parts S C D R W H → Type 0
  AloneDoes old (Lent session moment lent store store' promises promises') new =
      Lends old moment lent store store' promises promises' new
  AloneDoes old (Tried session moment lent store store' promises) new =
      Lends old moment lent store store' promises promises new
  AloneDoes old (Released user) new =
      new ≡ record old { promises = after_release old.promises user }
  AloneDoes old (Noted event) new =
      Reported old.hooks event new.hooks × (new ≡ record old { hooks = new.hooks })
  AloneDoes old (Wrote text) new =
      Appends (contents old.writer) (contents new.writer) text
      × (new ≡ record old { writer = new.writer })
  AloneDoes old (Broke text) new =
      may_refuse old.writer text × AppendsPart (contents old.writer) (contents new.writer) text
      × (new ≡ record old { writer = new.writer })
  AloneDoes old (Read octets) new = Takes old octets new × (0 < length octets)
  AloneDoes old ReadEnd new = Takes old [] new × IsAtEnd (remaining new.reader)
  AloneDoes old ReadFailed new = Takes old [] new × (may_fail old.reader ≡ true)
  -- it ends no session in the place of a step
  AloneDoes old Declined new = ⊥
  AloneDoes old (Asked call) new =
      Asks old.side call new.side × (new ≡ record old { side = new.side })

module _ {A S C D R W H Q K : Type 0} (Gives : C → ℕ → C → Type 0)
    (Asks : D → SideCall A Q K → D → Type 0) (Reported : H → Event → H → Type 0)
    (remaining : R → Option (List ℕ)) (may_fail : R → Bool) (contents : W → Option (List ℕ))
    (may_refuse : W → List ℕ → Type 0) where
  -- the host that borrows them
  abbrev pub SoleDoes : {F : Type 0} → SoleHost S F C D R W H → HostCall A S Q K
      → SoleHost S F C D R W H → Type 0
  SoleDoes old call new =
      SameLent old new
      × AloneDoes old.users.now.users Gives Asks Reported remaining may_fail contents may_refuse
      (parts old) call (parts new)
