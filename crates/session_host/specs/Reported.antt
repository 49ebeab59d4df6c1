-- A control session end to end: the octets written are the greeting and the replies of the session
-- table, turn by turn, to the lines that were read.
use Rattle.std.specs.Prelude.{ℕ, ◌≡◌, ◌⊎◌, ◌||◌, List, [], ◌∷◌, ◌++◌, Bool, false, true, Option, None, Result, OnOk, OnErr, IsErrOf}
use Rattle.std.specs.Io.KnownBytes.{Appends, Consumes, IsAtEnd}
use Rattle.ftp_wire.specs.Items.{Item}
use Rattle.ftp_wire.specs.Reading.{OnlyReadsAs}
use Rattle.handler_hooks.specs.Events.{Event, event_of}
use Rattle.rate_floors.specs.Promises.{Promises, after_release}
use Rattle.session_table.specs.Laws.{releases}
use Rattle.session_table.specs.Steps.{Standing}
use Rattle.session_table.specs.Plans.Plan.{Then}
use Rattle.session_table.specs.StateRows.{greeting}
use Rattle.session_table.specs.Views.{is_closed}
use Rattle.session_table.specs.declared.actions.Action.{Action}
use Rattle.session_table.specs.declared.actions.Action.TheVariants.{Say, Hook, OpenPassive, ConnectTo, DropData, Start, Abort, CloseControl, ReleaseFloor}
use Rattle.control_session.specs.Sides.{Given, SideCall, SideEvent}
use Rattle.control_session.specs.Sides.SideCall.{Opens, Connects, Drops, Starts, Aborts, Looks, Settles}
use Rattle.control_session.specs.Reported.{closes, texts}
use Rattle.control_session.specs.Rows.{Outcome}
use Rattle.control_session.specs.Rows.Outcome.{Made, Stopped}
use Rattle.control_session.specs.Sessions.{nothing}
use Rattle.control_session.specs.Turns.{IsIdle, Next, Situation, at, behind, concat}
use Rattle.control_session.specs.declared.fault.ControlFault.{ControlFault}
use Rattle.control_session.specs.declared.fault.ControlFault.TheVariants.{Memory}
use Rattle.session_host.specs.Alone.{Parts}

-- The situation of a session: its view; the event of the data side that was not taken; whether the
-- data side was asked for an event since the last line that was taken and the last read; the lines
-- taken so far; the users whose floors are still to be released; whether the control connection is
-- to be closed; whether a reply was lost, or memory ran out for a step; the store, the floors, the
-- clock, the data side and the handler.
pub record Scene (S C D H K : Type 0) : Type 0 where
  pub session : Standing
  pub came : Option (SideEvent K)
  pub asked : Bool
  pub taken : List Item
  pub owed : List ℕ
  pub closed : Bool
  pub lost : Bool
  pub store : S
  pub promises : Promises
  pub clock : C
  pub side : D
  pub hooks : H

-- a session of each of these users is released, one after another
abbrev pub released : List ℕ → Promises → Promises
released [] promises = promises
released (user ∷ users) promises = released users (after_release promises user)

-- the situation of the control session in a scene, if these lines were heard
abbrev pub situated : {S C D H K : Type 0} → List Item → Scene S C D H K → Situation K
situated items now =
    at now.session now.came now.taken (record nothing { items = items; asked = now.asked })
    now.owed now.closed None

-- Asks is the effect of a call on the data side, and Told that of a call on the handler.
module _ {A D H Q K : Type 0} (Asks : D → SideCall A Q K → D → Type 0)
    (Reported : H → Event → H → Type 0) where
  -- exactly the calls of the actions are made, in order
  abbrev pub Serves : List (Action A Q K) → D → H → D → H → Type 0
  Serves [] side hooks side' hooks' = (side' ≡ side) × (hooks' ≡ hooks)
  Serves (Say reply ∷ actions) side hooks side' hooks' = Serves actions side hooks side' hooks'
  Serves (Hook call ∷ actions) side hooks side' hooks' =
      (mid : H) × Reported hooks (event_of call) mid × Serves actions side mid side' hooks'
  Serves (OpenPassive ∷ actions) side hooks side' hooks' =
      (mid : D) × Asks side Opens mid × Serves actions mid hooks side' hooks'
  Serves (ConnectTo to ∷ actions) side hooks side' hooks' =
      (mid : D) × Asks side (Connects to) mid × Serves actions mid hooks side' hooks'
  Serves (DropData ∷ actions) side hooks side' hooks' =
      (mid : D) × Asks side Drops mid × Serves actions mid hooks side' hooks'
  Serves (Start job ∷ actions) side hooks side' hooks' =
      (mid : D) × Asks side (Starts job) mid × Serves actions mid hooks side' hooks'
  Serves (Abort ∷ actions) side hooks side' hooks' =
      (mid : D) × Asks side Aborts mid × Serves actions mid hooks side' hooks'
  Serves (CloseControl ∷ actions) side hooks side' hooks' = Serves actions side hooks side' hooks'
  Serves (ReleaseFloor user ∷ actions) side hooks side' hooks' =
      Serves actions side hooks side' hooks'

-- Row is the relation of rows, Gives that of the moments of the clock.
module _ {A S C D H Q K : Type 0}
    (Row : Standing → Given K → ℕ → S → S → Promises → Outcome A Q K → Type 0)
    (Gives : C → ℕ → C → Type 0) (Asks : D → SideCall A Q K → D → Type 0)
    (Reported : H → Event → H → Type 0) where
  -- An input is taken by its row, at a moment of the clock. Floors are released, the calls of its
  -- actions are made, and these are their texts.
  pub record IsTurned (items : List Item) (before : Scene S C D H K) (says : List ℕ)
      (after : Scene S C D H K) : Type 0 where
    pub given : Given K
    pub moment : ℕ
    pub promises : Promises
    pub actions : List (Action A Q K)
    pub paid : List ℕ
    pub next : Next (situated items before) given after.came after.taken
    pub gives : Gives before.clock moment after.clock
    pub asked : after.asked ≡ (behind given (situated items before).heard).asked
    pub row : Row before.session given moment before.store after.store before.promises
        (Made promises after.session actions)
    pub owes : releases actions ++ before.owed ≡ paid ++ after.owed
    pub promises_are : after.promises ≡ released paid promises
    pub serves : Serves Asks Reported actions before.side before.hooks after.side after.hooks
    pub closed : after.closed ≡ (before.closed || closes actions)
    pub lost : before.lost ≡ true → after.lost ≡ true
    pub says_is : says ≡ texts actions

  -- one act of a session, apart from writing, and the text for it
  pub data Act (items : List Item) (before : Scene S C D H K) (says : List ℕ)
      (after : Scene S C D H K) : Type 0 where
    Turns : IsTurned items before says after → Act items before says after
    -- the data side is asked for an event, or, once the session is closed, for the end of a
    -- transfer that still runs
    Hears : (event : Option (SideEvent K)) → before.came ≡ None
        → after ≡ record before { came = event; asked = true; side = after.side }
        → (Asks before.side (Looks event) after.side)
        ⊎ ((is_closed before.session.view.stage ≡ true)
        × Asks before.side (Settles event) after.side) → says ≡ [] → Act items before says after
    -- something is read, or nothing has arrived yet: only if nothing is left to do
    Listens : IsIdle (situated items before) → before.closed ≡ false
        → after ≡ record before { asked = false } → says ≡ [] → Act items before says after
    -- a floor that was owed is released
    Frees : (user : ℕ) (owed : List ℕ) → before.owed ≡ user ∷ owed
        → after ≡ record before { owed = owed; promises = after_release before.promises user }
        → says ≡ [] → Act items before says after
    -- there was no memory for the step of the next input: the floors are unchanged, and the store
    -- is as that row's looks, if any, left it
    Lacks : (given : Given K) (moment : ℕ) (came : Option (SideEvent K)) (taken : List Item)
        → Next (situated items before) given came taken → Gives before.clock moment after.clock
        → Row before.session given moment before.store after.store before.promises Stopped
        → after ≡ record before { lost = true; clock = after.clock; store = after.store }
        → says ≡ [] → Act items before says after

  -- one after another, each with its text
  abbrev pub Acts : List (List ℕ) → List Item → Scene S C D H K → Scene S C D H K → Type 0
  Acts [] items before after = after ≡ before
  Acts (says ∷ more) items before after =
      (mid : Scene S C D H K) × Act items before says mid × Acts more items mid after

  module _ {R W T : Type 0} (remaining : R → Option (List ℕ)) (contents : W → Option (List ℕ))
      (result : Result T ControlFault) (session : Standing)
      (old new : Parts S C D R W H) where
    -- The octets read are those of the lines. From the greeting on, the acts of the session lead to
    -- its close: the data side has no further event for it, and no floor is owed. Ok: all those
    -- lines were taken, up to one that closed the control connection or to the end of the text, and
    -- the octets written are all its texts; Err: they are a part of these, from the front.
    pub record IsEndToEnd : Type 0 where
      pub read : List ℕ
      pub items : List Item
      pub written : List ℕ
      pub actions : List (Action A Q K)
      pub side : D
      pub hooks : H
      pub lost : Bool
      pub last : Scene S C D H K
      pub row : Then session.view actions ≡ greeting session.view
      pub serves : Serves Asks Reported actions old.side old.hooks side hooks
      pub said : List (List ℕ)
      pub acts : Acts said items
          (record {
            session = session;
            came = None;
            asked = false;
            taken = [];
            owed = [];
            closed = false;
            lost = lost;
            store = old.store;
            promises = old.promises;
            clock = old.clock;
            side = side;
            hooks = hooks;
          })
          last
      pub closed : is_closed last.session.view.stage ≡ true
      pub answered : last.came ≡ None
      pub paid : last.owed ≡ []
      -- memory ran out for no step
      pub kept : OnOk result (last.lost ≡ false)
      pub store_is : new.store ≡ last.store
      pub promises_are : new.promises ≡ last.promises
      pub side_is : new.side ≡ last.side
      pub hooks_are : new.hooks ≡ last.hooks
      pub consumed : Consumes (remaining old.reader) (remaining new.reader) read
      pub heard : OnOk result (OnlyReadsAs read items)
      pub cut : OnErr result ((fed unfed : List ℕ) × (read ≡ fed ++ unfed) × OnlyReadsAs fed items)
      pub over : OnOk result ((last.closed ≡ true)
          ⊎ (IsAtEnd (remaining new.reader) × (items ≡ last.taken)))
      pub appended : Appends (contents old.writer) (contents new.writer) written
      pub whole : OnOk result (written ≡ texts actions ++ concat said)
      pub part : (rest : List ℕ) × (texts actions ++ concat said ≡ written ++ rest)

    -- there was no memory to begin, and nothing was read or written; or there was a session
    abbrev pub IsReported : Type 0
    IsReported = (IsErrOf result Memory × (new ≡ old)) ⊎ IsEndToEnd
