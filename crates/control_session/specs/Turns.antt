-- The moves of a control session, one after another, with the calls of the host for each.
use Rattle.std.specs.Prelude.{ℕ, ◌≡◌, ◌≢◌, ◌⊎◌, ◌+◌, ◌<◌, ◌≤◌, ◌||◌, List, [], ◌∷◌, ◌++◌, Bool, false, true, length, map, Option, Some, None}
use Rattle.authorizer.specs.Users.{Users}
use Rattle.control_session.specs.Sides.{Given, SideEvent, is_line}
use Rattle.control_session.specs.Sides.Given.{Line, Held, Came, Closed}
use Rattle.control_session.specs.Sides.SideCall.{Opens, Connects, Drops, Starts, Aborts, Looks, Settles}
use Rattle.control_session.specs.Reported.{closes}
use Rattle.ftp_reply.specs.Replies.{reply_text}
use Rattle.ftp_wire.specs.Items.{Item}
use Rattle.handler_hooks.specs.Events.{event_of}
use Rattle.rate_floors.specs.Promises.{Promises}
use Rattle.session_table.specs.Laws.{releases}
use Rattle.session_table.specs.Steps.{Standing, is_due}
use Rattle.session_table.specs.Answers.{answer_form}
use Rattle.session_table.specs.Views.{is_closed}
use Rattle.session_table.specs.declared.actions.Action.{Action}
use Rattle.session_table.specs.declared.actions.Action.TheVariants.{Say, Hook, OpenPassive, ConnectTo, DropData, Start, Abort, CloseControl, ReleaseFloor}
use Rattle.session_table.specs.declared.inputs.Input.{Input}
use Rattle.control_session.specs.Calls.{HostCall, Chain}
use Rattle.control_session.specs.Rows.{Outcome}
use Rattle.control_session.specs.Rows.Outcome.{Made, Stopped}
use Rattle.control_session.specs.Calls.HostCall.{Lent, Tried, Released, Noted, Wrote, Broke, Read, ReadEnd, ReadFailed, Declined, Asked}
use Rattle.control_session.specs.declared.no_step.NoStep.{NoStep}
use Rattle.control_session.specs.declared.no_step.NoStep.TheVariants.{NoMemory, Over}
use Rattle.control_session.specs.declared.turn_fault.TurnFault.{TurnFault}
use Rattle.control_session.specs.declared.turn_fault.TurnFault.TheVariants.{Write, Memory}

-- The input so far. From the client: the octets, the lines found in them, the number of reads,
-- whether the end came, and whether a read failed. From the data side: whether it was asked for an
-- event since the last line that was taken and the last read.
pub record Heard : Type 0 where
  pub octets : List ℕ
  pub items : List Item
  pub reads : ℕ
  pub ended : Bool
  pub failed : Bool
  pub asked : Bool

-- the same, but for whether the data side was asked
abbrev pub asked_as : Bool → Heard → Heard
asked_as asked heard = record heard { asked = asked }

-- a line may call the data side, which is then to be asked for an event
abbrev pub behind : {K : Type 0} → Given K → Heard → Heard
behind (Line item) heard = asked_as false heard
behind Held heard = asked_as false heard
behind (Came event) heard = heard
behind Closed heard = heard

-- The situation of a control session: the view of the session; the event of the data side that was
-- not taken; the lines taken so far; the input so far; the users whose floors are still to be
-- released; whether the control connection is to be closed; and the fault of a reply or of a step,
-- if any.
pub record Situation (K : Type 0) : Type 0 where
  pub session : Standing
  pub came : Option (SideEvent K)
  pub taken : List Item
  pub heard : Heard
  pub owed : List ℕ
  pub closed : Bool
  pub lost : Option TurnFault

abbrev pub at : {K : Type 0} → Standing → Option (SideEvent K) → List Item → Heard → List ℕ → Bool
    → Option TurnFault → Situation K
at session came taken heard owed closed lost =
    record {
      session = session;
      came = came;
      taken = taken;
      heard = heard;
      owed = owed;
      closed = closed;
      lost = lost;
    }

-- a held line may be taken
abbrev pub due : Standing → Bool
due session = is_due session.view session.held

-- nothing is left to do: the data side was asked, its event was taken, and no held line is due
abbrev pub IsIdle : {K : Type 0} → Situation K → Type 0
IsIdle now = (now.came ≡ None) × (now.heard.asked ≡ true) × (due now.session ≡ false)

-- The inputs that may come next, each with the event that is then left and the lines taken by then:
-- the event of the data side; a held line that is due, if the data side was asked and had no event;
-- the next line of those heard, if nothing is left to do; Closed at any time. Once the control
-- connection is to be closed, no line comes any more.
abbrev pub Next : {K : Type 0} → Situation K → Given K → Option (SideEvent K) → List Item → Type 0
Next now (Came event) came taken = (now.came ≡ Some event) × (came ≡ None) × (taken ≡ now.taken)
Next now Held came taken =
    (now.came ≡ None) × (now.heard.asked ≡ true) × (due now.session ≡ true)
    × (now.closed ≡ false) × (came ≡ None) × (taken ≡ now.taken)
Next now (Line item) came taken = IsIdle now × (now.closed ≡ false)
    × ((rest : List Item) × (now.heard.items ≡ now.taken ++ item ∷ rest)) × (came ≡ None)
    × (taken ≡ now.taken ++ item ∷ [])
Next now Closed came taken = (came ≡ now.came) × (taken ≡ now.taken)

module _ {A S R K : Type 0} where
  -- a reply is written, or a part of it, or there is no memory for its text
  abbrev pub Said : List ℕ → List (HostCall A S R K) → Option TurnFault → Type 0
  Said text calls None = calls ≡ Wrote text ∷ []
  Said text calls (Some Write) = calls ≡ Broke text ∷ []
  Said text calls (Some Memory) = calls ≡ []

  -- the calls that carry out an action; for a reply none once there was a fault
  abbrev pub Carried : Action A R K → Option TurnFault → List (HostCall A S R K) → Option TurnFault
      → Type 0
  Carried (Say reply) None calls lost = Said (reply_text (answer_form reply)) calls lost
  Carried (Say reply) (Some fault) calls lost = (calls ≡ []) × (lost ≡ Some fault)
  Carried (Hook hook) before calls lost = (calls ≡ Noted (event_of hook) ∷ []) × (lost ≡ before)
  Carried OpenPassive before calls lost = (calls ≡ Asked Opens ∷ []) × (lost ≡ before)
  Carried (ConnectTo to) before calls lost = (calls ≡ Asked (Connects to) ∷ []) × (lost ≡ before)
  Carried DropData before calls lost = (calls ≡ Asked Drops ∷ []) × (lost ≡ before)
  Carried (Start job) before calls lost = (calls ≡ Asked (Starts job) ∷ []) × (lost ≡ before)
  Carried Abort before calls lost = (calls ≡ Asked Aborts ∷ []) × (lost ≡ before)
  Carried CloseControl before calls lost = (calls ≡ []) × (lost ≡ before)
  Carried (ReleaseFloor user) before calls lost = (calls ≡ []) × (lost ≡ before)

  -- actions are carried out in order, but for the release of floors
  abbrev pub Carries : List (Action A R K) → Option TurnFault → List (HostCall A S R K)
      → Option TurnFault → Type 0
  Carries [] before calls lost = (calls ≡ []) × (lost ≡ before)
  Carries (action ∷ actions) before calls lost =
      (first rest : List (HostCall A S R K)) × (mid : Option TurnFault) × (calls ≡ first ++ rest)
      × Carried action before first mid × Carries actions mid rest lost

  abbrev pub release_calls : List ℕ → List (HostCall A S R K)
  release_calls = map Released

-- the rows of the inputs of a session that is not over: of all but Closed
abbrev pub WhileOpen : {A S R K : Type 0}
    → (Users → Standing → Given K → ℕ → S → S → Promises → Outcome A R K → Type 0)
    → Users → Standing → Given K → ℕ → S → S → Promises → Outcome A R K → Type 0
WhileOpen Row users session given moment store store' promises outcome =
    (given ≢ Closed) × Row users session given moment store store' promises outcome

-- Row is the relation of rows: the users, the session, the input, the moment, the store before and
-- after, the floors, and the outcome of the step.
module _ {A S R K : Type 0}
    (Row : Users → Standing → Given K → ℕ → S → S → Promises → Outcome A R K → Type 0) where
  -- a host lent users, store and floors for one step
  abbrev pub Stepped : {H : Type 0} → (H → HostCall A S R K → H → Type 0) → H → Standing → Given K
      → Standing → List (Action A R K) → H → Type 0
  Stepped Does old session given session' actions new =
      (moment : ℕ) × (users : Users) × (store store' : S) × (promises promises' : Promises)
      × Does old (Lent session moment users store store' promises promises') new
      × Row users session given moment store store' promises (Made promises' session' actions)

  -- a host lent them for a step for which memory ran out
  abbrev pub StepTried : {H : Type 0} → (H → HostCall A S R K → H → Type 0) → H → Standing → Given K
      → H → Type 0
  StepTried Does old session given new =
      (moment : ℕ) × (users : Users) × (store store' : S) × (promises : Promises)
      × Does old (Tried session moment users store store' promises) new
      × Row users session given moment store store' promises Stopped

  -- a step was not made: memory ran out for it and its event was given back, or the host ended the
  -- session in the place of a step for a line
  abbrev pub StepRefused : {H : Type 0} → (H → HostCall A S R K → H → Type 0) → H → Standing
      → Given K → Option (Input A K) → NoStep A K → H → Type 0
  StepRefused Does old session given event (NoMemory back) new =
      StepTried Does old session given new × (back ≡ event)
  StepRefused Does old session given event Over new =
      (is_line given ≡ true) × Does old Declined new

  -- An input is taken by its row, for the users that were lent. Then floors are released, and then
  -- the other actions are carried out, in order.
  pub record IsTurn (before : Situation K) (calls : List (HostCall A S R K)) (after : Situation K) :
      Type 0 where
    pub given : Given K
    pub moment : ℕ
    pub users : Users
    pub store : S
    pub store' : S
    pub promises : Promises
    pub promises' : Promises
    pub actions : List (Action A R K)
    pub paid : List ℕ
    pub carried : List (HostCall A S R K)
    pub next : Next before given after.came after.taken
    pub row : Row users before.session given moment store store' promises
        (Made promises' after.session actions)
    pub owes : releases actions ++ before.owed ≡ paid ++ after.owed
    pub carries : Carries actions before.lost carried after.lost
    pub closed : after.closed ≡ (before.closed || closes actions)
    pub heard : after.heard ≡ behind given before.heard
    pub trace : calls ≡ Lent before.session moment users store store' promises promises'
        ∷ (release_calls paid ++ carried)

  -- one move of a session
  pub data Move (before : Situation K) (calls : List (HostCall A S R K)) (after : Situation K) :
      Type 0 where
    Takes : IsTurn before calls after → Move before calls after
    -- there was no memory for the step of the next input: a session that ends well has no such move
    Tries : (given : Given K) (moment : ℕ) (users : Users) (store store' : S) (promises : Promises)
        (came : Option (SideEvent K)) (taken : List Item) → Next before given came taken
        → Row users before.session given moment store store' promises Stopped
        → after ≡ record before { lost = Some Memory }
        → calls ≡ Tried before.session moment users store store' promises ∷ []
        → Move before calls after
    -- in the place of a step for a line that may come next, the host ended the session: no line is
    -- taken any more
    Declines : (given : Given K) (came : Option (SideEvent K)) (taken : List Item)
        → Next before given came taken → is_line given ≡ true
        → after ≡ record before { closed = true }
        → calls ≡ Declined ∷ []
        → Move before calls after
    -- the data side was asked for an event, which it is not once the control connection is to be
    -- closed; for the end of a transfer that still runs it is asked only once the session is closed
    Asks : (event : Option (SideEvent K)) → before.came ≡ None
        → after ≡ record before { came = event; heard = asked_as true before.heard }
        → ((before.closed ≡ false) × (calls ≡ Asked (Looks event) ∷ []))
        ⊎ ((is_closed before.session.view.stage ≡ true) × (calls ≡ Asked (Settles event) ∷ []))
        → Move before calls after
    -- with nothing left to do, something was read, and these lines were found; nothing is read
    -- after the end
    Reads : (octets : List ℕ) (items : List Item) → IsIdle before → before.closed ≡ false
        → before.heard.ended ≡ false
        → after ≡ record before {
          heard = record {
            octets = before.heard.octets ++ octets;
            items = before.heard.items ++ items;
            reads = before.heard.reads + 1;
            ended = before.heard.ended;
            failed = before.heard.failed;
            asked = false;
          };
        }
        → calls ≡ Read octets ∷ [] → Move before calls after
    Ends : IsIdle before → before.closed ≡ false → before.heard.ended ≡ false
        → after ≡ record before {
          heard = record before.heard {
            reads = before.heard.reads + 1;
            ended = true;
            asked = false;
          };
        }
        → calls ≡ ReadEnd ∷ [] → Move before calls after
    Fails : IsIdle before → before.closed ≡ false → before.heard.ended ≡ false
        → after ≡ record before {
          heard = record before.heard {
            reads = before.heard.reads + 1;
            failed = true;
            asked = false;
          };
        }
        → calls ≡ ReadFailed ∷ [] → Move before calls after
    -- a floor that was owed is released
    Pays : (user : ℕ) (owed : List ℕ) → before.owed ≡ user ∷ owed
        → after ≡ record before { owed = owed }
        → calls ≡ Released user ∷ [] → Move before calls after

  -- moves, one after another, each with its calls
  abbrev pub Runs : List (List (HostCall A S R K)) → Situation K → Situation K → Type 0
  Runs [] before after = after ≡ before
  Runs (calls ∷ moves) before after =
      (mid : Situation K) × Move before calls mid × Runs moves mid after

abbrev pub concat : {X : Type 0} → List (List X) → List X
concat [] = []
concat (xs ∷ xss) = xs ++ concat xss

-- from a host and a situation to others, by moves with these calls of the host, in this order
pub record Went {H A S R K : Type 0}
    (Row : Users → Standing → Given K → ℕ → S → S → Promises → Outcome A R K → Type 0)
    (Does : H → HostCall A S R K → H → Type 0)
    (host : H) (before : Situation K) (host' : H) (after : Situation K) : Type 0 where
  pub moves : List (List (HostCall A S R K))
  pub asked : Chain Does host (concat moves) host'
  pub runs : Runs Row moves before after

-- the number of held lines after an input: a held line that is due decreases it, and an event of
-- the data side does not increase it
abbrev pub HoldsFewer : {K : Type 0} → Given K → Standing → Standing → Type 0
HoldsFewer (Line item) before after = Unit {0}
HoldsFewer Held before after = due before ≡ true → length after.held < length before.held
HoldsFewer (Came event) before after = length after.held ≤ length before.held
HoldsFewer Closed before after = Unit {0}
