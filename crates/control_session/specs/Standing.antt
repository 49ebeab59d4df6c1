-- The situation of a control session, from the values that it owns.
use Rattle.std.specs.Prelude.{ℕ, ◌≡◌, List, [], ◌∷◌, true, Option, Some, None}
use Rattle.authorizer.specs.Users.{Users}
use Rattle.control_session.specs.Sides.{Given, SideEvent, came_of}
use Rattle.control_session.specs.Sides.SideCall.{Settles}
use Rattle.ftp_wire.specs.Items.{Item}
use Rattle.rate_floors.specs.Promises.{Promises}
use Rattle.session_events.specs.declared.closing.Leaving.{Leaving}
use Rattle.session_events.specs.declared.closing.LoggedOut.{LoggedOut}
use Rattle.session_table.specs.Steps.{Standing}
use Rattle.session_table.specs.Views.{is_closed}
use Rattle.control_session.specs.Calls.{HostCall}
use Rattle.control_session.specs.Calls.HostCall.{Asked}
use Rattle.control_session.specs.Rows.{Outcome}
use Rattle.control_session.specs.Turns.{Heard, Situation, Went, asked_as, at}
use Rattle.control_session.specs.declared.turn_fault.TurnFault.{TurnFault}
use Rattle.control_session.specs.declared.talk.Talk.{Talk}

-- no floor is owed
abbrev pub stand : {A K : Type 0} → Talk A K → List Item → Heard → Situation K
stand talk taken heard =
    at talk.session (came_of talk.came) taken heard [] talk.closed talk.lost

-- all lines found in the octets heard were taken
abbrev pub AllTaken : List Item → Heard → Type 0
AllTaken taken heard = heard.items ≡ taken

-- the fault that breaks a turn off is kept from then on
abbrev pub IsLost : Option TurnFault → TurnFault → Type 0
IsLost lost fault = lost ≡ Some fault

-- the user whose floor is still to be released
abbrev pub owed : Option ℕ → List ℕ
owed None = []
owed (Some user) = user ∷ []

abbrev pub owed_by : {A : Type 0} → Option (LoggedOut A) → Option ℕ
owed_by None = None
owed_by (Some left) = Some left.number

abbrev pub owed_in : {A : Type 0} → Option (Leaving A) → Option ℕ
owed_in None = None
owed_in (Some leaving) = owed_by leaving.left

-- The end of a control session: the session is closed, then the data side is asked for the end of a
-- transfer that still runs, and that end is taken.
pub record Closing {H A S R K : Type 0}
    (Row : Users → Standing → Given K → ℕ → S → S → Promises → Outcome A R K → Type 0)
    (Does : H → HostCall A S R K → H → Type 0)
    (host : H) (before : Situation K) (host' : H) (after : Situation K) : Type 0 where
  pub mid : H
  pub mid' : H
  pub session : Standing
  pub owes : List ℕ
  pub event : Option (SideEvent K)
  pub first : Went Row Does host before mid
      (at session None before.taken before.heard owes before.closed before.lost)
  pub closed_then : is_closed session.view.stage ≡ true
  pub settled : Does mid (Asked (Settles event)) mid'
  pub rest : Went Row Does mid'
      (at session event before.taken (asked_as true before.heard) owes before.closed before.lost)
      host' after
