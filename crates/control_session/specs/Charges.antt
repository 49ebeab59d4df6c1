-- The users to whom the transfers of a session are charged.
use Rattle.std.specs.Prelude.{ℕ, ◌≡◌, ◌⊎◌, List, [], ◌∷◌, Result}
use Rattle.authorizer.specs.Users.{Users}
use Rattle.handler_hooks.specs.Events.{Event}
use Rattle.handler_hooks.specs.Events.Event.{LoggedIn}
use Rattle.control_session.specs.Calls.{HostCall}
use Rattle.control_session.specs.Calls.HostCall.{Lent, Tried, Noted, Asked}
use Rattle.control_session.specs.Logins.{ServesLogins, calls_of}
use Rattle.control_session.specs.Rows.{Outcome}
use Rattle.control_session.specs.Sessions.{IsSession, IsUnserved}
use Rattle.control_session.specs.Sides.{Given, SideCall}
use Rattle.control_session.specs.Sides.SideCall.{Starts}
use Rattle.control_session.specs.declared.fault.ControlFault.{ControlFault}
use Rattle.rate_floors.specs.Promises.{Promises}
use Rattle.session_table.specs.StateRows.{number_of}
use Rattle.session_table.specs.Steps.{Standing}

-- the users of the last step
abbrev pub users_by : {A S R K : Type 0} → Users → HostCall A S R K → Users
users_by users (Lent session moment lent store store' promises promises') = lent
users_by users (Tried session moment lent store store' promises) = lent
users_by users _ = users

-- the number of the user who was logged in last, by these users
abbrev pub user_noted : Users → ℕ → Event → ℕ
user_noted users user (LoggedIn name) = number_of users name
user_noted users user _ = user

abbrev pub user_by : {A S R K : Type 0} → Users → ℕ → HostCall A S R K → ℕ
user_by users user (Noted event) = user_noted users user event
user_by users user _ = user

-- A transfer that is begun is charged to this user; no other call changes who is charged.
abbrev pub ChargedBy : {A R K : Type 0} → ℕ → SideCall A R K → ℕ → ℕ → Type 0
ChargedBy user (Starts job) before after = after ≡ user
ChargedBy user _ before after = after ≡ before

abbrev pub IsCharged : {A S R K : Type 0} → ℕ → HostCall A S R K → ℕ → ℕ → Type 0
IsCharged user (Asked call) before after = ChargedBy user call before after
IsCharged user _ before after = after ≡ before

-- A host that keeps the users of the last step, and the number of the user who was logged in last,
-- and charges that user for each transfer that is begun.
abbrev pub ChargesUsers : {H A S R K : Type 0} → (H → HostCall A S R K → H → Type 0) → (H → Users)
    → (H → ℕ) → (H → ℕ) → Type 0
ChargesUsers {H} {A} {S} {R} {K} Does kept user charged =
    (old new : H) (call : HostCall A S R K) → Does old call new
    → (user new ≡ user_by (kept old) (user old) call)
    × IsCharged (user old) call (charged old) (charged new)

-- Each transfer that is begun is charged to the user who was logged in last: the user of the name
-- that the handler was told last, by the users of the step of that login.
abbrev pub ChargesLogins : {A S R K : Type 0} → Users → ℕ → ℕ → List (HostCall A S R K) → ℕ
    → Type 0
ChargesLogins users user before [] after = after ≡ before
ChargesLogins users user before (call ∷ calls) after =
    (mid : ℕ) × IsCharged user call before mid
    × ChargesLogins (users_by users call) (user_by users user call) mid calls after

module _ {H A S R K T : Type 0}
    (Row : Users → Standing → Given K → ℕ → S → S → Promises → Outcome A R K → Type 0)
    (Does : H → HostCall A S R K → H → Type 0)
    (turns : ℕ) (result : Result T ControlFault) (session : Standing) (host host' : H) where
  -- a session in which each step is for the users of the login, and which charges whoever logged in
  abbrev pub IsChargedByLogins : Users → ℕ → ℕ → ℕ → Type 0
  IsChargedByLogins users user before after =
      (IsUnserved Row Does turns result session host host' × (after ≡ before))
      ⊎ ((is : IsSession Row Does turns result session host host')
      × ServesLogins users (calls_of Row Does turns result session host host' is)
      × ChargesLogins users user before
      (calls_of Row Does turns result session host host' is) after)
