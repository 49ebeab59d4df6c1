-- The users by whom whoever is logged in is served.
use Rattle.std.specs.Prelude.{ℕ, ◌≡◌, ◌⊎◌, List, [], ◌∷◌, ◌++◌, true, Result}
use Rattle.authorizer.specs.Users.{Users}
use Rattle.control_session.specs.Calls.{HostCall}
use Rattle.control_session.specs.Calls.HostCall.{Lent, Tried, Asked}
use Rattle.control_session.specs.Rows.{Outcome}
use Rattle.control_session.specs.Sessions.{IsSession, IsUnserved}
use Rattle.control_session.specs.Sides.{Given}
use Rattle.control_session.specs.Sides.SideCall.{Settles}
use Rattle.control_session.specs.Turns.{concat}
use Rattle.control_session.specs.declared.fault.ControlFault.{ControlFault}
use Rattle.rate_floors.specs.Promises.{Promises}
use Rattle.session_table.specs.Steps.{Standing}
use Rattle.session_table.specs.Views.{is_inside}

-- the users lent for a step are those kept, if somebody is logged in before it
abbrev pub KeepsFor : Standing → Users → Users → Type 0
KeepsFor session kept users = is_inside session.view.stage ≡ true → users ≡ kept

-- The users that a host keeps are those that it lent last: it takes others only for a step before
-- which nobody is logged in.
abbrev pub KeptBy : {H A S R K : Type 0} → (H → Users) → H → HostCall A S R K → H → Type 0
KeptBy kept old (Lent session moment users store store' promises promises') new =
    KeepsFor session (kept old) users × (kept new ≡ users)
KeptBy kept old (Tried session moment users store store' promises) new =
    KeepsFor session (kept old) users × (kept new ≡ users)
KeptBy kept old _ new = kept new ≡ kept old

abbrev pub KeepsUsers : {H A S R K : Type 0} → (H → HostCall A S R K → H → Type 0) → (H → Users)
    → Type 0
KeepsUsers {H} {A} {S} {R} {K} Does kept =
    (old new : H) (call : HostCall A S R K) → Does old call new → KeptBy kept old call new

-- A step before which somebody is logged in is for the users of the step before it, and so for
-- those of the last step before which nobody was logged in: the step of the login. `users` are
-- those of the step before the calls.
abbrev pub ServesLogins : {A S R K : Type 0} → Users → List (HostCall A S R K) → Type 0
ServesLogins users [] = Unit {0}
ServesLogins users (Lent session moment users' store store' promises promises' ∷ calls) =
    KeepsFor session users users' × ServesLogins users' calls
ServesLogins users (Tried session moment users' store store' promises ∷ calls) =
    KeepsFor session users users' × ServesLogins users' calls
ServesLogins users (_ ∷ calls) = ServesLogins users calls

module _ {H A S R K T : Type 0}
    (Row : Users → Standing → Given K → ℕ → S → S → Promises → Outcome A R K → Type 0)
    (Does : H → HostCall A S R K → H → Type 0)
    (turns : ℕ) (result : Result T ControlFault) (session : Standing) (host host' : H) where
  -- all calls of a session, in their order
  abbrev pub calls_of : IsSession Row Does turns result session host host' → List (HostCall A S R K)
  calls_of is =
      is.said ++ (concat is.went.moves
      ++ (concat is.closing.first.moves
      ++ Asked (Settles is.closing.event) ∷ concat is.closing.rest.moves))

  -- a session in whose calls each step is for the users of the login, from these users on
  abbrev pub IsServedByLogins : Users → Type 0
  IsServedByLogins users =
      IsUnserved Row Does turns result session host host'
      ⊎ ((is : IsSession Row Does turns result session host host')
      × ServesLogins users (calls_of is))
