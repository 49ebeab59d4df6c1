-- The effect of each call on a host over sockets: which users it keeps, who was logged in last, and
-- who is charged for what is on its ticket. What went over sockets and through locks is left open.
use Rattle.std.specs.Prelude.{ℕ, ◌≡◌}
use Rattle.std.specs.Arc.{arc_value}
use Rattle.authorizer.specs.Users.{Users}
use Rattle.control_session.specs.Calls.{HostCall}
use Rattle.control_session.specs.Calls.HostCall.{Lent, Tried, Noted}
use Rattle.control_session.specs.Charges.{IsCharged, user_noted}
use Rattle.control_session.specs.Logins.{KeepsFor}
use Rattle.handler_hooks.specs.Events.{Event}
use Rattle.socket_host.specs.declared.standing.Standing.{Standing}
use Rattle.session_table.specs.Steps as table

-- the users by whom the session goes
abbrev pub kept_users : Standing → Users
kept_users standing = (arc_value standing.held.terms).users.users

-- the user and the users stay
pub record Stays (old new : Standing) : Type 0 where
  pub held : new.held ≡ old.held
  pub user : new.user ≡ old.user

-- a step is for the users that are kept, if somebody is logged in before it, and they are kept then
pub record LendsTo (session : table.Standing) (old : Standing) (lent : Users) (new : Standing) :
    Type 0 where
  pub kept : KeepsFor session (kept_users old) lent
  pub now : kept_users new ≡ lent
  pub user : new.user ≡ old.user

-- an event of the handler: a login is that of the user of the name, by the users that are kept
pub record Notes (old : Standing) (event : Event) (new : Standing) : Type 0 where
  pub held : new.held ≡ old.held
  pub user : new.user ≡ user_noted (kept_users old) old.user event

abbrev pub StandingBy : {A S R K : Type 0} → Standing → HostCall A S R K → Standing → Type 0
StandingBy old (Lent session moment lent store store' promises promises') new =
    LendsTo session old lent new
StandingBy old (Tried session moment lent store store' promises) new =
    LendsTo session old lent new
StandingBy old (Noted event) new = Notes old event new
StandingBy old _ new = Stays old new

-- the user of the session, and the number charged for the transfer that was begun last
abbrev pub SocketDoes : {A S R K : Type 0} → Standing → ℕ → HostCall A S R K → Standing → ℕ → Type 0
SocketDoes old payer call new payer' =
    StandingBy old call new × IsCharged old.user call payer payer'
