-- The effect of calls on a host over sockets.
use Rattle.std.proofs.Common.{ℕ, ◌≡◌, ◌∙◌, Bool, true, List, Option, Result, Ok, Err, refl, sym, ap, subst}
use Rattle.std.specs.Arc.{arc_value}
use Rattle.std.specs.declared.alloc.Global.{Global}
use Rattle.authorizer.specs.Users.{Users}
use Rattle.control_session.specs.Calls.{HostCall, read_call, write_call}
use Rattle.control_session.specs.Calls.HostCall.{Lent, Tried}
use Rattle.control_session.specs.Rows.{Outcome}
use Rattle.control_session.specs.Rows.Outcome.{Made, Stopped}
use Rattle.control_session.specs.Sides.{Given}
use Rattle.control_session.specs.Turns.{StepRefused}
use Rattle.control_session.specs.declared.host.Piece.{Piece}
use Rattle.control_session.specs.declared.host.Piece.TheVariants as piece
use Rattle.control_session.specs.declared.no_step.NoStep.{NoStep}
use Rattle.control_session.specs.declared.no_step.NoStep.TheVariants as unmade
use Rattle.handler_hooks.specs.Events.{event_of}
use Rattle.rate_floors.specs.Promises.{Promises}
use Rattle.server_house.specs.declared.terms.HeldTerms.{HeldTerms}
use Rattle.session_table.specs.Steps as table
use Rattle.session_table.specs.Views.{is_inside}
use Rattle.session_table.specs.declared.actions.Action.{Action}
use Rattle.session_table.specs.declared.actions.HookCall.{HookCall}
use Rattle.session_table.specs.declared.actions.HookCall.TheVariants as hook
use Rattle.session_table.specs.declared.inputs.Input.{Input}
use Rattle.socket_host.specs.Doing.{LendsTo, Notes, SocketDoes, Stays, kept_users}
use Rattle.socket_host.specs.Lending.{LentFor, RefusedFor}
use Rattle.socket_host.specs.Standing.{Follows}
use Rattle.socket_host.specs.declared.standing.Standing.{Standing}

pub both : {P Q : Type 0} → P → Q → P × Q
both p q = (p, q)

pub stays : (old new : Standing) → new ≡ old → Stays old new
stays old new same = record { held = ap (λ (s : Standing). s.held) same; user = ap (λ (s : Standing). s.user) same }

-- the terms are taken, unless somebody is logged in; then the step is made, and its record is followed
pub lends : (session : table.Standing) (s0 s1 s2 s3 s4 : Standing) (inside : Bool) → Stays s0 s1 → inside ≡ is_inside session.view.stage → (inside ≡ true → s2.held ≡ s1.held) → s2.user ≡ s1.user
    → s3 ≡ s2 → s4 ≡ s3 → LendsTo session s0 (kept_users s2) s4
lends session s0 s1 s2 s3 s4 inside first is keeps user step record_of = record {
  kept = λ logged_in. ap (λ (held : HeldTerms). (arc_value held.terms).users.users) (keeps (is ∙ logged_in) ∙ first.held);
  now = ap kept_users (record_of ∙ step);
  user = ap (λ (s : Standing). s.user) (record_of ∙ step) ∙ (user ∙ first.user);
}

pub lends_same : (session : table.Standing) (s0 s1 : Standing) → s1 ≡ s0 → LendsTo session s0 (kept_users s0) s1
lends_same session s0 s1 same = record { kept = λ logged_in. refl; now = ap kept_users same; user = ap (λ (s : Standing). s.user) same }

pub lends_by : (session : table.Standing) (s0 s1 : Standing) (lent : Users) → lent ≡ kept_users s0 → s1 ≡ s0 → LendsTo session s0 lent s1
lends_by session s0 s1 lent is same = record {
  kept = λ logged_in. is;
  now = ap kept_users same ∙ sym is;
  user = ap (λ (s : Standing). s.user) same;
}

pub followed : (old new : Standing) (call : HookCall Global) → Follows old call new → Notes old (event_of call) new
followed old new hook.Connect same = record { held = ap (λ (s : Standing). s.held) same; user = ap (λ (s : Standing). s.user) same }
followed old new hook.Disconnect same = record { held = ap (λ (s : Standing). s.held) same; user = ap (λ (s : Standing). s.user) same }
followed old new (hook.Login name) (user, inside, held) = record { held = held; user = user }
followed old new (hook.LoginFailed name) same = record { held = ap (λ (s : Standing). s.held) same; user = ap (λ (s : Standing). s.user) same }
followed old new (hook.Logout name) (inside, held, user) = record { held = held; user = user }
followed old new (hook.FileSent path) same = record { held = ap (λ (s : Standing). s.held) same; user = ap (λ (s : Standing). s.user) same }
followed old new (hook.FileReceived path) same = record { held = ap (λ (s : Standing). s.held) same; user = ap (λ (s : Standing). s.user) same }
followed old new (hook.IncompleteFileSent path) same = record { held = ap (λ (s : Standing). s.held) same; user = ap (λ (s : Standing). s.user) same }
followed old new (hook.IncompleteFileReceived path) same = record { held = ap (λ (s : Standing). s.held) same; user = ap (λ (s : Standing). s.user) same }

pub wrote_does : (A S R K : Type 0) {T E : Type 0} (result : Result T E) (text : List ℕ) (s0 s1 : Standing) (p0 p1 : ℕ) → Stays s0 s1 → p1 ≡ p0 → SocketDoes {A = A} {S = S} {R = R} {K = K} s0 p0 (write_call result text) s1 p1
wrote_does A S R K (Ok done) text s0 s1 p0 p1 same paid = (same, paid)
wrote_does A S R K (Err fault) text s0 s1 p0 p1 same paid = (same, paid)

pub read_does : (A S R K : Type 0) {E : Type 0} (result : Result Piece E) (buffer : List ℕ) (s0 s1 : Standing) (p0 p1 : ℕ) → Stays s0 s1 → p1 ≡ p0 → SocketDoes {A = A} {S = S} {R = R} {K = K} s0 p0 (read_call result buffer) s1 p1
read_does A S R K (Ok (piece.Octets count)) buffer s0 s1 p0 p1 same paid = (same, paid)
read_does A S R K (Ok piece.Nothing) buffer s0 s1 p0 p1 same paid = (same, paid)
read_does A S R K (Ok piece.AtEnd) buffer s0 s1 p0 p1 same paid = (same, paid)
read_does A S R K (Err fault) buffer s0 s1 p0 p1 same paid = (same, paid)

module _ {H A S R K : Type 0} (Row : Users → table.Standing → Given K → ℕ → S → S → Promises → Outcome A R K → Type 0) (Does : H → HostCall A S R K → H → Type 0) where
  pub refused_for : (old new : H) (users : Users) (session : table.Standing) (given : Given K) (event : Option (Input A K))
      → ((moment : ℕ) (store store' : S) (promises : Promises) → Does old (Tried session moment users store store' promises) new)
      → (why : NoStep A K) → RefusedFor Row users session given event why → StepRefused Row Does old session given event why new
  refused_for old new users session given event did (unmade.NoMemory back) (moment, store, store', promises, row, is) =
      ((moment, users, store, store', promises, did moment store store' promises, row), is)
  refused_for old new users session given event did unmade.Over refused = absurd refused

module _ {A S R K : Type 0} (Row : Users → table.Standing → Given K → ℕ → S → S → Promises → Outcome A R K → Type 0) where
  -- a step by these users is one for those that are the same
  pub made_users : (u u' : Users) (session : table.Standing) (given : Given K) (session' : table.Standing) (actions : List (Action A R K)) → u ≡ u'
      → (moment : ℕ) (store store' : S) (promises promises' : Promises) → Row u session given moment store store' promises (Made promises' session' actions)
      → LentFor Row u' session given session' actions
  made_users u u' session given session' actions same moment store store' promises promises' row =
      subst (λ (x : Users). LentFor Row x session given session' actions) same (moment, store, store', promises, promises', row)

  pub stopped_users : (u u' : Users) (session : table.Standing) (given : Given K) (event : Option (Input A K)) → u ≡ u'
      → (moment : ℕ) (store store' : S) (promises : Promises) → Row u session given moment store store' promises Stopped
      → RefusedFor Row u' session given event (unmade.NoMemory event)
  stopped_users u u' session given event same moment store store' promises row =
      subst (λ (x : Users). RefusedFor Row x session given event (unmade.NoMemory event)) same (moment, store, store', promises, row, refl)
