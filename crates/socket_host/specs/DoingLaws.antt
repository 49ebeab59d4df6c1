-- Proofs, not definitions to be believed: a host over sockets keeps the users of the login, and
-- charges whoever was logged in last. They are here since the toolchain wants the proof of a
-- trait's law among the definitions.
use Rattle.std.proofs.Common.{ℕ, ◌≡◌, ap, refl}
use Rattle.std.specs.Arc.{arc_value}
use Rattle.authorizer.specs.Users.{Users}
use Rattle.control_session.specs.Calls.{HostCall}
use Rattle.control_session.specs.Calls.HostCall.{Lent, Tried, Released, Noted, Wrote, Broke, Read, ReadEnd, ReadFailed, Declined, Asked}
use Rattle.control_session.specs.Charges.{ChargesUsers, user_by}
use Rattle.control_session.specs.Logins.{KeepsUsers, KeptBy}
use Rattle.server_house.specs.declared.terms.HeldTerms.{HeldTerms}
use Rattle.socket_host.specs.Doing.{SocketDoes, Stays, StandingBy, kept_users}
use Rattle.socket_host.specs.declared.standing.Standing.{Standing}

users_of : (old new : Standing) → new.held ≡ old.held → kept_users new ≡ kept_users old
users_of old new same = ap (λ (held : HeldTerms). (arc_value held.terms).users.users) same

kept_same : (old new : Standing) → Stays old new → kept_users new ≡ kept_users old
kept_same old new same = users_of old new same.held

module _ {A S R K : Type 0} where
  -- the users that are kept
  pub kept_by : (old new : Standing) (call : HostCall A S R K) → StandingBy old call new
      → KeptBy kept_users old call new
  kept_by old new (Lent session moment users store store' promises promises') did =
      (did.kept, did.now)
  kept_by old new (Tried session moment users store store' promises) did = (did.kept, did.now)
  kept_by old new (Released user) did = kept_same old new did
  kept_by old new (Noted event) did = users_of old new did.held
  kept_by old new (Wrote text) did = kept_same old new did
  kept_by old new (Broke text) did = kept_same old new did
  kept_by old new (Read octets) did = kept_same old new did
  kept_by old new ReadEnd did = kept_same old new did
  kept_by old new ReadFailed did = kept_same old new did
  kept_by old new Declined did = kept_same old new did
  kept_by old new (Asked call) did = kept_same old new did

  -- the user who was logged in last
  pub noted_by : (old new : Standing) (call : HostCall A S R K) → StandingBy old call new
      → new.user ≡ user_by (kept_users old) old.user call
  noted_by old new (Lent session moment users store store' promises promises') did = did.user
  noted_by old new (Tried session moment users store store' promises) did = did.user
  noted_by old new (Released user) did = did.user
  noted_by old new (Noted event) did = did.user
  noted_by old new (Wrote text) did = did.user
  noted_by old new (Broke text) did = did.user
  noted_by old new (Read octets) did = did.user
  noted_by old new ReadEnd did = did.user
  noted_by old new ReadFailed did = did.user
  noted_by old new Declined did = did.user
  noted_by old new (Asked call) did = did.user

module _ {H A S R K : Type 0} (standing : H → Standing) (payer : H → ℕ) where
  pub keeps_users : KeepsUsers {H = H} {A = A} {S = S} {R = R} {K = K} (λ old call new.
      SocketDoes (standing old) (payer old) call (standing new) (payer new))
      (λ host. kept_users (standing host))
  keeps_users old new (Lent session moment users store store' promises promises') did =
      (did.0.kept, did.0.now)
  keeps_users old new (Tried session moment users store store' promises) did =
      (did.0.kept, did.0.now)
  keeps_users old new (Released user) did =
      kept_by {A = A} {S = S} {R = R} {K = K} (standing old) (standing new) (Released user) did.0
  keeps_users old new (Noted event) did =
      kept_by {A = A} {S = S} {R = R} {K = K} (standing old) (standing new) (Noted event) did.0
  keeps_users old new (Wrote text) did =
      kept_by {A = A} {S = S} {R = R} {K = K} (standing old) (standing new) (Wrote text) did.0
  keeps_users old new (Broke text) did =
      kept_by {A = A} {S = S} {R = R} {K = K} (standing old) (standing new) (Broke text) did.0
  keeps_users old new (Read octets) did =
      kept_by {A = A} {S = S} {R = R} {K = K} (standing old) (standing new) (Read octets) did.0
  keeps_users old new ReadEnd did =
      kept_by {A = A} {S = S} {R = R} {K = K} (standing old) (standing new) ReadEnd did.0
  keeps_users old new ReadFailed did =
      kept_by {A = A} {S = S} {R = R} {K = K} (standing old) (standing new) ReadFailed did.0
  keeps_users old new Declined did =
      kept_by {A = A} {S = S} {R = R} {K = K} (standing old) (standing new) Declined did.0
  keeps_users old new (Asked call) did =
      kept_by {A = A} {S = S} {R = R} {K = K} (standing old) (standing new) (Asked call) did.0

  pub charges_users : ChargesUsers {H = H} {A = A} {S = S} {R = R} {K = K} (λ old call new.
      SocketDoes (standing old) (payer old) call (standing new) (payer new))
      (λ host. kept_users (standing host)) (λ host. (standing host).user) payer
  charges_users old new call did =
      (noted_by {A = A} {S = S} {R = R} {K = K} (standing old) (standing new) call did.0, did.1)
