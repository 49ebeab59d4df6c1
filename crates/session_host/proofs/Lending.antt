-- What a host that has all for itself makes of its floors and of what was lent to it.
use Rattle.std.proofs.Common.{ℕ, ◌≡◌, ◌∙◌, Bool, List, Option, refl, ap, subst}
use Rattle.authorizer.specs.Users.{Users}
use Rattle.handler_hooks.specs.Events.{Event}
use Rattle.control_session.specs.Calls.{HostCall}
use Rattle.control_session.specs.Calls.HostCall.{Lent, Tried, Released, Noted, Wrote, Broke, Read, ReadEnd, ReadFailed, Declined, Asked}
use Rattle.control_session.specs.Floors.{FloorsBy}
use Rattle.control_session.specs.Sides.{SideCall}
use Rattle.session_host.specs.Alone.{AloneDoes, Parts, SameLent, SoleDoes, parts}
use Rattle.session_host.specs.declared.host.SoleHost.{SoleHost}

module _ {F S C D R W H : Type 0} where
  pub lent_none : (host : SoleHost S F C D R W H) → SameLent host host
  lent_none host = record { users = refl; store = refl; floors = refl; clock = refl; side = refl; reader = refl; writer = refl; hooks = refl }

  pub lent_then : (a b c : SoleHost S F C D R W H) → SameLent a b → SameLent b c → SameLent a c
  lent_then a b c first second = record {
    users = second.users ∙ first.users;
    store = second.store ∙ first.store;
    floors = second.floors ∙ first.floors;
    clock = second.clock ∙ first.clock;
    side = second.side ∙ first.side;
    reader = second.reader ∙ first.reader;
    writer = second.writer ∙ first.writer;
    hooks = second.hooks ∙ first.hooks;
  }

module _ {A S C D R W H Q K : Type 0} (users : Users) (Gives : C → ℕ → C → Type 0) (Asks : D → SideCall A Q K → D → Type 0) (Reported : H → Event → H → Type 0)
    (remaining : R → Option (List ℕ)) (may_fail : R → Bool) (contents : W → Option (List ℕ)) (may_refuse : W → List ℕ → Type 0) where
  -- the floors change by what is lent and by releases
  pub alone_floors : (old new : Parts S C D R W H) (call : HostCall A S Q K) → AloneDoes users Gives Asks Reported remaining may_fail contents may_refuse old call new
      → FloorsBy (λ (host : Parts S C D R W H). host.promises) old call new
  alone_floors old new (Lent session moment lent store store' promises promises') did = (did.promises_lent, ap (λ (host : Parts S C D R W H). host.promises) did.rest)
  alone_floors old new (Tried session moment lent store store' promises) did = ap (λ (host : Parts S C D R W H). host.promises) did.rest ∙ did.promises_lent
  alone_floors old new (Released user) did = ap (λ (host : Parts S C D R W H). host.promises) did
  alone_floors old new (Noted event) did = ap (λ (host : Parts S C D R W H). host.promises) did.1
  alone_floors old new (Wrote text) did = ap (λ (host : Parts S C D R W H). host.promises) did.1
  alone_floors old new (Broke text) did = ap (λ (host : Parts S C D R W H). host.promises) did.2
  alone_floors old new (Read octets) did = ap (λ (host : Parts S C D R W H). host.promises) did.0.rest
  alone_floors old new ReadEnd did = ap (λ (host : Parts S C D R W H). host.promises) did.0.rest
  alone_floors old new ReadFailed did = ap (λ (host : Parts S C D R W H). host.promises) did.0.rest
  alone_floors old new Declined did = absurd did
  alone_floors old new (Asked call) did = ap (λ (host : Parts S C D R W H). host.promises) did.1

module _ {A S C D R W H Q K F : Type 0} (Gives : C → ℕ → C → Type 0) (Asks : D → SideCall A Q K → D → Type 0) (Reported : H → Event → H → Type 0)
    (remaining : R → Option (List ℕ)) (may_fail : R → Bool) (contents : W → Option (List ℕ)) (may_refuse : W → List ℕ → Type 0) where
  -- the users that a host lends are those that it has, from call to call
  pub sole_seen : (users : Users) (old new : SoleHost S F C D R W H) (call : HostCall A S Q K) → old.users.now.users ≡ users → SoleDoes Gives Asks Reported remaining may_fail contents may_refuse old call new
      → AloneDoes users Gives Asks Reported remaining may_fail contents may_refuse (parts old) call (parts new) × (new.users.now.users ≡ users)
  sole_seen users old new call has did = (
    subst (λ (u : Users). AloneDoes u Gives Asks Reported remaining may_fail contents may_refuse (parts old) call (parts new)) has did.1,
    ap (λ x. x.now.users) did.0.users ∙ has,
  )

  pub sole_lent : (old new : SoleHost S F C D R W H) (call : HostCall A S Q K) → SoleDoes Gives Asks Reported remaining may_fail contents may_refuse old call new → SameLent old new
  sole_lent old new call did = did.0

  pub sole_floors : (old new : SoleHost S F C D R W H) (call : HostCall A S Q K) → SoleDoes Gives Asks Reported remaining may_fail contents may_refuse old call new
      → FloorsBy (λ (host : SoleHost S F C D R W H). host.floors.now) old call new
  sole_floors old new (Lent session moment lent store store' promises promises') did = alone_floors old.users.now.users Gives Asks Reported remaining may_fail contents may_refuse (parts old) (parts new) (Lent session moment lent store store' promises promises') did.1
  sole_floors old new (Tried session moment lent store store' promises) did = alone_floors old.users.now.users Gives Asks Reported remaining may_fail contents may_refuse (parts old) (parts new) (Tried session moment lent store store' promises) did.1
  sole_floors old new (Released user) did = alone_floors old.users.now.users Gives Asks Reported remaining may_fail contents may_refuse (parts old) (parts new) (Released user) did.1
  sole_floors old new (Noted event) did = alone_floors old.users.now.users Gives Asks Reported remaining may_fail contents may_refuse (parts old) (parts new) (Noted event) did.1
  sole_floors old new (Wrote text) did = alone_floors old.users.now.users Gives Asks Reported remaining may_fail contents may_refuse (parts old) (parts new) (Wrote text) did.1
  sole_floors old new (Broke text) did = alone_floors old.users.now.users Gives Asks Reported remaining may_fail contents may_refuse (parts old) (parts new) (Broke text) did.1
  sole_floors old new (Read octets) did = alone_floors old.users.now.users Gives Asks Reported remaining may_fail contents may_refuse (parts old) (parts new) (Read octets) did.1
  sole_floors old new ReadEnd did = alone_floors old.users.now.users Gives Asks Reported remaining may_fail contents may_refuse (parts old) (parts new) ReadEnd did.1
  sole_floors old new ReadFailed did = alone_floors old.users.now.users Gives Asks Reported remaining may_fail contents may_refuse (parts old) (parts new) ReadFailed did.1
  sole_floors old new Declined did = absurd did.1
  sole_floors old new (Asked call) did = alone_floors old.users.now.users Gives Asks Reported remaining may_fail contents may_refuse (parts old) (parts new) (Asked call) did.1
