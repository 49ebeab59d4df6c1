-- A host that charges whoever was logged in last charges in a whole session whoever logged in.
use Rattle.std.proofs.Common.{ℕ, ◌≡◌, ◌⊎◌, inl, inr, List, [], ◌∷◌, Result, refl, ap, subst}
use Rattle.authorizer.specs.Users.{Users}
use Rattle.control_session.specs.Calls.{Chain, HostCall}
use Rattle.control_session.specs.Calls.HostCall.{Lent, Tried, Released, Noted, Wrote, Broke, Read, ReadEnd, ReadFailed, Declined, Asked}
use Rattle.control_session.specs.Charges.{ChargesLogins, ChargesUsers, IsCharged, IsChargedByLogins, user_by, users_by}
use Rattle.control_session.specs.Logins.{KeepsUsers, KeptBy, calls_of}
use Rattle.control_session.specs.Rows.{Outcome}
use Rattle.control_session.specs.Sessions.{IsServed}
use Rattle.control_session.specs.Sides.{Given}
use Rattle.control_session.specs.declared.fault.ControlFault.{ControlFault}
use Rattle.rate_floors.specs.Promises.{Promises}
use Rattle.session_table.specs.Steps.{Standing}
use Rattle.control_session.proofs.Logins.{chain_serves, session_chain}

kept_by : {H A S R K : Type 0} (kept : H → Users) (old new : H) (call : HostCall A S R K) → KeptBy kept old call new → kept new ≡ users_by (kept old) call
kept_by kept old new (Lent session moment users store store' promises promises') (keeps, now) = now
kept_by kept old new (Tried session moment users store store' promises) (keeps, now) = now
kept_by kept old new (Released user) same = same
kept_by kept old new (Noted event) same = same
kept_by kept old new (Wrote text) same = same
kept_by kept old new (Broke text) same = same
kept_by kept old new (Read octets) same = same
kept_by kept old new ReadEnd same = same
kept_by kept old new ReadFailed same = same
kept_by kept old new Declined same = same
kept_by kept old new (Asked call) same = same

module _ {H A S R K : Type 0} (Does : H → HostCall A S R K → H → Type 0) (kept : H → Users) (user charged : H → ℕ) (keeps : KeepsUsers Does kept) (charges : ChargesUsers Does kept user charged) where
  chain_charges : (calls : List (HostCall A S R K)) (old new : H) → Chain Does old calls new → ChargesLogins (kept old) (user old) (charged old) calls (charged new)
  chain_charges [] old new same = ap charged same
  chain_charges (call ∷ calls) old new (mid, did, more) =
      let (next, is) = charges old mid call did in
      let rest = chain_charges calls mid new more in (
        charged mid,
        is,
        subst (λ (u : Users). ChargesLogins u (user_by (kept old) (user old) call) (charged mid) calls (charged new)) (kept_by kept old mid call (keeps old mid call did))
            (subst (λ (n : ℕ). ChargesLogins (kept mid) n (charged mid) calls (charged new)) next rest),
      )

  module _ (Row : Users → Standing → Given K → ℕ → S → S → Promises → Outcome A R K → Type 0) where
    pub charged_by_logins : {T : Type 0} (turns : ℕ) (result : Result T ControlFault) (session : Standing) (host host' : H) → IsServed Row Does turns result session host host'
        → IsChargedByLogins Row Does turns result session host host' (kept host) (user host) (charged host) (charged host')
    charged_by_logins turns result session host host' (inl unserved) = inl (unserved, ap charged unserved.1)
    charged_by_logins turns result session host host' (inr is) =
        let chain = session_chain Does kept keeps Row turns result session host host' is in
        let calls = calls_of Row Does turns result session host host' is in
        inr (is, chain_serves Does kept keeps calls host host' chain, chain_charges calls host host' chain)
