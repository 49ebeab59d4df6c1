-- On a host that takes newer users only while nobody is logged in, whoever is logged in is served by the users of the login.
use Rattle.std.proofs.Common.{ℕ, inl, inr, List, [], ◌∷◌, ◌++◌, Result, subst}
use Rattle.authorizer.specs.Users.{Users}
use Rattle.control_session.specs.Calls.{Chain, HostCall}
use Rattle.control_session.specs.Calls.HostCall.{Lent, Tried, Released, Noted, Wrote, Broke, Read, ReadEnd, ReadFailed, Declined, Asked}
use Rattle.control_session.specs.Logins.{IsServedByLogins, KeepsUsers, ServesLogins, calls_of}
use Rattle.control_session.specs.Rows.{Outcome}
use Rattle.control_session.specs.Sessions.{IsServed, IsSession}
use Rattle.control_session.specs.Sides.{Given}
use Rattle.control_session.specs.Sides.SideCall.{Settles}
use Rattle.control_session.specs.Turns.{concat}
use Rattle.control_session.specs.declared.fault.ControlFault.{ControlFault}
use Rattle.rate_floors.specs.Promises.{Promises}
use Rattle.session_table.specs.Steps.{Standing}
use Rattle.control_session.proofs.Going.{chain_more}

module _ {H A S R K : Type 0} (Does : H → HostCall A S R K → H → Type 0) (kept : H → Users) (keeps : KeepsUsers Does kept) where
  pub chain_serves : (calls : List (HostCall A S R K)) (old new : H) → Chain Does old calls new → ServesLogins (kept old) calls
  chain_serves [] old new same = tt
  chain_serves (Lent session moment users store store' promises promises' ∷ calls) old new (mid, did, more) =
      let (same, now) = keeps old mid (Lent session moment users store store' promises promises') did in
      (same, subst (λ (u : Users). ServesLogins u calls) now (chain_serves calls mid new more))
  chain_serves (Tried session moment users store store' promises ∷ calls) old new (mid, did, more) =
      let (same, now) = keeps old mid (Tried session moment users store store' promises) did in
      (same, subst (λ (u : Users). ServesLogins u calls) now (chain_serves calls mid new more))
  chain_serves (Released user ∷ calls) old new (mid, did, more) = subst (λ (u : Users). ServesLogins u calls) (keeps old mid (Released user) did) (chain_serves calls mid new more)
  chain_serves (Noted event ∷ calls) old new (mid, did, more) = subst (λ (u : Users). ServesLogins u calls) (keeps old mid (Noted event) did) (chain_serves calls mid new more)
  chain_serves (Wrote text ∷ calls) old new (mid, did, more) = subst (λ (u : Users). ServesLogins u calls) (keeps old mid (Wrote text) did) (chain_serves calls mid new more)
  chain_serves (Broke text ∷ calls) old new (mid, did, more) = subst (λ (u : Users). ServesLogins u calls) (keeps old mid (Broke text) did) (chain_serves calls mid new more)
  chain_serves (Read octets ∷ calls) old new (mid, did, more) = subst (λ (u : Users). ServesLogins u calls) (keeps old mid (Read octets) did) (chain_serves calls mid new more)
  chain_serves (ReadEnd ∷ calls) old new (mid, did, more) = subst (λ (u : Users). ServesLogins u calls) (keeps old mid ReadEnd did) (chain_serves calls mid new more)
  chain_serves (ReadFailed ∷ calls) old new (mid, did, more) = subst (λ (u : Users). ServesLogins u calls) (keeps old mid ReadFailed did) (chain_serves calls mid new more)
  chain_serves (Declined ∷ calls) old new (mid, did, more) = subst (λ (u : Users). ServesLogins u calls) (keeps old mid Declined did) (chain_serves calls mid new more)
  chain_serves (Asked call ∷ calls) old new (mid, did, more) = subst (λ (u : Users). ServesLogins u calls) (keeps old mid (Asked call) did) (chain_serves calls mid new more)

  module _ (Row : Users → Standing → Given K → ℕ → S → S → Promises → Outcome A R K → Type 0) where
    pub session_chain : {T : Type 0} (turns : ℕ) (result : Result T ControlFault) (session : Standing) (host host' : H) (is : IsSession Row Does turns result session host host')
        → Chain Does host (calls_of Row Does turns result session host host' is) host'
    session_chain turns result session host host' is =
        let closing = is.closing in
        let settled = Asked (Settles closing.event) in
        let rest = concat closing.rest.moves in
        let first = concat closing.first.moves in
        let last : Chain Does closing.mid (settled ∷ rest) host' = (closing.mid', closing.settled, closing.rest.asked) in
        let closes = chain_more Does is.turned closing.mid host' first (settled ∷ rest) closing.first.asked last in
        let goes = chain_more Does is.mid is.turned host' (concat is.went.moves) (first ++ settled ∷ rest) is.went.asked closes in
        chain_more Does host is.mid host' is.said (concat is.went.moves ++ (first ++ settled ∷ rest)) is.greeted goes

    pub served_by_logins : {T : Type 0} (turns : ℕ) (result : Result T ControlFault) (session : Standing) (host host' : H) → IsServed Row Does turns result session host host'
        → IsServedByLogins Row Does turns result session host host' (kept host)
    served_by_logins turns result session host host' (inl unserved) = inl unserved
    served_by_logins turns result session host host' (inr is) = inr (is, chain_serves (calls_of Row Does turns result session host host' is) host host' (session_chain turns result session host host' is))
