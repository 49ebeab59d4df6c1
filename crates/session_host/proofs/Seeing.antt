-- A session on a host is one on what is seen of it, if the host has what each call needs and keeps; and what each call
-- keeps of a host, a session keeps.
use Rattle.std.proofs.Common.{ℕ, inl, inr, List, [], ◌∷◌, Result, sym, ap, subst}
use Rattle.authorizer.specs.Users.{Users}
use Rattle.control_session.specs.Calls.{Chain, HostCall}
use Rattle.control_session.specs.Calls.HostCall.{Asked}
use Rattle.control_session.specs.Sessions.{IsServed, IsSession}
use Rattle.control_session.specs.Sides.{Given}
use Rattle.control_session.specs.Sides.SideCall.{Settles}
use Rattle.control_session.specs.Rows.{Outcome}
use Rattle.control_session.specs.Standing.{Closing}
use Rattle.control_session.specs.Turns.{Situation, Went, concat}
use Rattle.control_session.specs.declared.fault.ControlFault.{ControlFault}
use Rattle.rate_floors.specs.Promises.{Promises}
use Rattle.session_table.specs.Steps.{Standing}

module _ {G H A S R K : Type 0} (Does : G → HostCall A S R K → G → Type 0) (Sees : H → HostCall A S R K → H → Type 0) (see : G → H) (Has : G → Type 0)
    (seen : (old new : G) (call : HostCall A S R K) → Has old → Does old call new → Sees (see old) call (see new) × Has new)
    (Row : Users → Standing → Given K → ℕ → S → S → Promises → Outcome A R K → Type 0) where
  chain_seen : (old new : G) (calls : List (HostCall A S R K)) → Has old → Chain Does old calls new → Chain Sees (see old) calls (see new) × Has new
  chain_seen old new [] has same = (ap see same, subst Has (sym same) has)
  chain_seen old new (call ∷ calls) has (mid, did, more) =
      let (saw, having) = seen old mid call has did in
      let (rest, ends) = chain_seen mid new calls having more in
      ((see mid, saw, rest), ends)

  went_seen : (old new : G) (before after : Situation K) → Has old → Went Row Does old before new after → Went Row Sees (see old) before (see new) after × Has new
  went_seen old new before after has went =
      let (saw, ends) = chain_seen old new (concat went.moves) has went.asked in
      (record { moves = went.moves; asked = saw; runs = went.runs }, ends)

  closing_seen : (old new : G) (before after : Situation K) → Has old → Closing Row Does old before new after → Closing Row Sees (see old) before (see new) after
  closing_seen old new before after has closing =
      let (first, left) = went_seen old closing.mid before _ has closing.first in
      let (settled, over) = seen closing.mid closing.mid' (Asked (Settles closing.event)) left closing.settled in
      record {
        mid = see closing.mid;
        mid' = see closing.mid';
        session = closing.session;
        owes = closing.owes;
        event = closing.event;
        first = first;
        closed_then = closing.closed_then;
        settled = settled;
        rest = (went_seen closing.mid' new _ after over closing.rest).0;
      }

  session_seen : {T : Type 0} (turns : ℕ) (result : Result T ControlFault) (session : Standing) (old new : G)
      → Has old → IsSession Row Does turns result session old new → IsSession Row Sees turns result session (see old) (see new)
  session_seen turns result session old new has is =
      let (greeted, begun) = chain_seen old is.mid is.said has is.greeted in
      let (gone, turned) = chain_seen is.mid is.turned (concat is.went.moves) begun is.went.asked in
      record {
        actions = is.actions;
        said = is.said;
        lost = is.lost;
        mid = see is.mid;
        turned = see is.turned;
        stood = is.stood;
        last = is.last;
        row = is.row;
        greets = is.greets;
        greeted = greeted;
        went = record { moves = is.went.moves; asked = gone; runs = is.went.runs };
        closing = closing_seen is.turned new is.stood is.last turned is.closing;
        closed_then = is.closed_then;
        answered = is.answered;
        paid = is.paid;
        heard = is.heard;
        cut = is.cut;
        all = is.all;
        whole = is.whole;
        reads = is.reads;
        read_fault = is.read_fault;
        lost_to = is.lost_to;
      }

  pub served_seen : {T : Type 0} (turns : ℕ) (result : Result T ControlFault) (session : Standing) (old new : G)
      → Has old → IsServed Row Does turns result session old new → IsServed Row Sees turns result session (see old) (see new)
  served_seen turns result session old new has (inl (memory, same)) = inl (memory, ap see same)
  served_seen turns result session old new has (inr is) = inr (session_seen turns result session old new has is)

module _ {H A S R K : Type 0} (Does : H → HostCall A S R K → H → Type 0)
    (Row : Users → Standing → Given K → ℕ → S → S → Promises → Outcome A R K → Type 0)
    (Keeps : H → H → Type 0) (none : (host : H) → Keeps host host) (then : (a b c : H) → Keeps a b → Keeps b c → Keeps a c)
    (kept : (old new : H) (call : HostCall A S R K) → Does old call new → Keeps old new) where
  chain_keeps : (old new : H) (calls : List (HostCall A S R K)) → Chain Does old calls new → Keeps old new
  chain_keeps old new [] same = subst (λ (x : H). Keeps old x) (sym same) (none old)
  chain_keeps old new (call ∷ calls) (mid, did, more) = then old mid new (kept old mid call did) (chain_keeps mid new calls more)

  session_keeps : {T : Type 0} (turns : ℕ) (result : Result T ControlFault) (session : Standing) (old new : H)
      → IsSession Row Does turns result session old new → Keeps old new
  session_keeps turns result session old new is =
      let closing = is.closing in
      then old is.mid new (chain_keeps old is.mid is.said is.greeted)
      (then is.mid is.turned new (chain_keeps is.mid is.turned (concat is.went.moves) is.went.asked)
      (then is.turned closing.mid new (chain_keeps is.turned closing.mid (concat closing.first.moves) closing.first.asked)
      (then closing.mid closing.mid' new (kept closing.mid closing.mid' (Asked (Settles closing.event)) closing.settled)
      (chain_keeps closing.mid' new (concat closing.rest.moves) closing.rest.asked))))

  pub served_keeps : {T : Type 0} (turns : ℕ) (result : Result T ControlFault) (session : Standing) (old new : H)
      → IsServed Row Does turns result session old new → Keeps old new
  served_keeps turns result session old new (inl (memory, same)) = subst (λ (x : H). Keeps old x) (sym same) (none old)
  served_keeps turns result session old new (inr is) = session_keeps turns result session old new is
