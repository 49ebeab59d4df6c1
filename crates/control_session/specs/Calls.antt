-- The calls of a host that a control session makes, in their order.
use Rattle.std.specs.Prelude.{ℕ, ◌≡◌, ◌≤◌, List, [], ◌∷◌, Result, Ok, Err, length, take}
use Rattle.authorizer.specs.Users.{Users}
use Rattle.handler_hooks.specs.Events.{Event}
use Rattle.rate_floors.specs.Promises.{Promises}
use Rattle.session_table.specs.Steps.{Standing}
use Rattle.control_session.specs.Sides.{SideCall}
use Rattle.control_session.specs.declared.host.Piece.{Piece}
use Rattle.control_session.specs.declared.host.Piece.TheVariants.{Octets, Nothing, AtEnd}

-- S is the type of stores, R of their sources, K of their sinks, A of allocators
pub data HostCall (A S R K : Type 0) : Type 0 where
  -- at a moment, the users, the store and the floors were lent for a step of this session: the
  -- store before and after it, and the floors before and after it
  Lent : Standing → ℕ → Users → S → S → Promises → Promises → HostCall A S R K
  -- at a moment, they were lent for a step for which memory ran out: the store before and after it,
  -- and the floors, which are unchanged
  Tried : Standing → ℕ → Users → S → S → Promises → HostCall A S R K
  Released : ℕ → HostCall A S R K
  Noted : Event → HostCall A S R K
  Wrote : List ℕ → HostCall A S R K
  -- only a part of a reply was written
  Broke : List ℕ → HostCall A S R K
  -- octets were read; none if nothing has arrived yet
  Read : List ℕ → HostCall A S R K
  ReadEnd : HostCall A S R K
  ReadFailed : HostCall A S R K
  -- in the place of a step for a line, the host ended the session
  Declined : HostCall A S R K
  Asked : SideCall A R K → HostCall A S R K

-- exactly these calls, one after another
abbrev pub Chain : {H A S R K : Type 0} → (H → HostCall A S R K → H → Type 0) → H
    → List (HostCall A S R K) → H → Type 0
Chain Does old [] new = new ≡ old
Chain {H} Does old (call ∷ calls) new = (mid : H) × Does old call mid × Chain Does mid calls new

-- the call of a read, by its result
abbrev pub piece_call : {A S R K : Type 0} → Piece → List ℕ → HostCall A S R K
piece_call (Octets count) buffer = Read (take count buffer)
piece_call Nothing buffer = Read []
piece_call AtEnd buffer = ReadEnd

abbrev pub read_call : {A S R K E : Type 0} → Result Piece E → List ℕ → HostCall A S R K
read_call (Ok piece) buffer = piece_call piece buffer
read_call (Err fault) buffer = ReadFailed

abbrev pub reads_within : Piece → List ℕ → Type 0
reads_within (Octets count) buffer = count ≤ length buffer
reads_within Nothing buffer = Unit {0}
reads_within AtEnd buffer = Unit {0}

-- the call of a write, by its result
abbrev pub write_call : {A S R K T E : Type 0} → Result T E → List ℕ → HostCall A S R K
write_call (Ok done) text = Wrote text
write_call (Err fault) text = Broke text
