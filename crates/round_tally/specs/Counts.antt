-- The octets that rounds have granted to the transfers of lanes, and what held these back.
use Rattle.std.specs.Prelude.{◌≡◌, ◌+◌, ◌-◌, ◌<◌, ◌^◌, ℕ, List, Option, Some, None, if◌then◌else◌, min, nat_eq, nat_lt, slice_index, slice_index_or, sum_by}
use Rattle.line_rates.specs.declared.ask.Name.{Name}
use Rattle.line_rates.specs.declared.ask.Name.TheVariants.{Server, Direction, Group, User, Session}
use Rattle.round_tally.specs.declared.held.HeldTally.{HeldTally}
use Rattle.round_tally.specs.declared.tallies.LaneTally.{LaneTally}
use Rattle.round_tally.specs.declared.tallies.RoundGrant.{RoundGrant}
use Rattle.round_tally.specs.declared.tallies.Tallies.{Tallies}
use Rattle.grant_ledger.specs.declared.ledger.TheConstants.{MAX_LANES}

-- a sum that stays at the greatest number
abbrev pub bounded : ℕ → ℕ → ℕ
bounded a b = min (a + b) (2 ^ 64 - 1)

abbrev pub no_rounds : HeldTally
no_rounds = record { server = 0; direction = 0; group = 0; user = 0; session = 0; nothing = 0 }

-- the rounds of two tallies
abbrev pub held_sum : HeldTally → HeldTally → HeldTally
held_sum a b = record {
  server = bounded a.server b.server;
  direction = bounded a.direction b.direction;
  group = bounded a.group b.group;
  user = bounded a.user b.user;
  session = bounded a.session b.session;
  nothing = bounded a.nothing b.nothing;
}

-- some rounds more, in which the limit of the name held the transfer back
abbrev pub held_more : Option Name → ℕ → HeldTally → HeldTally
held_more None n t = record t { nothing = bounded t.nothing n }
held_more (Some Server) n t = record t { server = bounded t.server n }
held_more (Some (Direction way)) n t = record t { direction = bounded t.direction n }
held_more (Some (Group way group)) n t = record t { group = bounded t.group n }
held_more (Some (User way user)) n t = record t { user = bounded t.user n }
held_more (Some (Session way user session)) n t = record t { session = bounded t.session n }

-- the depth of a limit: a session's is the innermost, and nothing is outside of all
abbrev pub depth : Option Name → ℕ
depth None = 0
depth (Some Server) = 1
depth (Some (Direction way)) = 2
depth (Some (Group way group)) = 3
depth (Some (User way user)) = 4
depth (Some (Session way user session)) = 5

abbrev pub innermost : Option Name → Option Name → Option Name
innermost one other = if nat_lt (depth one) (depth other) then other else one

-- the limit that held a transfer back in a round, by that which was used up and the one whose row
-- the round left closed; none did if none was used up
abbrev pub held_back : Option Name → Option Name → Option Name
held_back None closed = None
held_back (Some name) closed = innermost (Some name) closed

abbrev pub no_tally : ℕ → LaneTally
no_tally transfer = record {
  transfer = transfer;
  granted = 0;
  held = no_rounds;
  window = 0;
  rounds = 0;
  innermost = None;
}

-- all rounds of a transfer: those of the last window are counted by the innermost limit of one of
-- them
abbrev pub all_rounds : LaneTally → HeldTally
all_rounds t = held_more t.innermost t.rounds t.held

-- a grant more: in the same window as the last, or in another, which closes that
abbrev pub tally_more : RoundGrant → LaneTally → LaneTally
tally_more g t = if nat_eq t.window g.window then record {
  transfer = t.transfer;
  granted = t.granted + g.octets;
  held = t.held;
  window = g.window;
  rounds = bounded t.rounds 1;
  innermost = innermost t.innermost g.held;
} else record {
  transfer = t.transfer;
  granted = t.granted + g.octets;
  held = all_rounds t;
  window = g.window;
  rounds = 1;
  innermost = g.held;
}

-- the tally of a lane once a transfer runs: of that transfer alone
abbrev pub lane_begun : ℕ → LaneTally → LaneTally
lane_begun transfer t = if nat_eq t.transfer transfer then t else no_tally transfer

-- the same after a grant to it
abbrev pub lane_after : ℕ → RoundGrant → LaneTally → LaneTally
lane_after transfer g t = tally_more g (lane_begun transfer t)

-- each lane has the tally of the transfer at its place
abbrev pub AreBegun : List ℕ → List LaneTally → List LaneTally → Type 0
AreBegun transfers old new =
    (i : ℕ) → i < MAX_LANES → slice_index_or new i (no_tally 0)
    ≡ lane_begun (slice_index transfers i) (slice_index_or old i (no_tally 0))

-- the tally of ended transfers after that, given the lane's tally before
abbrev pub ended_after : ℕ → LaneTally → LaneTally → LaneTally
ended_after transfer lane ended = if nat_eq lane.transfer transfer then ended else record {
  transfer = ended.transfer;
  granted = ended.granted + lane.granted;
  held = held_sum ended.held (all_rounds lane);
  window = ended.window;
  rounds = ended.rounds;
  innermost = ended.innermost;
}

abbrev pub granted_of : LaneTally → ℕ
granted_of t = t.granted

-- the octets of all tallies
abbrev pub tallied : Tallies → ℕ
tallied t = sum_by granted_of t.lanes + t.ended.granted
