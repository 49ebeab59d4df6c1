-- Transfers as looks find them.
use Rattle.std.specs.Prelude.{ℕ, ◌+◌, ◌-◌, ◌*◌, ◌/◌, ◌^◌, ◌&&◌, Bool, false, if◌then◌else◌, min, nat_eq, nat_lt}
use Rattle.round_tally.specs.Counts.{all_rounds}
use Rattle.round_tally.specs.declared.held.HeldTally.{HeldTally}
use Rattle.server_house.specs.declared.server_hooks.LaneLook.{LaneLook}
use Rattle.status_keeper.specs.declared.facts.KeptTransfer.{KeptTransfer}

-- rounds less earlier ones
abbrev pub held_since : HeldTally → HeldTally → HeldTally
held_since now then_it = record {
  server = now.server - then_it.server;
  direction = now.direction - then_it.direction;
  group = now.group - then_it.group;
  user = now.user - then_it.user;
  session = now.session - then_it.session;
  nothing = now.nothing - then_it.nothing;
}

-- less than nine tenths of a guarantee were granted in a time, and a limit held the transfer back
-- in most of its rounds
abbrev pub is_missed : ℕ → ℕ → HeldTally → ℕ → Bool
is_missed guaranteed octets held time =
    if nat_eq time 0 then false
    else nat_lt (octets * 1000000 / time * 10) (guaranteed * 9)
    && nat_lt held.nothing (held.server + held.direction + held.group + held.user + held.session)

-- the time since the last look at a transfer, if its guarantee was not met in it
abbrev pub missed_time : KeptTransfer → LaneLook → ℕ → ℕ → ℕ
missed_time t lane guaranteed now =
    if is_missed guaranteed (lane.tally.granted - t.granted)
    (held_since (all_rounds lane.tally) t.rounds) (now - t.looked)
    then now - t.looked else 0

-- the transfer after a look at its lane
abbrev pub looked_at : KeptTransfer → LaneLook → ℕ → ℕ → KeptTransfer
looked_at t lane guaranteed now = record t {
  granted = lane.tally.granted;
  rounds = all_rounds lane.tally;
  looked = now;
  unmet = min (t.unmet + missed_time t lane guaranteed now) (2 ^ 64 - 1);
}
