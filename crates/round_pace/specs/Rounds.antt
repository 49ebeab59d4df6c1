-- Rounds under a rate, and their grants in a second.
use Rattle.std.specs.Prelude.{◌≡◌, ℕ, ◌+◌, ◌-◌, ◌*◌, ◌/◌, ◌<◌, ◌≤◌, Bool, ◌&&◌, nat_eq, nat_le, nat_lt, if◌then◌else◌, List, [], ◌∷◌, map, sum_by}
use Rattle.line_rates.specs.declared.rate.TheConstants.{MAX_RATE}
use Rattle.round_pace.specs.Earned.{tick_of, offered, uncut, most_kept, share}
use Rattle.round_pace.specs.declared.credit.TheConstants.{TICKS}

-- a round: its real moment in microseconds, and its grants under the rate in octets
pub record Round : Type 0 where
  pub now : ℕ
  pub granted : ℕ

-- octets left after a round
abbrev pub left_after : ℕ → ℕ → ℕ → Round → ℕ
left_after rate left begun r = offered rate left begun (tick_of r.now) - r.granted

-- number of ticks begun after a round
abbrev pub begun_after : Round → ℕ
begun_after r = tick_of r.now + 1

-- Rounds from a state with `left` octets and `begun` ticks: no round is in an earlier tick than the
-- one before it, and each grants at most what it is offered.
abbrev pub AreRounds : ℕ → ℕ → ℕ → List Round → Type 0
AreRounds rate left begun [] = Unit {0}
AreRounds rate left begun (r ∷ rs) = (begun ≤ begun_after r)
    × (r.granted ≤ offered rate left begun (tick_of r.now))
    × AreRounds rate (left_after rate left begun r) (begun_after r) rs

-- sum of the grants of rounds that pass a test
abbrev pub granted_where : (Round → Bool) → List Round → ℕ
granted_where test rounds = sum_by (λ r. if test r then r.granted else 0) rounds

-- the round is in a second of the clock
abbrev pub is_in : ℕ → Round → Bool
is_in second r = nat_eq (r.now / 1000000) second

-- the round is in the second that begins at a moment
abbrev pub is_from : ℕ → Round → Bool
is_from start r = nat_le start r.now && nat_lt r.now (start + 1000000)

-- In each second of the clock at most the rate is granted,
abbrev pub KeepsSeconds : Type 0
KeepsSeconds = (rate begun : ℕ) (rounds : List Round) → AreRounds rate 0 begun rounds
    → (second : ℕ) → granted_where (is_in second) rounds ≤ rate

-- and in a second that begins at any microsecond at most the rate plus the most that is kept.
abbrev pub KeepsWindows : Type 0
KeepsWindows = (rate begun : ℕ) (rounds : List Round) → AreRounds rate 0 begun rounds
    → (start : ℕ) → granted_where (is_from start) rounds ≤ rate + most_kept rate

-- the rounds are all in one second
abbrev pub AreIn : ℕ → List Round → Type 0
AreIn second [] = Unit {0}
AreIn second (r ∷ rs) = (r.now / 1000000 ≡ second) × AreIn second rs

-- no refill is cut to the most that is kept
abbrev pub AreUncut : ℕ → ℕ → ℕ → List Round → Type 0
AreUncut rate left begun [] = Unit {0}
AreUncut rate left begun (r ∷ rs) =
    (begun ≤ tick_of r.now → uncut rate left begun (tick_of r.now) ≤ most_kept rate)
    × AreUncut rate (left_after rate left begun r) (begun_after r) rs

-- octets left after all rounds, and the number of ticks begun
abbrev pub left_last : ℕ → ℕ → ℕ → List Round → ℕ
left_last rate left begun [] = left
left_last rate left begun (r ∷ rs) =
    left_last rate (left_after rate left begun r) (begun_after r) rs

abbrev pub begun_last : ℕ → List Round → ℕ
begun_last begun [] = begun
begun_last begun (r ∷ rs) = begun_last (begun_after r) rs

abbrev pub granted_of : Round → ℕ
granted_of r = r.granted

-- The grants of a second's rounds plus what is left are what was earned in the second.
abbrev pub LosesNothing : Type 0
LosesNothing = (rate left begun second : ℕ) (r : Round) (rs : List Round) → begun ≤ TICKS * second
    → AreRounds rate left begun (r ∷ rs) → AreIn second (r ∷ rs) → AreUncut rate left begun (r ∷ rs)
    → sum_by granted_of (r ∷ rs) + left_last rate left begun (r ∷ rs)
    ≡ share rate (begun_last begun (r ∷ rs) - TICKS * second)

-- when a tick begins, nothing is left of the tick before it, and nothing is left at the end
abbrev pub AreDrained : ℕ → ℕ → ℕ → List Round → Type 0
AreDrained rate left begun [] = left ≡ 0
AreDrained rate left begun (r ∷ rs) = (begun ≤ tick_of r.now → left ≡ 0)
    × AreDrained rate (left_after rate left begun r) (begun_after r) rs

-- each round comes at most 49 ticks after the one before it
abbrev pub ArePrompt : ℕ → List Round → Type 0
ArePrompt begun [] = Unit {0}
ArePrompt begun (r ∷ rs) = (tick_of r.now < begun + 49) × ArePrompt (begun_after r) rs

-- Rounds of one second that come in time from its beginning to its last tick, and leave nothing of
-- a tick to the next, grant exactly the rate. A tick may have several rounds, some of which grant
-- less than they are offered.
abbrev pub ReachesRates : Type 0
ReachesRates =
    (rate left begun second : ℕ) (r : Round) (rs : List Round) → rate ≤ MAX_RATE
    → begun ≤ TICKS * second
    → AreRounds rate left begun (r ∷ rs) → AreIn second (r ∷ rs)
    → AreDrained rate (left_after rate left begun r) (begun_after r) rs
    → ArePrompt (TICKS * second) (r ∷ rs) → begun_last begun (r ∷ rs) ≡ TICKS * second + TICKS
    → sum_by granted_of (r ∷ rs) ≡ rate

-- a round under a session's rate: its real moment, its grants to the session, and the octets taken
-- from the credit of the user's sessions: the most that it grants to one of them
pub record SessionRound : Type 0 where
  pub now : ℕ
  pub granted : ℕ
  pub taken : ℕ

-- the round with its grants to the session, and with what is subtracted
abbrev pub own_round : SessionRound → Round
own_round r = record { now = r.now; granted = r.granted }

abbrev pub all_taken : SessionRound → Round
all_taken r = record { now = r.now; granted = r.taken }

-- Rounds under a session's rate: as under another rate, but more is subtracted than is granted.
abbrev pub AreSessionRounds : ℕ → ℕ → ℕ → List SessionRound → Type 0
AreSessionRounds rate left begun [] = Unit {0}
AreSessionRounds rate left begun (r ∷ rs) = (begun ≤ begun_after (own_round r))
    × (r.granted ≤ r.taken) × (r.granted ≤ offered rate left begun (tick_of r.now))
    × AreSessionRounds rate (left_after rate left begun (all_taken r)) (tick_of r.now + 1) rs

-- They are rounds as under any other rate, so a session's rate is kept in the same way.
abbrev pub SessionsAreRounds : Type 0
SessionsAreRounds =
    (rate left begun : ℕ) (rounds : List SessionRound) → AreSessionRounds rate left begun rounds
    → AreRounds rate left begun (map own_round rounds)
