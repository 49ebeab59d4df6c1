-- The octets of its guarantee that a session is sure of, by its asks and the clock alone.
use Rattle.std.specs.Prelude.{◌≡◌, ℕ, ◌+◌, ◌%◌, ◌<◌, ◌≤◌, ◌⊎◌, min, Bool, true, false, ◌&&◌, ◌||◌, not, nat_eq, if◌then◌else◌, List, [], ◌∷◌, ◌++◌, length, sum_by, Option, Some, None}
use Rattle.std.specs.List.{All, list_any}
use Rattle.line_rates.specs.declared.ask.Ask.{Ask}
use Rattle.line_rates.specs.declared.ask.Name.{Name}
use Rattle.line_rates.specs.declared.ask.Name.TheVariants.{Server, Direction, Group, User}
use Rattle.line_rates.specs.declared.ask.Way.{Way}
use Rattle.line_rates.specs.declared.rate.TheConstants.{MAX_RATE}
use Rattle.line_rates.specs.Granted.{Granted}
use Rattle.line_rates.specs.Names.{bears}
use Rattle.line_rates.specs.Rates.{Rates, rate_of, group_of}
use Rattle.round_pace.specs.declared.credit.TheConstants.{TICKS, MOST_OWED}
use Rattle.round_pace.specs.Earned.{tick_of, share}
use Rattle.round_pace.specs.Histories.{Held, after, after_all, AreHeld}
use Rattle.round_pace.specs.Paced.{Paced}
use Rattle.guarantee_laws.specs.Account.{ticks_from, granted_in}
use Rattle.guarantee_laws.specs.Reached.{IsReached, AreIn}
use Rattle.guarantee_laws.specs.SessionRounds.{SessionWay, guarantee, asks_in}

-- the ask counts under a name that has a rate
abbrev pub is_limited : Rates → Name → Ask → Bool
is_limited rates n a = not (nat_eq (rate_of rates n) 0) && bears rates n a

abbrev pub is_limited_in : Rates → Way → Option ℕ → Ask → Bool
is_limited_in rates way None a = false
is_limited_in rates way (Some group) a = is_limited rates (Group way group) a

-- the ask is one of the session's user, or is within a rate of the server, the direction or the
-- group that the session is within too
abbrev pub shares_rate : Rates → SessionWay → Ask → Bool
shares_rate rates s a =
    bears rates (User s.way s.user) a || is_limited rates Server a
    || is_limited rates (Direction s.way) a
    || is_limited_in rates s.way (group_of rates s.user) a

-- A round takes from the rates of the session: it grants octets to such an ask.
abbrev pub takes : Rates → SessionWay → Granted → Bool
takes rates s g = shares_rate rates s g.ask && not (nat_eq g.octets 0)

abbrev pub takes_in : Rates → SessionWay → Held → Bool
takes_in rates s h = list_any (takes rates s) h.leaves

-- For each round of a second in which the session asks, the ticks of the second that have begun
-- since it last asked, or since a round took from its rates without it.
abbrev pub asked_ticks : Rates → SessionWay → ℕ → ℕ → Paced → List Held → List ℕ
asked_ticks rates s second last p [] = []
asked_ticks rates s second last p (h ∷ hs) =
    if asks_in rates s p h
    then ticks_from second last (tick_of h.now + 1)
    ∷ asked_ticks rates s second (tick_of h.now + 1) (after p h) hs
    else if takes_in rates s h
    then asked_ticks rates s second (tick_of h.now + 1) (after p h) hs
    else asked_ticks rates s second last (after p h) hs

-- the guarantee for such ticks, at most those of a tenth of a second, in whole octets
abbrev pub sure_octets : ℕ → ℕ → ℕ
sure_octets floor ticks = share floor (min ticks MOST_OWED)

-- no rate is above the greatest that limits can have
abbrev pub AreRates : Rates → Type 0
AreRates rates = (n : Name) → rate_of rates n ≤ MAX_RATE

-- Rounds of a second grant a session the guarantee for the ticks of each round in which it asks.
abbrev pub AsksAreSure : Type 0
AsksAreSure =
    (rates : Rates) (s : SessionWay) (second : ℕ) (p : Paced) (hs : List Held) → AreRates rates
    → IsReached rates p → AreHeld p hs → AreIn second hs
    → sum_by (sure_octets (guarantee rates s)) (asked_ticks rates s second p.begun p hs)
    ≤ granted_in s hs

-- The session misses no round: it asks in each that takes from its rates.
abbrev pub MissesNone : Rates → SessionWay → Paced → List Held → Type 0
MissesNone rates s p [] = Unit {0}
MissesNone rates s p (h ∷ hs) = ((asks_in rates s p h ≡ true) ⊎ (takes_in rates s h ≡ false))
    × MissesNone rates s (after p h) hs

-- it asks within a tenth of a second from the second's beginning, and from one ask to the next
abbrev pub AsksInTime : Rates → SessionWay → ℕ → Paced → List Held → Type 0
AsksInTime rates s second p hs =
    All (λ ticks. ticks ≤ MOST_OWED) (asked_ticks rates s second p.begun p hs)

-- less than an octet of the guarantee is lost in each of some rounds, and nothing of one that is a
-- whole number of octets in each tick
pub record IsNearly (floor ticks rounds granted : ℕ) : Type 0 where
  pub nearly : share floor ticks < granted + rounds
  pub whole : floor % TICKS ≡ 0 → share floor ticks ≤ granted

-- If it misses no round of a second and asks in time, and in the last of them, they granted it its
-- guarantee for the ticks that began in them, but for less than an octet for each round in which it
-- asked.
--
-- The session of the rounds in ticks 0, 3 and 7 (`Account.antt`) asks in each of them, after 1, 3
-- and 4 ticks, so it is sure of 0, 2 and 3 octets, and of more than 7 - 3. So much can be lost: of
-- a rate of 1,000,000 of which others leave nothing, a guarantee of 249,999 is handed in as 499
-- octets in each tick, 249,500 in a second, and one of 250,000 whole.
abbrev pub AsksKeepGuarantees : Type 0
AsksKeepGuarantees =
    (rates : Rates) (s : SessionWay) (second : ℕ) (p : Paced) (hs : List Held) (h : Held)
    → AreRates rates → IsReached rates p → AreHeld p (hs ++ h ∷ []) → AreIn second (hs ++ h ∷ [])
    → MissesNone rates s p (hs ++ h ∷ []) → AsksInTime rates s second p (hs ++ h ∷ [])
    → asks_in rates s (after_all p hs) h ≡ true
    → IsNearly (guarantee rates s) (ticks_from second p.begun (tick_of h.now + 1))
    (length (asked_ticks rates s second p.begun p (hs ++ h ∷ []))) (granted_in s (hs ++ h ∷ []))
