-- The account of a guarantee in the rounds of a second: what is granted, still owed, and lost.
use Rattle.std.specs.Prelude.{◌≡◌, ℕ, ◌+◌, ◌-◌, ◌*◌, ◌/◌, ◌≤◌, max, Bool, true, ◌&&◌, nat_le, if◌then◌else◌, List, [], ◌∷◌, ◌++◌, sum_by}
use Rattle.line_rates.specs.Rates.{Rates}
use Rattle.round_pace.specs.declared.credit.TheConstants.{TICKS, MOST_OWED}
use Rattle.round_pace.specs.Earned.{tick_of, share}
use Rattle.round_pace.specs.Histories.{Held, after, after_all, AreHeld}
use Rattle.round_pace.specs.OverTime.{owed_uncut, AreOwed, ArePromptFor}
use Rattle.round_pace.specs.Paced.{Paced}
use Rattle.guarantee_laws.specs.Reached.{IsReached, AreIn}
use Rattle.guarantee_laws.specs.SessionRounds.{SessionWay, guarantee, owed, offered_in, handed_in, asks_in, granted_to, granted_beyond, AreGrantedMost, owed_rounds}

-- number of ticks of a second that began from one number of ticks begun to another
abbrev pub ticks_from : ℕ → ℕ → ℕ → ℕ
ticks_from second begun now = now - max begun (TICKS * second)

-- The guarantee for all ticks of a second is the guarantee.
abbrev pub SecondsAreWhole : Type 0
SecondsAreWhole = (floor second begun : ℕ) → begun ≤ TICKS * second
    → share floor (ticks_from second begun (TICKS * second + TICKS)) ≡ floor

-- As the tick of a round begins, the debt is cut to the guarantee of a tenth of a second: by this
-- number of 500ths of an octet.
abbrev pub cut_at : Rates → SessionWay → Paced → Held → ℕ
cut_at rates s p h = if nat_le p.begun (tick_of h.now)
    then owed_uncut (guarantee rates s) (owed s p) p.begun (tick_of h.now)
    - guarantee rates s * MOST_OWED
    else 0

-- all that is cut in rounds from a pace on
abbrev pub cut_in : Rates → SessionWay → Paced → List Held → ℕ
cut_in rates s p [] = 0
cut_in rates s p (h ∷ hs) = cut_at rates s p h + cut_in rates s (after p h) hs

-- the octets that rounds granted the session, and those by which they granted another session of
-- its user more
abbrev pub granted_in : SessionWay → List Held → ℕ
granted_in s hs = sum_by (granted_to s) hs

abbrev pub beyond_in : SessionWay → List Held → ℕ
beyond_in s hs = sum_by (granted_beyond s) hs

-- The guarantee for the ticks of a second that began in its rounds is granted or owed, but for what
-- was cut, and what another session of the user was granted more.
abbrev pub GuaranteesAreAccounted : Type 0
GuaranteesAreAccounted =
    (rates : Rates) (s : SessionWay) (second : ℕ) (p : Paced) (hs : List Held) → IsReached rates p
    → AreHeld p hs → AreIn second hs
    → guarantee rates s * ticks_from second p.begun (after_all p hs).begun
    ≤ TICKS * (granted_in s hs + beyond_in s hs) + owed s (after_all p hs) + cut_in rates s p hs

-- The session asks in a round, and is handed in all whole octets that it is owed.
pub record AsksForAll (rates : Rates) (s : SessionWay) (p : Paced) (h : Held) : Type 0 where
  pub asks : asks_in rates s p h ≡ true
  pub left : owed s (offered_in p h) / TICKS ≤ handed_in rates s p h

-- If the last of some rounds of a second is such a round, they granted the session its guarantee
-- for the ticks that began in them, but for what was cut, in whole octets, and what another session
-- was granted more.
--
-- For instance, the server has a rate of 1,000 octets a second, a session a guarantee of 499, and
-- others ask for more than there is. Rounds in ticks 0, 3 and 7 of a second, after each of which
-- nothing is left, are offered 2, 6 and 8 octets, the earnings of 1.499, 3.499 and 4.499 ticks. The
-- session is owed 499, 1,996 and 2,492 500ths of an octet in them, so 0, 3 and 4 octets are handed
-- in for it: all whole octets that it is owed. If it is granted these, it has its guarantee for 8
-- ticks, 7 octets.
abbrev pub GuaranteesOverTime : Type 0
GuaranteesOverTime =
    (rates : Rates) (s : SessionWay) (second : ℕ) (p : Paced) (hs : List Held) (h : Held)
    → IsReached rates p → AreHeld p (hs ++ h ∷ []) → AreIn second (hs ++ h ∷ [])
    → AsksForAll rates s (after_all p hs) h
    → share (guarantee rates s) (ticks_from second p.begun (tick_of h.now + 1))
    ≤ granted_in s (hs ++ h ∷ []) + beyond_in s (hs ++ h ∷ [])
    + (cut_in rates s p (hs ++ h ∷ []) + (TICKS - 1)) / TICKS

-- So if nothing was cut, and no other session of the user was granted more, they granted it its
-- guarantee, to the octet.
abbrev pub GuaranteesToTheOctet : Type 0
GuaranteesToTheOctet =
    (rates : Rates) (s : SessionWay) (second : ℕ) (p : Paced) (hs : List Held) (h : Held)
    → IsReached rates p → AreHeld p (hs ++ h ∷ []) → AreIn second (hs ++ h ∷ [])
    → AsksForAll rates s (after_all p hs) h → AreGrantedMost s (hs ++ h ∷ [])
    → cut_in rates s p (hs ++ h ∷ []) ≡ 0
    → share (guarantee rates s) (ticks_from second p.begun (tick_of h.now + 1))
    ≤ granted_in s (hs ++ h ∷ [])

-- the same as a test
abbrev pub asks_for_all : Rates → SessionWay → Paced → Held → Bool
asks_for_all rates s p h =
    asks_in rates s p h && nat_le (owed s (offered_in p h) / TICKS) (handed_in rates s p h)

-- In each of some rounds, the guarantee for the ticks of the second that have begun since the
-- session was handed in all whole octets that it was owed is less than that of a tenth of a second,
-- by 499 500ths of an octet.
abbrev pub AreInTime : Rates → SessionWay → ℕ → ℕ → Paced → List Held → Type 0
AreInTime rates s second last p [] = Unit {0}
AreInTime rates s second last p (h ∷ hs) =
    (guarantee rates s * ticks_from second last (tick_of h.now + 1) + (TICKS - 1)
    ≤ guarantee rates s * MOST_OWED)
    × AreInTime rates s second
    (if asks_for_all rates s p h then tick_of h.now + 1 else last) (after p h) hs

-- Then nothing is cut, from the beginning of the second on.
abbrev pub NothingIsCut : Type 0
NothingIsCut =
    (rates : Rates) (s : SessionWay) (second : ℕ) (p : Paced) (hs : List Held) → IsReached rates p
    → AreHeld p hs → AreIn second hs → p.begun ≤ TICKS * second
    → AreInTime rates s second p.begun p hs → cut_in rates s p hs ≡ 0

-- Its rounds are then such as are owed a guarantee, and nothing of it is cut.
abbrev pub RoundsAreOwed : Type 0
RoundsAreOwed = (rates : Rates) (s : SessionWay) (p : Paced) (hs : List Held) → IsReached rates p
    → AreHeld p hs → AreGrantedMost s hs
    → AreOwed (guarantee rates s) (owed s p) p.begun (owed_rounds rates s p hs)

abbrev pub UncutIsPrompt : Type 0
UncutIsPrompt =
    (rates : Rates) (s : SessionWay) (second : ℕ) (p : Paced) (hs : List Held) → IsReached rates p
    → AreHeld p hs → AreGrantedMost s hs → AreIn second hs → cut_in rates s p hs ≡ 0
    → ArePromptFor second (guarantee rates s) (owed s p) p.begun (owed_rounds rates s p hs)
