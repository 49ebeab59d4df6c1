-- The patience that the words of a command state.
use Rattle.std.specs.Prelude.{◌⊎◌, [], ◌∷◌, ℕ, List, codes}
use Rattle.clap.specs.Words.{Row, Text}
use Rattle.client_patience.specs.declared.patience.Patience.{Patience}
use Rattle.command_line.specs.Numbers.{IsNumber, IsNumberOr, IsUnnumberedBy}
use Rattle.command_line.specs.declared.numbers.NumberForm.TheVariants.{Seconds}
use Rattle.command_line.specs.declared.patience.TheConstants.{DRAIN_TIMEOUT, IDLE_TIMEOUT, LOGIN_DELAY, LOGIN_TIMEOUT}
use Rattle.command_line.specs.declared.words.WordsFault.{WordsFault}

-- the text states that number of seconds, in digits
abbrev pub IsSeconds : List ℕ → ℕ → Type 0
IsSeconds text n = IsNumber Seconds text n

-- the patience of words that state none
abbrev pub usual_patience : Patience
usual_patience = record {
  login_timeout = LOGIN_TIMEOUT;
  idle_timeout = IDLE_TIMEOUT;
  login_delay = LOGIN_DELAY;
  drain_timeout = DRAIN_TIMEOUT;
}

-- the words of `serve` with each option in seconds
abbrev pub timed_words : List ℕ → List ℕ → List ℕ → List ℕ → List ℕ → List Text
timed_words config login idle delay drain =
    codes "serve" ∷ config ∷ codes "--login-timeout" ∷ login
    ∷ codes "--idle-timeout" ∷ idle ∷ codes "--login-delay" ∷ delay
    ∷ codes "--drain-seconds" ∷ drain ∷ []

-- the options of a command state that patience
abbrev pub IsPatienceIn : List Row → Patience → Type 0
IsPatienceIn rows p =
    IsNumberOr Seconds LOGIN_TIMEOUT (codes "login-timeout") rows p.login_timeout
    × IsNumberOr Seconds IDLE_TIMEOUT (codes "idle-timeout") rows p.idle_timeout
    × IsNumberOr Seconds LOGIN_DELAY (codes "login-delay") rows p.login_delay
    × IsNumberOr Seconds DRAIN_TIMEOUT (codes "drain-seconds") rows p.drain_timeout

-- memory ran out, or one of these options has a value that is no number of seconds
abbrev pub IsUntimedIn : List Row → WordsFault → Type 0
IsUntimedIn rows fault =
    IsUnnumberedBy Seconds (codes "login-timeout") rows fault
    ⊎ (IsUnnumberedBy Seconds (codes "idle-timeout") rows fault
    ⊎ (IsUnnumberedBy Seconds (codes "login-delay") rows fault
    ⊎ IsUnnumberedBy Seconds (codes "drain-seconds") rows fault))
