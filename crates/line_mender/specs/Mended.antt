-- Control text as received, and with the octets restored that were lost as urgent data.
use Rattle.std.specs.Prelude.{ℕ, ◌+◌, Bool, true, false, not, ◌&&◌, ◌||◌, nat_eq, nat_le, nat_lt, if◌then◌else◌, List, [], ◌∷◌, ◌++◌, refl}
use Rattle.std.specs.Char.{to_ascii_uppercase}
use Rattle.std.specs.Coded.{Coded, code_by, coded×, coded_ℕ, coded_bool}
use Rattle.std.specs.List.{fold}

-- An event of a reader: an octet, or a while without any.
pub data Met : Type 0 where
  Octet : ℕ → Met
  Silence : Met

-- The state of the open line: how many octets of ABOR CR it has, or 6 if it is another; whether the
-- last octet was IAC (255); and whether the LF of a line that was ended without it may still come.
pub record Open : Type 0 where
  pub line : ℕ
  pub behind_iac : Bool
  pub is_late : Bool

abbrev pub at_start : Open
at_start = record { line = 0; behind_iac = false; is_late = false }

-- the octets of ABOR CR
abbrev pub letter_at : ℕ → ℕ
letter_at place =
    if nat_eq place 0 then 65 else if nat_eq place 1 then 66 else if nat_eq place 2 then 79
    else if nat_eq place 3 then 82 else 13

-- The number of octets of ABOR CR in the open line after one more octet. Octets of 128 and above,
-- such as those of Telnet commands, are not counted.
abbrev pub line_after : ℕ → ℕ → ℕ
line_after line octet =
    if nat_eq octet 10 then 0
    else if nat_le 128 octet then line
    else if nat_lt line 5 && nat_eq (to_ascii_uppercase octet) (letter_at line) then line + 1
    else 6

abbrev pub after : Open → ℕ → Open
after known octet =
    record { line = line_after known.line octet; behind_iac = nat_eq octet 255; is_late = false }

-- A DM (242) at the start of a line and not after an IAC: the IAC before it was urgent. Also the
-- late LF of a line that was ended without it.
abbrev pub is_stray : Open → ℕ → Bool
is_stray known octet =
    (known.is_late && nat_eq octet 10)
    || (nat_eq octet 242 && nat_eq known.line 0 && not known.behind_iac)

abbrev pub kept_of : Open → ℕ → List ℕ
kept_of known octet = if is_stray known octet then [] else octet ∷ []

abbrev pub after_all : Open → List ℕ → Open
after_all known octets = fold after known octets

-- octets without the stray ones
abbrev pub kept : Open → List ℕ → List ℕ
kept known [] = []
kept known (octet ∷ octets) = kept_of known octet ++ kept (after known octet) octets

-- the open line is ABOR CR; if no LF comes, it was urgent
abbrev pub is_cut : Open → Bool
is_cut known = nat_eq known.line 5

-- a silence ends such a line
abbrev pub after_silence : Open → Open
after_silence known =
    if is_cut known then record { line = 0; behind_iac = known.behind_iac; is_late = true }
    else known

abbrev pub ending_of : Open → List ℕ
ending_of known = if is_cut known then 10 ∷ [] else []

-- the octets passed on for these events
abbrev pub mended : Open → List Met → List ℕ
mended known [] = []
mended known (Octet octet ∷ all) = kept_of known octet ++ mended (after known octet) all
mended known (Silence ∷ all) = ending_of known ++ mended (after_silence known) all

-- a code, by which proofs distinguish values
abbrev pub open_code : Coded Open
open_code = code_by (ℕ × (Bool × Bool)) (coded× coded_ℕ (coded× coded_bool coded_bool))
    (λ o. (o.line, (o.behind_iac, o.is_late)))
    (λ p. record { line = p.0; behind_iac = p.1.0; is_late = p.1.1 }) (λ _. refl)
