-- Properties of the definition of mended text.
use Rattle.std.specs.Prelude.{◌≡◌, ℕ, ◌<◌, Bool, true, false, nat_eq, List, [], ◌∷◌, ◌++◌, map}
use Rattle.std.specs.Char.{to_ascii_uppercase}
use Rattle.line_mender.specs.Mended.{Met, Octet, Silence, Open, at_start, mended}

-- the octets among the events
abbrev pub octets_of : List Met → List ℕ
octets_of [] = []
octets_of (Octet octet ∷ all) = octet ∷ octets_of all
octets_of (Silence ∷ all) = octets_of all

abbrev pub StartsWithLf : List ℕ → Type 0
StartsWithLf [] = ⊥
StartsWithLf (octet ∷ octets) = octet ≡ 10

-- Text from the start of a line, or from within a line: each line begins with an octet below 128,
-- and CR occurs only before LF.
abbrev pub IsText : Bool → List ℕ → Type 0
IsText begins [] = Unit {0}
IsText true (octet ∷ octets) =
    (octet < 128) × (octet ≡ 13 → StartsWithLf octets) × IsText (nat_eq octet 10) octets
IsText false (octet ∷ octets) = (octet ≡ 13 → StartsWithLf octets) × IsText (nat_eq octet 10) octets

-- Text without urgent octets passes unchanged, with any silences between.
abbrev pub PassesText : Type 0
PassesText = (all : List Met) → IsText true (octets_of all) → mended at_start all ≡ octets_of all

-- ABOR CR, in letters of either case
abbrev pub IsAbort : List ℕ → Type 0
IsAbort octets = map to_ascii_uppercase octets ≡ 65 ∷ 66 ∷ 79 ∷ 82 ∷ 13 ∷ []

-- The LF of an ABOR that was urgent is restored by the first silence, wherever a line begins.
abbrev pub EndsAborts : Type 0
EndsAborts = (known : Open) (abort : List ℕ) → known.line ≡ 0 → IsAbort abort
    → mended known (map Octet abort ++ Silence ∷ []) ≡ abort ++ 10 ∷ []

-- If the second IAC of IAC IP IAC DM was urgent, its DM is removed, and the text after it passes
-- unchanged.
abbrev pub TakesMarksOut : Type 0
TakesMarksOut = (known : Open) (all : List Met) → known.line ≡ 0 → IsText true (octets_of all)
    → mended known (Octet 255 ∷ Octet 244 ∷ Octet 242 ∷ all) ≡ 255 ∷ 244 ∷ octets_of all
