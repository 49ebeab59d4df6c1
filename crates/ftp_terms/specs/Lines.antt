-- Texts on one line.
use Rattle.std.specs.Prelude.{◌≡◌, ℕ, ◌==◌, ◌&&◌, ◌||◌, ◌++◌, Bool, false, not, List, IsTrue, nat_eq, nat_lt}
use Rattle.std.specs.List.{AllByRecursion, list_all}

-- no octet is CR, 13, or LF, 10
abbrev pub is_line : List ℕ → Bool
is_line = list_all (λ octet. not (octet == 13) && not (octet == 10))

-- the text is on one line
abbrev pub IsLine : List ℕ → Type 0
IsLine text = IsTrue (is_line text)

-- a control octet of ASCII: one below 32, or DEL, 127
abbrev pub is_control : ℕ → Bool
is_control octet = nat_lt octet 32 || nat_eq octet 127

abbrev pub HasNoControl : List ℕ → Type 0
HasNoControl text = AllByRecursion (λ octet. is_control octet ≡ false) text

-- CR and LF are control octets, so a text without control octets is on one line
abbrev pub PlainStandsOnOneLine : Type 0
PlainStandsOnOneLine = (text : List ℕ) → HasNoControl text → IsLine text

-- texts on one line, joined, are on one line
abbrev pub JoinedStandOnOneLine : Type 0
JoinedStandOnOneLine = (front back : List ℕ) → IsLine front → IsLine back → IsLine (front ++ back)
