-- The lines of a text (RFC 959, section 5.3; RFC 854, "THE NVT PRINTER AND KEYBOARD").
use Rattle.std.specs.Prelude.{◌≡◌, ◌≢◌, ◌++◌, ◌∷◌, [], ℕ, List, flat_map}
use Rattle.std.specs.List.{AllByRecursion}

abbrev pub HasNoEnd : List ℕ → Type 0
HasNoEnd = AllByRecursion (λ octet. octet ≢ 10)

abbrev pub ended : List ℕ → List ℕ
ended line = line ++ 10 ∷ []

-- the text is these lines, each followed by its LF, and a rest without LF
pub record Cuts (text : List ℕ) (lines : List (List ℕ)) (rest : List ℕ) : Type 0 where
  pub whole : text ≡ flat_map ended lines ++ rest
  pub each : AllByRecursion HasNoEnd lines
  pub open_rest : HasNoEnd rest
