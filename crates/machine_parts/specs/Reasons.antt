-- Reasons in words, after the path that they concern.
use Rattle.std.specs.Prelude.{◌≡◌, ℕ, List, ◌++◌, codes}

-- the text begins with a path and a colon, and goes on so
abbrev pub BeginsWith : List ℕ → List ℕ → (List ℕ → Type 0) → Type 0
BeginsWith path text GoesOn = (rest : List ℕ) × (text ≡ path ++ (codes ": " ++ rest)) × GoesOn rest

-- the file at a path cannot be removed, for a reason in the machine's words
abbrev pub SaysUnremoved : List ℕ → List ℕ → Type 0
SaysUnremoved path text =
    (why : List ℕ) × (text ≡ path ++ (codes ": cannot be removed: " ++ why))
