-- The text of an end.
use Rattle.std.specs.Prelude.{◌≡◌, ℕ, List, Option, Some, None}

-- the text is that of the end, if that is known
abbrev pub IsTextOf : List ℕ → Option (List ℕ) → Type 0
IsTextOf text None = Unit {0}
IsTextOf text (Some known) = known ≡ text
