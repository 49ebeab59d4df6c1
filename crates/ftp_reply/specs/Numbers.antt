-- Numbers as text.
use Rattle.std.specs.Prelude.{ℕ, ◌-◌, List, ◌++◌, length, replicate}
use Rattle.std.specs.Fmt.{decimal}

-- the decimal digits of a number, right-aligned in a field that is filled with a filler; a number
-- with more digits than the field is not cut
abbrev pub right_in : ℕ → ℕ → ℕ → List ℕ
right_in filler places n = replicate (places - length (decimal n)) filler ++ decimal n

-- filled with spaces, and with zeros
abbrev pub spaced : ℕ → ℕ → List ℕ
spaced = right_in 32

abbrev pub zeroed : ℕ → ℕ → List ℕ
zeroed = right_in 48
