-- The words of a line.
use Rattle.std.specs.Prelude.{ℕ, ◌==◌, List, [], Option, Some, None}
use Rattle.std.specs.Borrow.{Bor}
use Rattle.std.specs.List.{slice_split}

abbrev pub Octets : Type 0
Octets = List ℕ

-- the parts between the octets of one value
abbrev pub parts : ℕ → Octets → List Octets
parts mark text = slice_split (λ octet. octet == mark) text

-- the parts of what is left of a text, if anything is
abbrev pub words_left : ℕ → Option (Bor Octets) → List Octets
words_left mark None = []
words_left mark (Some rest) = parts mark rest.now
