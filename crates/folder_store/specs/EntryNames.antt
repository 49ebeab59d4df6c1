-- Names as the C library reads them.
use Rattle.std.specs.Prelude.{ℕ, if◌then◌else◌, nat_eq, List, [], ◌∷◌}

-- the text that the C library reads in these octets: those before the first NUL
abbrev pub c_text : List ℕ → List ℕ
c_text [] = []
c_text (octet ∷ rest) = if nat_eq octet 0 then [] else octet ∷ c_text rest
