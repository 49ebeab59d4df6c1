-- Paths in replies (RFC 959 appendix II).
use Rattle.std.specs.Prelude.{ℕ, ◌==◌, if◌then◌else◌, List, ◌++◌, ◌∷◌, [], codes}
use Rattle.std.specs.List.{flat_map}

-- a double quote, 34, is doubled
abbrev pub doubled : ℕ → List ℕ
doubled octet = if octet == 34 then codes "\"\"" else octet ∷ []

-- the path in double quotes, with each double quote in it doubled
abbrev pub quoted : List ℕ → List ℕ
quoted path = codes "\"" ++ flat_map doubled path ++ codes "\""
