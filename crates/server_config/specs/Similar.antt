-- The key that somebody may have meant.
use Rattle.std.specs.Prelude.{◌≡◌, ℕ, ◌≤◌, ◌<◌, if◌then◌else◌, List, [], ◌∷◌, length, nat_eq, Option, Some, None, IfSome, MatchOption}
use Rattle.std.specs.List.{ends_with}
use Rattle.std.specs.Str.{chars}
use Rattle.config_file.specs.Keys.{KeyRow}
use Rattle.strsim.specs.Edits.{levenshtein_row}

-- number of letters to change, insert or remove so that one text becomes another
abbrev pub edits : List ℕ → List ℕ → ℕ
edits text other = levenshtein_row nat_eq (chars text) (chars other) (length (chars other))

-- few letters lead from a key to another: at least one, at most two, and fewer than the key has
pub record IsNear (key other : List ℕ) : Type 0 where
  pub some : 0 < edits key other
  pub few : edits key other ≤ 2
  pub fewer : edits key other < length (chars key)

-- the first of the keys of rows with an end
abbrev pub first_with : List ℕ → List KeyRow → Option (List ℕ)
first_with end [] = None
first_with end (row ∷ rows) =
    if ends_with nat_eq row.key end then Some row.key else first_with end rows

-- The hint at a key that the rows do not have, 95 being `_`: the first of their keys whose last
-- words it is; if there is none, one that few letters lead to, or no hint.
abbrev pub IsHint : List ℕ → List KeyRow → Option (List ℕ) → Type 0
IsHint key rows hint =
    MatchOption (first_with (95 ∷ key) rows) (IfSome hint (IsNear key)) (λ other. hint ≡ Some other)
