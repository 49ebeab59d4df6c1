-- Paths as a status shows them.
use Rattle.std.specs.Prelude.{ℕ, List, if◌then◌else◌, encode_utf8}
use Rattle.std.specs.Char.{is_control}
use Rattle.std.specs.List.{flat_map}
use Rattle.std.specs.Str.{chars}

-- a control character is replaced by `_`
abbrev pub shown : ℕ → ℕ
shown character = if is_control character then 95 else character

-- the characters of a path
abbrev pub shown_text : List ℕ → List ℕ
shown_text text = flat_map (λ character. encode_utf8 (shown character)) (chars text)
