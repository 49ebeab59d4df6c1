-- The widths of texts on a terminal, and their cuts.
use Rattle.std.specs.Prelude.{◌-◌, ℕ, Bool, List, [], ◌∷◌, ◌++◌, ◌&&◌, codes, encode_utf8_all, false, if◌then◌else◌, map, nat_le, nat_lt, replicate, unwrap_or}
use Rattle.std.specs.List.{sum_by}
use Rattle.std.specs.Str.{chars}
use Rattle.unicode_width.specs.Width.{char_width}
use Rattle.status_table.specs.Cells.{plain}

-- the columns that a character takes; none, if it is a control
abbrev pub columns : ℕ → ℕ
columns c = unwrap_or (char_width false c) 0

-- the width of a text: the columns of its characters, each by itself
abbrev pub width : List ℕ → ℕ
width cs = sum_by columns cs

-- the longest front of a text whose width is at most n
abbrev pub front : ℕ → List ℕ → List ℕ
front n [] = []
front n (c ∷ cs) = if nat_le (columns c) n then c ∷ front (n - columns c) cs else []

-- a text of at most that width, which does not begin with a mark of a character before it
abbrev pub is_end : ℕ → ℕ → List ℕ → Bool
is_end n c cs = nat_le (width (c ∷ cs)) n && nat_lt 0 (columns c)

-- the longest such end of a text
abbrev pub ending : ℕ → List ℕ → List ℕ
ending n [] = []
ending n (c ∷ cs) = if is_end n c cs then c ∷ cs else ending n cs

-- a text at the left of a column of n, cut to its width but for a blank
unfoldable pub left : ℕ → List ℕ → List ℕ
left n text =
    encode_utf8_all (front (n - 1) (chars text))
    ++ replicate (n - width (front (n - 1) (chars text))) 32

-- the end of a text that is wider than n, after three dots; otherwise the whole text
unfoldable pub tail : ℕ → List ℕ → List ℕ
tail n text =
    if nat_le (width (chars text)) n then text
    else codes "..." ++ encode_utf8_all (ending (n - 3) (chars text))

-- the part of a line that a screen of n columns has
abbrev pub line_front : ℕ → List ℕ → List ℕ
line_front n line = front n (map plain (chars line))
