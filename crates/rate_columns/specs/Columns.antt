-- Texts and numbers in columns.
use Rattle.std.specs.Prelude.{ℕ, ◌-◌, ◌^◌, List}
use Rattle.std.specs.Fmt.{format_spec, styled_decimal, styled_text}

-- A text at the left of a column of this width, with blanks after it; and at its right, with blanks
-- before it. A longer text is not cut.
abbrev pub left : ℕ → List ℕ → List ℕ
left width text = styled_text (format_spec 32 1 0 width (2 ^ 64 - 1)) text

abbrev pub right : ℕ → List ℕ → List ℕ
right width text = styled_text (format_spec 32 3 0 width (2 ^ 64 - 1)) text

-- a number at the right of a column
abbrev pub number : ℕ → ℕ → List ℕ
number width n = styled_decimal (format_spec 32 3 0 width (2 ^ 64 - 1)) n
