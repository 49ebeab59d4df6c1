-- One-line texts as contracts see them.
use Rattle.std.specs.Prelude.{ℕ, List}
use Rattle.std.specs.Cow.{cow_str_bytes}
use Rattle.ftp_terms.specs.declared.line_text.LineText.{LineText}

-- its octets
abbrev pub text_of : {A : Type 0} → LineText A → List ℕ
text_of line = cow_str_bytes line.text
