-- Texts of one line, as a list.
use Rattle.std.proofs.Common.{List, [], ◌∷◌, map}
use Rattle.std.specs.List.{AllByRecursion}
use Rattle.ftp_terms.specs.declared.line_text.LineText.{LineText}
use Rattle.ftp_terms.specs.LineText.{text_of}
use Rattle.ftp_terms.specs.Lines.{IsLine}

pub texts_on_lines : {A : Type 0} (texts : List (LineText A)) → AllByRecursion IsLine (map text_of texts)
texts_on_lines [] = tt
texts_on_lines (text ∷ texts) = (text.one_line, texts_on_lines texts)
