-- The text of a reply (RFC 959, section 4.2).
use Rattle.std.specs.Prelude.{ℕ, ◌≤◌, Bool, false, if◌then◌else◌, List, [], ◌∷◌, ◌++◌, codes}
use Rattle.std.specs.List.{AllByRecursion, flat_map}
use Rattle.std.specs.Char.{is_ascii_digit}
use Rattle.std.specs.Fmt.{decimal}
use Rattle.ftp_terms.specs.Lines.{IsLine}
use Rattle.ftp_reply.specs.declared.codes.TheConstants.{HIGHEST_CODE, LOWEST_CODE}

-- CR and LF, the end of a line
abbrev pub line_end : List ℕ
line_end = 13 ∷ 10 ∷ []

-- a reply has a code, and one line of text or a first line, inner lines and a last line
pub data ReplyForm : Type 0 where
  OneLine : (code : ℕ) (text : List ℕ) → ReplyForm
  SeveralLines : (code : ℕ) (first : List ℕ) (inner : List (List ℕ)) (last : List ℕ) → ReplyForm

abbrev pub code_of : ReplyForm → ℕ
code_of (OneLine code text) = code
code_of (SeveralLines code first inner last) = code

abbrev pub texts_of : ReplyForm → List (List ℕ)
texts_of (OneLine code text) = text ∷ []
texts_of (SeveralLines code first inner last) = first ∷ last ∷ inner

-- a code of three digits whose first is 1 to 5, and one-line texts
pub record IsReply (form : ReplyForm) : Type 0 where
  pub low : LOWEST_CODE ≤ code_of form
  pub high : code_of form ≤ HIGHEST_CODE
  pub lines : AllByRecursion IsLine (texts_of form)

-- a line with the code, a mark, and the text
abbrev pub coded_line : ℕ → List ℕ → List ℕ → List ℕ
coded_line code mark text = decimal code ++ mark ++ text ++ line_end

abbrev pub begins_with_digit : List ℕ → Bool
begins_with_digit [] = false
begins_with_digit (octet ∷ _) = is_ascii_digit octet

-- an inner line: a leading digit gets a space before it, so that the line differs from one with a
-- code
abbrev pub inner_line : List ℕ → List ℕ
inner_line text = (if begins_with_digit text then codes " " else []) ++ text ++ line_end

-- the octets of a reply: a hyphen after the code if more lines follow, otherwise a space
abbrev pub reply_text : ReplyForm → List ℕ
reply_text (OneLine code text) = coded_line code (codes " ") text
reply_text (SeveralLines code first inner last) =
    coded_line code (codes "-") first ++ flat_map inner_line inner
    ++ coded_line code (codes " ") last
