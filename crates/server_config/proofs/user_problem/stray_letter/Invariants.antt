use Rattle.std.proofs.Common.{◌≡◌, ◌++◌, ℕ, List, true}
use Rattle.std.specs.List.{list_all}
use Rattle.std.specs.Str.Iter.{chars_rest}
use Rattle.ftp_terms.specs.Letters.{is_letter}
use Rattle.server_config.proofs.user_problem.stray_letter.Given as goal

-- what is left of the text, after letters
abbrev pub invariant-loop-character : goal.invariant-loop-character
invariant-loop-character l =
    (before : List ℕ) × (l.text ≡ before ++ chars_rest l.character-iterator) × (list_all is_letter before ≡ true)
