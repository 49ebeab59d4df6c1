-- Words that are joined by blanks, and cut again.
use Rattle.std.proofs.Common.{◌≡◌, ◌∙◌, ℕ, ◌==◌, ◌<◌, ◌≤◌, Bool, true, false, List, [], ◌∷◌, ◌++◌, refl, ap, sym, rules, arith, tests, length, get_or}
use Rattle.std.specs.List.{AllByRecursion, join_with_byte}
use Rattle.std.specs.Str.{IsAscii, IsUtf8}
use Rattle.std.proofs.lemmas.Str.{IsUtf8-append, IsUtf8-from_ascii}
use Rattle.log_lines.specs.Words.{parts}
use Rattle.log_lines.proofs.Cuts.{IsOther, cut_word, last_word}

-- an octet that is not a blank
abbrev pub IsInner : ℕ → Type 0
IsInner octet = IsOther 32 octet

-- a word: UTF-8, without a blank
pub record IsWord (word : List ℕ) : Type 0 where
  pub utf8 : IsUtf8 word
  pub inner : AllByRecursion IsInner word

-- words that are joined by blanks are cut there
pub cut_joined : (first : List ℕ) (words : List (List ℕ)) → IsWord first → AllByRecursion IsWord words
    → parts 32 (join_with_byte 32 (first ∷ words)) ≡ first ∷ words
cut_joined first [] one rest = last_word 32 first one.inner
cut_joined first (next ∷ words) one rest =
    cut_word 32 first (join_with_byte 32 (next ∷ words)) one.inner
    ∙ ap (λ (ws : List (List ℕ)). first ∷ ws) (cut_joined next words rest.0 rest.1)

blank_utf8 : (text : List ℕ) → IsUtf8 text → IsUtf8 (32 ∷ text)
blank_utf8 text fine = IsUtf8-append (32 ∷ []) text (IsUtf8-from_ascii (32 ∷ []) blank) fine
  where
    blank : IsAscii (32 ∷ [])
    blank i = search (rules, arith)

-- and are UTF-8
pub joined_utf8 : (first : List ℕ) (words : List (List ℕ)) → IsWord first → AllByRecursion IsWord words
    → IsUtf8 (join_with_byte 32 (first ∷ words))
joined_utf8 first [] one rest = one.utf8
joined_utf8 first (next ∷ words) one rest =
    IsUtf8-append first (32 ∷ join_with_byte 32 (next ∷ words)) one.utf8
    (blank_utf8 (join_with_byte 32 (next ∷ words)) (joined_utf8 next words rest.0 rest.1))
