-- Texts of visible ASCII characters, which are not blanks.
use Rattle.std.proofs.Common.{◌≡◌, ◌∙◌, ℕ, zero, suc, ◌==◌, ◌<◌, ◌≤◌, ◌+◌, ◌&&◌, Bool, true, false, List, [], ◌∷◌, ◌++◌, refl, ap, sym, rules, arith, tests, length, get_or}
use Rattle.std.specs.List.{AllByRecursion, list_all}
use Rattle.std.specs.Str.{IsAscii, IsUtf8, chars}
use Rattle.std.proofs.lemmas.Str.{IsUtf8-from_ascii}
use Rattle.log_lines.proofs.Joined.{IsInner, IsWord}

abbrev pub IsVisible : ℕ → Type 0
IsVisible octet = (33 ≤ octet) × (octet ≤ 126)

visible_at : (text : List ℕ) → AllByRecursion IsVisible text → (i : ℕ) → get_or text i 0 < 128
visible_at [] all i = search (rules, arith)
visible_at (x ∷ xs) all zero = let below = all.0.1 in omega arith
visible_at (x ∷ xs) all (suc i) = visible_at xs all.1 i

pub visible_ascii : (text : List ℕ) → AllByRecursion IsVisible text → IsAscii text
visible_ascii text all i = visible_at text all i

visible_inner : (text : List ℕ) → AllByRecursion IsVisible text → AllByRecursion IsInner text
visible_inner [] all = tt
visible_inner (x ∷ xs) all = (let low = all.0.0 in search (rules, tests), visible_inner xs all.1)

pub visible_word : (text : List ℕ) → AllByRecursion IsVisible text → IsWord text
visible_word text all = record {
  utf8 = IsUtf8-from_ascii text (visible_ascii text all);
  inner = visible_inner text all;
}

pub visible_both : (xs ys : List ℕ) → AllByRecursion IsVisible xs → AllByRecursion IsVisible ys → AllByRecursion IsVisible (xs ++ ys)
visible_both [] ys one other = other
visible_both (x ∷ xs) ys one other = (one.0, visible_both xs ys one.1 other)
