-- What `rsplit_once` gives.
use Rattle.std.proofs.Common.{◌≡◌, ℕ, ◌≤◌, ◌+◌, List, Option, Some, None, MatchOption, Bor, ◌∷◌, ◌++◌, take, drop, length, sym, ap, subst, ◌∙◌, lit<}
use Rattle.std.specs.Str.Pattern.{RFindsChar}
use Rattle.std.proofs.lemmas.Bool.{ne_eqb}
use Rattle.std.proofs.lemmas.List.{take-append-drop}
use Rattle.std.proofs.lemmas.Str.Pattern.{NoCharPasses-char, drop_at_char}
use Rattle.virtual_path.specs.Path.{is_slash, HasNoSlash}
use Rattle.virtual_path.proofs.Elements.{none_at}

pub split_answer : (text : List ℕ) (r : Option (Bor (List ℕ) × Bor (List ℕ)))
    → MatchOption r (RFindsChar 47 text None) (λ parts. (i : ℕ) × (j : ℕ) × RFindsChar 47 text (Some (i, j)) × (parts.0.now ≡ take i text) × (parts.1.now ≡ drop j text) × (i ≤ j) × (length parts.0.now ≡ i) × (length parts.1.now + j ≡ length text))
    → MatchOption r (HasNoSlash text) (λ parts. (text ≡ parts.0.now ++ 47 ∷ parts.1.now) × HasNoSlash parts.1.now)
split_answer text None none = none_at is_slash 47 text (λ x. ne_eqb x 47) (λ i less. NoCharPasses-char 47 text i none (lit< tt) less)
split_answer text (Some parts) is =
    let whole = sym (take-append-drop is.0 text) ∙ ap (λ t. take is.0 text ++ t) (drop_at_char 47 text is.0 is.1 is.2.1 (lit< tt))
    ∙ ap (λ t. t ++ 47 ∷ drop is.1 text) (sym is.3) ∙ ap (λ t. parts.0.now ++ 47 ∷ t) (sym is.4) in
    let plain = none_at is_slash 47 (drop is.1 text) (λ x. ne_eqb x 47) (λ i less. NoCharPasses-char 47 (drop is.1 text) i is.2.0 (lit< tt) less) in
    (whole, subst HasNoSlash (sym is.4) plain)
