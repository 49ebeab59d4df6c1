-- Texts that are joined.
use Rattle.std.proofs.Common.{◌≡◌, ℕ, List, [], ◌∷◌, ◌++◌, map, sym, refl, ap, ◌∙◌, append_assoc, Result, OnOk, Ok, Err}

pub same_items : (xs : List ℕ) → map (λ x. x) xs ≡ xs
same_items [] = refl
same_items (x ∷ xs) = ap (λ (more : List ℕ). x ∷ more) (same_items xs)

-- two parts, one after another
two : (old one all a b : List ℕ) → one ≡ old ++ a → all ≡ one ++ b → all ≡ old ++ (a ++ b)
two old one all a b first second = second ∙ (ap (λ (xs : List ℕ). xs ++ b) first ∙ append_assoc old a b)

-- three
pub three : (old one more all a b c : List ℕ) → one ≡ old ++ a → more ≡ one ++ b → all ≡ more ++ c → all ≡ old ++ (a ++ b ++ c)
three old one more all a b c first second third = two old more all (a ++ b) c (two old one more a b first second) third

-- and four
pub four : (old one more last all a b c d : List ℕ) → one ≡ old ++ a → more ≡ one ++ b → last ≡ more ++ c → all ≡ last ++ d → all ≡ old ++ (a ++ b ++ c ++ d)
four old one more last all a b c d first second third fourth = two old last all (a ++ b ++ c) d (three old one more last a b c first second third) fourth

-- a claim on success follows from a weaker one
pub on_ok : {E : Type 0} (r : Result (Unit {0}) E) (P Q : Type 0) → (P → Q) → OnOk r P → OnOk r Q
on_ok (Ok u) P Q f p = f p
on_ok (Err e) P Q f p = p
