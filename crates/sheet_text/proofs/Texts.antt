-- The texts of paths.
use Rattle.std.proofs.Common.{◌≡◌, ◌∙◌, ℕ, ◌==◌, Bool, true, false, [], ◌∷◌, ◌++◌, refl, sym, ap, eqb-true}
use Rattle.std.specs.List.{onto_first}
use Rattle.std.proofs.lemmas.List.Splits.{slice_split-cons_yes, slice_split-cons_no}
use Rattle.sheet_text.specs.Paths.{Octets, Path, parts, names_of, text_of}

-- a slash and the parts behind it
parts_text : (rest : Octets) → text_of (parts 47 rest) ≡ 47 ∷ rest
parts_text [] = refl
parts_text (octet ∷ rest) = go (octet == 47) refl (parts_text rest)
  where
    onto : (names : Path) → text_of names ≡ 47 ∷ rest → text_of (onto_first octet names) ≡ 47 ∷ octet ∷ rest
    onto [] h = cc
    onto (name ∷ names) h = let tail : name ++ text_of names ≡ rest = cc in ap (λ (r : Octets). 47 ∷ octet ∷ r) tail

    go : (b : Bool) → (octet == 47) ≡ b → text_of (parts 47 rest) ≡ 47 ∷ rest → text_of (parts 47 (octet ∷ rest)) ≡ 47 ∷ octet ∷ rest
    go true e below =
        let slash : octet ≡ 47 = eqb-true octet 47 e in
        ap text_of (slice_split-cons_yes (λ (o : ℕ). o == 47) octet rest e) ∙ ap (λ (r : Octets). 47 ∷ r) below ∙ ap (λ (o : ℕ). 47 ∷ o ∷ rest) (sym slash)
    go false e below = ap text_of (slice_split-cons_no (λ (o : ℕ). o == 47) octet rest e) ∙ onto (parts 47 rest) below

-- the text of a path that begins with a slash
pub text_is : (rest : Octets) → text_of (names_of (47 ∷ rest)) ≡ 47 ∷ rest
text_is rest = parts_text rest
