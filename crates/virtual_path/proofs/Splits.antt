-- The names between the slashes of a text.
use Rattle.std.proofs.Common.{◌≡◌, ℕ, true, false, cond, List, [], ◌∷◌, ◌++◌, refl, ap, ◌∙◌}
use Rattle.std.specs.List.{AllByRecursion, onto_first}
use Rattle.std.proofs.lemmas.List.Splits.{slice_split-cons_no}
use Rattle.virtual_path.specs.Path.{Path, is_slash, names_of, slashed, HasNoSlash}

-- up to the first slash stands the first name
pub names_of-name : (name : List ℕ) (names : Path) → HasNoSlash name → AllByRecursion HasNoSlash names → names_of (name ++ slashed names) ≡ name ∷ names
names_of-name [] [] h a = refl
names_of-name [] (next ∷ names) h a = ap (λ (rest : Path). [] ∷ rest) (names_of-name next names a.0 a.1)
names_of-name (octet ∷ name) names h a =
    slice_split-cons_no is_slash octet (name ++ slashed names) h.0 ∙ ap (onto_first octet) (names_of-name name names h.1 a)

pub names_of-slashed : (names : Path) → AllByRecursion HasNoSlash names → names_of (slashed names) ≡ [] ∷ names
names_of-slashed names a = names_of-name [] names tt a

each_onto_first : (P : ℕ → Type 0) (octet : ℕ) (parts : List (List ℕ)) → P octet → AllByRecursion (AllByRecursion P) parts → AllByRecursion (AllByRecursion P) (onto_first octet parts)
each_onto_first P octet [] h a = ((h, tt), tt)
each_onto_first P octet (part ∷ parts) h a = ((h, a.0), a.1)

-- a name between slashes has none, and has what each octet of the text has
pub each_name : (P : ℕ → Type 0) (text : List ℕ) → AllByRecursion P text → AllByRecursion (AllByRecursion (λ octet. P octet × (is_slash octet ≡ false))) (names_of text)
each_name P [] a = (tt, tt)
each_name P (octet ∷ text) a =
    elim (is_slash octet) as (λ is. is_slash octet ≡ is → AllByRecursion (AllByRecursion (λ o. P o × (is_slash o ≡ false))) (cond is ([] ∷ names_of text) (onto_first octet (names_of text)))) [
      | true ↦ λ e. (tt, each_name P text a.1)
      | false ↦ λ e. each_onto_first (λ o. P o × (is_slash o ≡ false)) octet (names_of text) (a.0, e) (each_name P text a.1)
    ] refl
