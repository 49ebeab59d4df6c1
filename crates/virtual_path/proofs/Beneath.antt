-- A path that is beneath another, by their texts.
use Rattle.std.proofs.Common.{◌≡◌, ◌≢◌, ◌↔◌, ℕ, ◌+◌, Bool, true, false, cond, ◌||◌, List, [], ◌∷◌, ◌++◌, length, nat_eq, slice_index, refl, sym, ap, ◌∙◌, arith}
use Rattle.std.proofs.Math.Dec.{eqb-suc-zero}
use Rattle.std.proofs.lemmas.Bool.{eqb-true, false≢true}
use Rattle.std.proofs.lemmas.List.{append-nil, append_cancel_left}
use Rattle.std.proofs.lemmas.List.Splits.{length-slice_split}
use Rattle.std.specs.List.{AllByRecursion, onto_first, count_by}
use Rattle.virtual_path.specs.Path.{Path, is_slash, names_of, slashed, HasNoSlash, IsBeneath}
use Rattle.virtual_path.proofs.Splits.{names_of-slashed}
use Rattle.virtual_path.proofs.Texts.{slashed-append}

onto_first-append : (octet : ℕ) (parts more : List (List ℕ)) (n : ℕ) → length parts ≡ n + 1 → onto_first octet (parts ++ more) ≡ onto_first octet parts ++ more
onto_first-append octet [] more n e = absurd (omega arith)
onto_first-append octet (part ∷ parts) more n e = refl

names_of-append : (xs ys : List ℕ) → names_of (xs ++ 47 ∷ ys) ≡ names_of xs ++ names_of ys
names_of-append [] ys = refl
names_of-append (x ∷ xs) ys =
    elim (is_slash x) as (λ is. cond is ([] ∷ names_of (xs ++ 47 ∷ ys)) (onto_first x (names_of (xs ++ 47 ∷ ys))) ≡ cond is ([] ∷ names_of xs) (onto_first x (names_of xs)) ++ names_of ys) [
      | true ↦ ap (λ (parts : List (List ℕ)). [] ∷ parts) (names_of-append xs ys)
      | false ↦ ap (onto_first x) (names_of-append xs ys) ∙ onto_first-append x (names_of xs) (names_of ys) (count_by is_slash xs) (length-slice_split is_slash xs)
    ]

-- what is left of a text after that of another path
pub rest_beneath : (path other : Path) (rest : List ℕ) → AllByRecursion HasNoSlash path → AllByRecursion HasNoSlash other → slashed path ≡ slashed other ++ rest
    → (nat_eq (length rest) 0 || nat_eq (slice_index rest 0) 47) ≡ true → IsBeneath path other
rest_beneath path other [] a b e is =
    let same : ([] ∷ path) ≡ ([] ∷ other) = sym (names_of-slashed path a) ∙ ap names_of (e ∙ append-nil (slashed other)) ∙ names_of-slashed other b in
    let names : path ≡ other = cc in
    ([], names ∙ sym (append-nil other))
rest_beneath path other (octet ∷ rest) a b e is =
    let slash : octet ≡ 47 = eqb-true octet 47 (sym (ap (λ none. none || nat_eq octet 47) (eqb-suc-zero (length rest))) ∙ is) in
    let same : ([] ∷ path) ≡ ([] ∷ (other ++ names_of rest)) =
    sym (names_of-slashed path a) ∙ ap names_of (e ∙ ap (λ o. slashed other ++ o ∷ rest) slash) ∙ names_of-append (slashed other) rest ∙ ap (λ parts. parts ++ names_of rest) (names_of-slashed other b) in
    let names : path ≡ other ++ names_of rest = cc in
    (names_of rest, names)

pub beneath_rest : (path other : Path) (rest : List ℕ) → slashed path ≡ slashed other ++ rest → IsBeneath path other → (nat_eq (length rest) 0 || nat_eq (slice_index rest 0) 47) ≡ true
beneath_rest path other rest e (more, is) =
    let same : rest ≡ slashed more = append_cancel_left (slashed other) rest (slashed more) (sym e ∙ ap slashed is ∙ slashed-append other more) in
    ap (λ t. nat_eq (length t) 0 || nat_eq (slice_index t 0) 47) same ∙ begins more
  where
    begins : (path : Path) → (nat_eq (length (slashed path)) 0 || nat_eq (slice_index (slashed path) 0) 47) ≡ true
    begins [] = refl
    begins (name ∷ names) = ap (λ none. none || true) (eqb-suc-zero (length (name ++ slashed names)))

pub beneath_answer : (path other : Path) (rest : List ℕ) (r : Bool) → AllByRecursion HasNoSlash path → AllByRecursion HasNoSlash other → slashed path ≡ slashed other ++ rest
    → r ≡ (nat_eq (length rest) 0 || nat_eq (slice_index rest 0) 47) → (r ≡ true) ↔ IsBeneath path other
beneath_answer path other rest r a b e is = (λ yes. rest_beneath path other rest a b e (sym is ∙ yes), λ below. is ∙ beneath_rest path other rest e below)

pub not_beneath : (path other : Path) → ((rest : List ℕ) → slashed path ≢ slashed other ++ rest) → (false ≡ true) ↔ IsBeneath path other
not_beneath path other none = (λ e. absurd (false≢true e), λ below. absurd (none (slashed below.0) (ap slashed below.1 ∙ slashed-append other below.0)))
