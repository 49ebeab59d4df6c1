-- The names in a text, in which each is followed by a NUL.
use Rattle.std.proofs.Common.{◌≡◌, ◌≢◌, ◌+◌, ◌<◌, ◌≤◌, ◌++◌, ℕ, zero, suc, Bool, List, [], ◌∷◌, length, map, take, drop, get_or, refl, sym, ap, subst, ◌∙◌, arith, append_assoc, inl, inr}
use Rattle.std.specs.Prelude.{if◌then◌else◌, slice_index, IsUtf8}
use Rattle.std.specs.Cmp.Lexicographic.{slice_cmp}
use Rattle.std.specs.List.Sorted.{IsSorted}
use Rattle.std.specs.Ordering.{is_lt, nat_cmp}
use Rattle.std.proofs.Math.Seq.{drop-nil, take-nil}
use Rattle.std.proofs.lemmas.Bool.{eq-eqb, ne_eqb}
use Rattle.std.proofs.lemmas.List.{get_or-map, length-map}
use Rattle.folder_store.specs.Listings.{AddsName, AreThoseInUtf8, names_in, with_octet}

-- a first name that ends before a NUL, or at the end of the text
pub cut_name : (text : List ℕ) (n : ℕ) → 0 < length text → n ≤ length text → ((i : ℕ) → i < length (take n text) → slice_index (take n text) i ≢ 0) → (n < length text → slice_index text n ≡ 0)
    → names_in text ≡ take n text ∷ names_in (drop (n + 1) text)
cut_name [] n some within nul end = absurd (omega arith)
cut_name (octet ∷ rest) zero some within nul end =
    let is : octet ≡ 0 = end (omega arith) in
    ap (λ (b : Bool). if b then [] ∷ names_in rest else with_octet octet (names_in rest)) (eq-eqb octet 0 is)
cut_name (octet ∷ rest) (suc n) some within nul end =
    let not : octet ≢ 0 = nul 0 (omega arith) in
    let next : suc n + 1 ≡ suc (n + 1) = omega arith in
    ap (λ (b : Bool). if b then [] ∷ names_in rest else with_octet octet (names_in rest)) (ne_eqb octet 0 not)
    ∙ further rest
    (λ less. cut_name rest n less (omega arith) (λ i l. nul (suc i) (omega arith)) (λ l. end (omega arith)))
    ∙ ap (λ (m : ℕ). (octet ∷ take n rest) ∷ names_in (drop m (octet ∷ rest))) (sym next)
  where
    further : (rest : List ℕ) → (0 < length rest → names_in rest ≡ take n rest ∷ names_in (drop (n + 1) rest)) → with_octet octet (names_in rest) ≡ (octet ∷ take n rest) ∷ names_in (drop (n + 1) rest)
    further [] cut =
        ap (λ (t : List ℕ). (octet ∷ t) ∷ []) (sym (take-nil n))
        ∙ ap (λ (t : List ℕ). (octet ∷ take n []) ∷ names_in t) (sym (drop-nil (n + 1)))
    further (x ∷ rest) cut = ap (with_octet octet) (cut (omega arith))

-- one more name in UTF-8, and one in no UTF-8
pub added_name : (name : List ℕ) (texts given rest : List (List ℕ)) → given ≡ name ∷ texts → IsUtf8 name → AreThoseInUtf8 texts rest → AreThoseInUtf8 given (name ∷ rest)
added_name name texts given rest is utf8 more = subst (λ (ts : List (List ℕ)). AreThoseInUtf8 ts (name ∷ rest)) (sym is) (inl (utf8, (rest, refl, more)))

pub left_name : (name : List ℕ) (texts given rest : List (List ℕ)) → given ≡ name ∷ texts → (IsUtf8 name → ⊥) → AreThoseInUtf8 texts rest → AreThoseInUtf8 given rest
left_name name texts given rest is not more = subst (λ (ts : List (List ℕ)). AreThoseInUtf8 ts rest) (sym is) (inr (not, more))

-- the octets of names that are sorted by them are sorted
pub sorted_octets : {X : Type 0} (octets_of : X → List ℕ) (xs : List X) → IsSorted (λ x y. slice_cmp nat_cmp (octets_of x) (octets_of y)) xs → IsSorted (slice_cmp nat_cmp) (map octets_of xs)
sorted_octets octets_of [] sorted k d low high = absurd (omega arith)
sorted_octets octets_of (x ∷ xs) sorted k d low high =
    let count : length (map octets_of (x ∷ xs)) ≡ length (x ∷ xs) = length-map (x ∷ xs) octets_of in
    let here = get_or-map octets_of (x ∷ xs) k x d (omega arith) in
    let next = get_or-map octets_of (x ∷ xs) (k + 1) x d (omega arith) in
    ap (λ (n : List ℕ). is_lt (slice_cmp nat_cmp n (get_or (map octets_of (x ∷ xs)) k d))) next
    ∙ ap (λ (n : List ℕ). is_lt (slice_cmp nat_cmp (octets_of (get_or (x ∷ xs) (k + 1) x)) n)) here
    ∙ sorted k x low (omega arith)

-- no name is left
pub no_names : (text : List ℕ) → length text ≡ 0 → AreThoseInUtf8 (names_in text) []
no_names [] none = refl
no_names (octet ∷ rest) none = absurd (omega arith)

-- one name of a text, and then the others
pub after_one : (whole here further : List (List ℕ)) (name : List ℕ) (start now after added : List (List ℕ)) → here ≡ name ∷ further → AddsName name now after → now ≡ start ++ added
    → ((more : List (List ℕ)) → AreThoseInUtf8 here more → AreThoseInUtf8 whole (added ++ more))
    → (all : List (List ℕ)) × (after ≡ start ++ all) × ((more : List (List ℕ)) → AreThoseInUtf8 further more → AreThoseInUtf8 whole (all ++ more))
after_one whole here further name start now after added cut (inl adds) is those = (
  added ++ name ∷ [],
  adds.1 ∙ (ap (λ t. t ++ name ∷ []) is ∙ append_assoc start added (name ∷ [])),
  λ more rest. subst (λ t. AreThoseInUtf8 whole t) (sym (append_assoc added (name ∷ []) more)) (those (name ∷ more) (added_name name further here more cut adds.0 rest)),
)
after_one whole here further name start now after added cut (inr leaves) is those = (added, leaves.1 ∙ is, λ more rest. those more (left_name name further here more cut leaves.0 rest))
