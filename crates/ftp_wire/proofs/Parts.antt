-- A list has at least one part.
use Rattle.std.proofs.Common.{refl, ◌≡◌, ◌==◌, ◌∷◌, [], ℕ, List, Bool, true, false, cond, None, length}
use Rattle.std.specs.List.{onto_first, slice_split}
use Rattle.ftp_wire.specs.Arguments.{extended_parts}

first_of : (b : Bool) (x : ℕ) (parts : List (List ℕ)) → (front : List ℕ) × (more : List (List ℕ)) × (cond b ([] ∷ parts) (onto_first x parts) ≡ front ∷ more)
first_of true x parts = ([], parts, refl)
first_of false x [] = (x ∷ [], [], refl)
first_of false x (part ∷ parts) = (x ∷ part, parts, refl)

pub some_part : (p : ℕ → Bool) (xs : List ℕ) → (front : List ℕ) × (more : List (List ℕ)) × (slice_split p xs ≡ front ∷ more)
some_part p [] = ([], [], refl)
some_part p (x ∷ xs) = first_of (p x) x (slice_split p xs)

after_three : (a b c : List ℕ) (first : Bool) (x : ℕ) (y : List ℕ) (ys : List (List ℕ))
    → extended_parts (a ∷ b ∷ c ∷ cond first ([] ∷ y ∷ ys) (onto_first x (y ∷ ys))) ≡ None
after_three a b c true x y ys = refl
after_three a b c false x y ys = refl

-- what follows the last delimiter is empty
pub not_last : (a b c : List ℕ) (p : ℕ → Bool) (rest : List ℕ) → (length rest == 0) ≡ false → extended_parts (a ∷ b ∷ c ∷ slice_split p rest) ≡ None
not_last a b c p [] e = cc
not_last a b c p (x ∷ xs) e =
    let (y, ys, is) = some_part p xs in
    rw is (after_three a b c (p x) x y ys)
