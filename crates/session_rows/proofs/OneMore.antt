-- A line behind others.
use Rattle.std.proofs.Common.{◌≡◌, ◌++◌, ◌∷◌, [], ℕ, List, ap, map, refl}

-- one line more, in front of the rest
pub one_more : {X : Type 0} (f : X → List ℕ) (xs : List X) (x : X) (rest : List (List ℕ)) → map f (xs ++ x ∷ []) ++ rest ≡ map f xs ++ (f x ∷ rest)
one_more f [] x rest = refl
one_more f (y ∷ ys) x rest = ap (λ lines. f y ∷ lines) (one_more f ys x rest)
