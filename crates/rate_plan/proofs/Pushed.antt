-- What holds of each element of a list holds after one more is pushed.
use Rattle.std.proofs.Common.{◌≡◌, ℕ, zero, suc, List, [], ◌∷◌, ◌++◌, length, subst, Some}
use Rattle.std.specs.Prelude.{slice_get}

some_same : {X : Type 0} (x y : X) → Some x ≡ Some y → x ≡ y
some_same x y e = cc

pub pushed : {X : Type 0} (P : ℕ → X → Type 0) (xs : List X) (x : X) → ((i : ℕ) (s : X) → slice_get xs i ≡ Some s → P i s) → P (length xs) x → (i : ℕ) (s : X) → slice_get (xs ++ x ∷ []) i ≡ Some s → P i s
pushed P [] x each last zero s is = subst (P 0) (some_same x s is) last
pushed P [] x each last (suc i) s is = absurd (cc)
pushed P (y ∷ xs) x each last zero s is = each 0 s is
pushed P (y ∷ xs) x each last (suc i) s is = pushed (λ j. P (suc j)) xs x (λ j t e. each (suc j) t e) last i s is
