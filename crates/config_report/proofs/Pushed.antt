-- What holds of each value of a list, holds of each after one more.
use Rattle.std.proofs.Common.{◌≡◌, ◌<◌, ◌∙◌, ◌++◌, ℕ, zero, suc, List, [], ◌∷◌, Some, ap, get_or, length, refl, subst, sym}
use Rattle.std.proofs.lemmas.Option.{slice_get-get_or}
use Rattle.std.specs.Prelude.{slice_get}

same_some : {X : Type 0} (x y : X) → Some x ≡ Some y → x ≡ y
same_some x y e = cc

pub pushed : {X : Type 0} (P : ℕ → X → Type 0) (xs : List X) (x : X) → ((i : ℕ) (y : X) → slice_get xs i ≡ Some y → P i y) → P (length xs) x
    → (i : ℕ) (y : X) → slice_get (xs ++ x ∷ []) i ≡ Some y → P i y
pushed P [] x each last zero y is = subst (P 0) (same_some x y is) last
pushed P [] x each last (suc i) y is = absurd (cc)
pushed P (v ∷ vs) x each last zero y is = each 0 y is
pushed P (v ∷ vs) x each last (suc i) y is = pushed (λ j. P (suc j)) vs x (λ j w e. each (suc j) w e) last i y is

-- a value that an index reads
pub at_place : {X : Type 0} (xs : List X) (n i : ℕ) (x d : X) → n ≡ i → i < length xs → x ≡ get_or xs i d → slice_get xs n ≡ Some x
at_place xs n i x d same lt is = subst (λ k. slice_get xs k ≡ Some x) (sym same) (slice_get-get_or xs i d lt ∙ ap Some (sym is))
