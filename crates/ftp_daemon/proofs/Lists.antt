-- What stands next in a list that is gone through, and what is left of new passes.
use Rattle.std.proofs.Common.{◌≡◌, ℕ, zero, suc, ◌∙◌, List, [], ◌∷◌, ◌++◌, length, refl, sym, ap}
use Rattle.std.specs.Prelude.{Some, slice_get}
use Rattle.atomic_table.specs.Seated.{TableId}
use Rattle.transfer_worker.specs.Boards.{AreNewPasses}
use Rattle.transfer_worker.specs.declared.board.BoardPass.{BoardPass}

get_middle : {A : Type 0} (ys : List A) (x : A) (r : List A) → slice_get (ys ++ x ∷ r) (length ys) ≡ Some x
get_middle [] x r = refl
get_middle (y ∷ ys) x r = get_middle ys x r

pub next_at : {A : Type 0} (all ys r : List A) (x : A) → ys ++ x ∷ r ≡ all → slice_get all (length ys) ≡ Some x
next_at all ys r x is = ap (λ l. slice_get l (length ys)) (sym is) ∙ get_middle ys x r

get_front : {A : Type 0} (xs ys : List A) (i : ℕ) (x : A) → slice_get xs i ≡ Some x → slice_get (xs ++ ys) i ≡ Some x
get_front [] ys i x e = absurd (cc)
get_front (y ∷ xs) ys zero x e = e
get_front (y ∷ xs) ys (suc i) x e = get_front xs ys i x e

pub first_left : {J : Type 0} (board : TableId) (old new rest : List (BoardPass J)) → old ≡ new ++ rest → AreNewPasses board (length old) old → AreNewPasses board (length new) new
first_left board old new rest is all = (refl, λ i p got. all.1 i p (ap (λ l. slice_get l i) is ∙ get_front new rest i p got))
