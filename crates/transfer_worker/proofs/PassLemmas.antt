-- Passes, one after another.
use Rattle.std.proofs.Common.{◌≡◌, ℕ, zero, suc, ◌+◌, List, [], ◌∷◌, ◌++◌, ap, ◌∙◌, subst, ◌⊎◌, inl, inr, ⊎_elim, length-append}
use Rattle.std.specs.Prelude.{Option, Some, None, slice_get}
use Rattle.atomic_table.specs.Seated.{TableId}
use Rattle.transfer_worker.specs.declared.board.BoardPass.{BoardPass}
use Rattle.transfer_worker.specs.Order.{hand}
use Rattle.transfer_worker.specs.Boards.{done_by, AreNewPasses}

module _ {A : Type 0} where
  value_or : A → Option A → A
  value_or d None = d
  value_or d (Some y) = y

  get_end : (l : List A) (a b : A) (j : ℕ) → slice_get (l ++ a ∷ []) j ≡ Some b → (slice_get l j ≡ Some b) ⊎ (a ≡ b)
  unfolding value_or
  get_end [] a b zero e = inr (ap (λ (o : Option A). value_or a o) e)
  get_end [] a b (suc j) e = absurd (cc)
  get_end (x ∷ xs) a b zero e = inl e
  get_end (x ∷ xs) a b (suc j) e = get_end xs a b j e

module _ {J : Type 0} where
  pub new_more : (z : TableId) (n : ℕ) (passes : List (BoardPass J)) (p : BoardPass J) → AreNewPasses z n passes → p.pass.table_id ≡ z → done_by p ≡ hand [] [] → AreNewPasses z (n + 1) (passes ++ p ∷ [])
  new_more z n passes p k a b = (
    length-append passes (p ∷ []) ∙ ap (λ (x : ℕ). x + 1) k.0,
    λ i x e. ⊎_elim (λ old. k.1 i x old) (λ (is : p ≡ x). subst (λ (y : BoardPass J). (y.pass.table_id ≡ z) × (done_by y ≡ hand [] [])) is (a, b)) (get_end passes p x i e),
  )
