-- How workers are gathered, one behind another.
use Rattle.std.proofs.Common.{◌≡◌, ℕ, ◌+◌, ⊎_elim, List, [], ◌∷◌, ◌++◌, length, sym, refl, ap, ◌∙◌, subst, arith}
use Rattle.atomic_table.specs.Seated.{TableId}
use Rattle.std.proofs.lemmas.List.Sums.{sum_by_push}
use Rattle.lane_desk.specs.Workers.{AreWorkers, moved_by_all}
use Rattle.lane_desk.specs.declared.worked.Worked.{Worked}
use Rattle.lent_parts.specs.declared.name.PartsName.{Ghosts}
use Rattle.lent_parts.specs.declared.worker.LentWorker.{LentWorker}
use Rattle.lent_parts.specs.Reported.{moved_by_lent}
use Rattle.lane_desk.proofs.Opening.{get_end}

module _ {N : Type 0} where
  pub worker_more : (z : TableId) (ws : List (Worked N)) (w : (Worked N)) → AreWorkers z (length ws) ws → w.seat.lane ≡ length ws → w.seat.seat.table_id ≡ z → AreWorkers z (length (ws ++ w ∷ [])) (ws ++ w ∷ [])
  worker_more z ws w k a b = (
    refl,
    λ i x e. ⊎_elim (k.1 i x) (λ (t : (i ≡ length ws) × (w ≡ x)). subst (λ (y : (Worked N)). (y.seat.lane ≡ i) × (y.seat.seat.table_id ≡ z)) t.1 (a ∙ sym t.0, b)) (get_end ws w x i e),
  )

-- what they tell as moved is passed on with them
module _ {B N : Type 0} {names : Ghosts B} where
  pub moved_passed : (gs gs' : List (Worked N)) (g : Worked N) (ws ws' : List (LentWorker B N names)) (w : LentWorker B N names) (all : ℕ)
      → gs' ≡ gs ++ g ∷ [] → ws ≡ ws' ++ w ∷ [] → g.tally.moved ≡ w.tally.moved → moved_by_all gs + moved_by_lent ws ≡ all → moved_by_all gs' + moved_by_lent ws' ≡ all
  moved_passed gs gs' g ws ws' w all more fewer same before =
      omega (arith, ap moved_by_all more, sum_by_push (λ (x : Worked N). x.tally.moved) gs g, ap moved_by_lent fewer, sum_by_push (λ (x : LentWorker B N names). x.tally.moved) ws' w, same, before)
