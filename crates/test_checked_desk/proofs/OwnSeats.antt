-- The seats of a desk, one of which is put back.
use Rattle.std.proofs.Common.{◌≡◌, ◌≢◌, ℕ, zero, suc, List, [], ◌∷◌, set, sym, refl, ap, ◌∙◌, subst, length-set}
use Rattle.std.specs.Prelude.{Some, slice_get}
use mathlib.Core.Logic.{dite}
use native.Mathlib.Decide.{ℕ_discrete}
use Rattle.atomic_table.specs.Seated.{TableId}
use Rattle.lane_desk.specs.declared.seat.LaneSeat.{LaneSeat}
use Rattle.lane_desk.specs.Seats.{IsSameSeat}
use Rattle.lane_desk.specs.Open.{AreFresh}
use Rattle.lane_desk.specs.AllLanes.{AreSeats}
use Rattle.lane_desk.proofs.AllLanes.{some_is}

get_set_here : {A : Type 0} (l : List A) (i : ℕ) (a b : A) → slice_get (set l i a) i ≡ Some b → a ≡ b
get_set_here [] zero a b e = absurd (cc)
get_set_here [] (suc i) a b e = absurd (cc)
get_set_here (x ∷ xs) zero a b e = some_is a b e
get_set_here (x ∷ xs) (suc i) a b e = get_set_here xs i a b e

get_set_else : {A : Type 0} (l : List A) (i j : ℕ) (a : A) → j ≢ i → slice_get (set l i a) j ≡ slice_get l j
get_set_else [] i j a ne = refl
get_set_else (x ∷ xs) zero zero a ne = absurd (ne refl)
get_set_else (x ∷ xs) zero (suc j) a ne = refl
get_set_else (x ∷ xs) (suc i) zero a ne = refl
get_set_else (x ∷ xs) (suc i) (suc j) a ne = get_set_else xs i j a (λ e. ne (ap suc e))

module _ {N : Type 0} where
  pub fresh_are : (z : TableId) (n : ℕ) (seats : List (LaneSeat N)) → AreFresh z n seats → AreSeats z n seats
  fresh_are z n seats are = (are.0, λ i s e. let k = are.1 i s e in (k.0, k.1))

  pub seat_at : (z : TableId) (n : ℕ) (seats : List (LaneSeat N)) (i : ℕ) (s : LaneSeat N) → AreSeats z n seats → slice_get seats i ≡ Some s → (s.seat.table_id ≡ z) × (s.lane ≡ i)
  seat_at z n seats i s are there = let k = are.1 i s there in (k.1, k.0)

  pub set_are : (z : TableId) (n : ℕ) (seats : List (LaneSeat N)) (i : ℕ) (s t : LaneSeat N) → AreSeats z n seats → slice_get seats i ≡ Some s → IsSameSeat s t → AreSeats z n (set seats i t)
  set_are z n seats i s t are there same = (
    length-set seats i t ∙ are.0,
    λ j u e. dite (ℕ_discrete j i)
        (λ here. let is : t ≡ u = get_set_here seats i t u (ap (λ k. slice_get (set seats i t) k) (sym here) ∙ e) in
        let k = are.1 i s there in subst (λ (v : LaneSeat N). (v.lane ≡ j) × (v.seat.table_id ≡ z)) is (same.1 ∙ k.0 ∙ sym here, same.0 ∙ k.1))
        (λ else. are.1 j u (sym (get_set_else seats i j t else) ∙ e)),
  )
