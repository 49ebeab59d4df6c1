-- How a desk begins.
use Rattle.std.proofs.Common.{◌≡◌, ℕ, zero, suc, ◌+◌, ◌<◌, ◌≤◌, ◌⊎◌, inl, inr, ⊎_elim, List, [], ◌∷◌, ◌++◌, length, get_or, replicate, sym, refl, ap, ◌∙◌, subst, arith, length-append}
use Rattle.std.specs.Prelude.{Option, Some, None, slice_get}
use lib.ListN.{length-replicate}
use Rattle.atomic_table.specs.Table.{Me, Splits, opening}
use Rattle.atomic_table.specs.Seated.{TableId}
use Rattle.desk_rule.specs.declared.view.LaneSlot.{LaneSlot}
use Rattle.desk_rule.specs.declared.view.LaneSlot.TheVariants.{Blank}
use Rattle.desk_rule.specs.declared.view.DeskView.{DeskView}
use Rattle.desk_rule.specs.declared.view.DeskView.TheVariants.{Round}
use Rattle.lane_desk.specs.declared.seat.LaneSeat.{LaneSeat}
use Rattle.desk_rule.specs.Lanes.{fresh, untraced, first_round, posted_in}
use Rattle.desk_rule.specs.Steps.{Ran}
use Rattle.desk_rule.specs.Lanes as spec
use Rattle.lane_desk.specs.Seats.{seat_view}
use Rattle.lane_desk.specs.Begun.{dealt_round}
use Rattle.desk_rule.specs.declared.view.TraceView.{TraceView}
use Rattle.lane_desk.specs.Posted.{AllAnswered}
use Rattle.lane_desk.specs.Open.{AreFresh}
use Rattle.desk_rule.proofs.Keeps.{deals, opens, at_replicate, posted_none}

pub get_end : {A : Type 0} (l : List A) (a b : A) (j : ℕ) → slice_get (l ++ a ∷ []) j ≡ Some b → (slice_get l j ≡ Some b) ⊎ ((j ≡ length l) × (a ≡ b))
get_end [] a b zero e = inr (refl, some_is a b e)
  where
    some_is : {A : Type 0} (x y : A) → Some x ≡ Some y → x ≡ y
    some_is x y e = ap (λ o. value_or x o) e
      where
        value_or : {A : Type 0} → A → Option A → A
        value_or d None = d
        value_or d (Some y) = y
get_end [] a b (suc j) e = absurd (cc)
get_end (x ∷ xs) a b zero e = inl e
get_end (x ∷ xs) a b (suc j) e = ⊎_elim inl (λ (t : (j ≡ length xs) × (a ≡ b)). inr (ap suc t.0, t.1)) (get_end xs a b j e)

module _ {N : Type 0} where
  pub fresh_more : (z : TableId) (n : ℕ) (seats : List (LaneSeat N)) (s : (LaneSeat N)) → AreFresh z n seats → s.lane ≡ n → s.seat.table_id ≡ z → seat_view s ≡ fresh → AreFresh z (n + 1) (seats ++ s ∷ [])
  fresh_more z n seats s k a b c = (
    length-append seats (s ∷ []) ∙ ap (λ (x : ℕ). x + 1) k.0,
    λ i x e. ⊎_elim (k.1 i x) (λ (t : (i ≡ length seats) × (s ≡ x)). subst (λ (y : (LaneSeat N)). (y.lane ≡ i) × (y.seat.table_id ≡ z) × (seat_view y ≡ fresh)) t.1 (a ∙ sym k.0 ∙ sym t.0, b, c)) (get_end seats s x i e),
  )

  pub deals_of : (id : ℕ) (m : (Me (LaneSlot N) DeskView)) (k i : ℕ) → i < k → m ≡ (Round (dealt_round k i), []) → Splits (Ran {N = N}) id m.0 (spec.dealer_after m.0) (spec.dealt_to m.0)
  deals_of id m k i near is = deals id m.0 (dealt_round k i) (ap (λ x. x.0) is) (let e = length-replicate k untraced in omega arith)

abbrev pub zeros : ℕ → List ℕ
zeros n = replicate n 0

pub no_word : (n i : ℕ) → get_or (zeros n) i 0 ≡ 0
no_word zero i = refl
no_word (suc n) zero = refl
no_word (suc n) (suc i) = no_word n i

module _ {N : Type 0} where
  pub opens_with : (ws : List ℕ) (xs : List (LaneSlot N)) (k n : ℕ) → k ≤ n → ws ≡ zeros n → xs ≡ replicate k Blank → Ran (opening ws xs (Round (first_round k)))
  opens_with ws xs k n wide a b =
      opens ws xs k (ap length b ∙ length-replicate k Blank) (omega (arith, ap length a, length-replicate {A = ℕ} n 0)) (λ i near. ap (λ (w : List ℕ). get_or w i 0) a ∙ no_word n i)
      (λ i near. subst (λ (y : List (LaneSlot N)). lib.ListN.get_elem? y i ≡ mathlib.Core.Option.some Blank) (sym b) (at_replicate k i Blank near))

-- on no lane an ask was collected
pub even_at : (n i : ℕ) → length (get_or (replicate n untraced) i untraced).collected ≡ length (get_or (replicate n untraced) i untraced).posted
even_at zero zero = refl
even_at zero (suc i) = refl
even_at (suc n) zero = refl
even_at (suc n) (suc i) = even_at n i

pub begun : (n : ℕ) (ts : List TraceView) → ts ≡ replicate n untraced → AllAnswered ts × (posted_in ts ≡ 0)
begun n ts is = subst (λ (us : List TraceView). AllAnswered us × (posted_in us ≡ 0)) (sym is) ((λ i near. even_at n i), posted_none n)
