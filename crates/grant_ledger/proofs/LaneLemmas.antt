use Rattle.std.proofs.Common.{◌≡◌, ◌<◌, ℕ, suc, zero, List, [], ◌∷◌, length, drop, get_or, set, refl, ap, ◌∙◌, subst, arith, drop-cons, Option, Some, None, IsSome, IfNone, true, false, is_some}
use Rattle.std.proofs.lemmas.List.{get_or-replicate}
use Rattle.grant_ledger.specs.Books.{by_lane, AreLanes, nothing_undrawn}

-- each lane of an entry is below 64
pub lanes_below : (ls : List ℕ) (i : ℕ) → AreLanes ls → i < length ls → get_or ls i 0 < 64
lanes_below [] i are h = absurd (omega (arith, h))
lanes_below (l ∷ ls) zero are h = are.0
lanes_below (l ∷ ls) (suc i) are h = lanes_below ls i are.2 (omega (arith, h))

-- the amounts of one lane more
pub by_lane_step : (ls gs : List ℕ) (i j : ℕ) → i ≡ suc j → j < length ls → length ls ≡ length gs
    → set (by_lane (drop i ls) (drop i gs)) (get_or ls j 0) (Some (get_or gs j 0)) ≡ by_lane (drop j ls) (drop j gs)
by_lane_step ls gs i j is h len = rw (is, drop-cons ls j 0 h, drop-cons gs j 0 (omega (arith, h, len))) refl

-- where something is undrawn there was an entry
pub some_tick : (tick : Option ℕ) (undrawn : List (Option ℕ)) (lane : ℕ) → lane < 64 → IfNone tick (undrawn ≡ nothing_undrawn)
    → IsSome (get_or undrawn lane None) → IsSome tick
some_tick (Some t) undrawn lane below inv some = refl
some_tick None undrawn lane below inv some =
    let e : get_or undrawn lane None ≡ None = ap (λ (u : List (Option ℕ)). get_or u lane None) inv ∙ get_or-replicate 64 lane None None below in
    absurd (let h : false ≡ true = subst (λ (o : Option ℕ). is_some o ≡ true) e some in cc)
