-- The asks in the order of the leaves are those of their lanes.
use Rattle.std.proofs.Common.{◌≡◌, ◌<◌, ℕ, zero, suc, List, [], ◌∷◌, length, map, get_or, refl, ap, ◌∙◌, sym, subst, arith, Option, Some}
use Rattle.std.specs.Prelude.{IsPermutation, slice_get}
use Rattle.std.specs.List.{All}
use Rattle.std.proofs.lemmas.List.Sorted.{All-permutation}
use Rattle.std.proofs.lemmas.Option.{slice_get-get_or, slice_get_within}
use Rattle.line_rates.specs.TickTree.{Asker, lane_in}
use Rattle.line_rates.specs.declared.share_by.ShareBy.{ShareBy}
use Rattle.rate_plan.specs.Asked.{AreAsked}
use Rattle.rate_plan.specs.declared.asks.Transfer.{Transfer}

-- the ask is at the place of its lane
abbrev pub IsInPlace : List Asker → Asker → Type 0
IsInPlace asks x = slice_get asks x.0 ≡ Some x

some_same : {X : Type 0} (x y : X) → Some x ≡ Some y → x ≡ y
some_same x y e = cc

in_place_at : (by : ShareBy) (ts : List Transfer) (asks : List Asker) → AreAsked by ts asks → (k : ℕ) (d : Asker) → k < length asks → IsInPlace asks (get_or asks k d)
in_place_at by ts asks asked k d less =
    let at = slice_get-get_or asks k d less in
    let ask = asked.each k (get_or asks k d) at in
    let lane : (get_or asks k d).0 ≡ k = ap (λ (x : Asker). x.0) ask.2 in
    ap (slice_get asks) lane ∙ at

pub in_place : (by : ShareBy) (ts : List Transfer) (asks order : List Asker) → AreAsked by ts asks → IsPermutation asks order → All (IsInPlace asks) order
in_place by ts asks order asked p = All-permutation (IsInPlace asks) asks order p (in_place_at by ts asks asked)

mapped_in_place : (asks order : List Asker) → All (IsInPlace asks) order → map (λ lane. slice_get asks lane) (map lane_in order) ≡ map (λ ask. Some ask) order
mapped_in_place asks [] all = refl
mapped_in_place asks (x ∷ order) all =
    ap (λ (o : Option Asker). o ∷ map (λ lane. slice_get asks lane) (map lane_in order)) (all 0 x (omega arith))
    ∙ ap (λ os. Some x ∷ os) (mapped_in_place asks order (λ k d less. all (suc k) d (omega arith)))

some_injective : (xs ys : List Asker) → map (λ ask. Some ask) xs ≡ map (λ ask. Some ask) ys → xs ≡ ys
some_injective [] [] e = refl
some_injective [] (y ∷ ys) e = absurd (cc)
some_injective (x ∷ xs) [] e = absurd (cc)
some_injective (x ∷ xs) (y ∷ ys) e =
    let one : x ≡ y = cc in
    let more : map (λ ask. Some ask) xs ≡ map (λ ask. Some ask) ys = cc in
    ap (λ (z : Asker). z ∷ xs) one ∙ ap (λ zs. y ∷ zs) (some_injective xs ys more)

-- two orders of the same lanes are the same
pub same_order : (by : ShareBy) (ts : List Transfer) (asks order made : List Asker) (lanes : List ℕ) → AreAsked by ts asks → IsPermutation asks order → lanes ≡ map lane_in order → map (λ lane. slice_get asks lane) lanes ≡ map (λ ask. Some ask) made → made ≡ order
same_order by ts asks order made lanes asked p same found =
    some_injective made order (sym found ∙ (ap (map (λ lane. slice_get asks lane)) same ∙ mapped_in_place asks order (in_place by ts asks order asked p)))

lane_within : (asks order : List Asker) → All (IsInPlace asks) order → All (λ (x : Asker). x.0 < length asks) order
lane_within asks order all = λ k d less. slice_get_within asks (get_or order k d).0 (get_or order k d) (all k d less)

mapped_all : (bound : ℕ) (order : List Asker) → ((k : ℕ) (d : Asker) → k < length order → (get_or order k d).0 < bound) → (k d : ℕ) → k < length (map lane_in order) → get_or (map lane_in order) k d < bound
mapped_all bound [] all k d less = absurd (omega arith)
mapped_all bound (x ∷ order) all zero d less = all 0 x (omega arith)
mapped_all bound (x ∷ order) all (suc k) d less = mapped_all bound order (λ j e l. all (suc j) e (omega arith)) k d (omega arith)

-- each lane of a plan is one of an ask
pub lanes_within : (by : ShareBy) (ts : List Transfer) (asks order : List Asker) (lanes : List ℕ) → AreAsked by ts asks → IsPermutation asks order → lanes ≡ map lane_in order → All (λ lane. lane < length asks) lanes
lanes_within by ts asks order lanes asked p same =
    subst (All (λ lane. lane < length asks)) (sym same) (mapped_all (length asks) order (lane_within asks order (in_place by ts asks order asked p)))
