-- Asks in the order of the leaves are those of their lanes.
use Rattle.std.proofs.Common.{◌≡◌, ◌<◌, ◌+◌, ℕ, zero, suc, List, [], ◌∷◌, length, map, get_or, refl, ap, ◌∙◌, sym, subst, arith, Option, Some, None}
use Rattle.std.specs.Prelude.{IsPermutation, slice_get}
use Rattle.std.specs.List.{All}
use Rattle.std.proofs.lemmas.List.Sorted.{All-permutation}
use Rattle.std.proofs.lemmas.Option.{get_or_from_slice_get, slice_get-get_or, slice_get_within}
use Rattle.line_rates.specs.TickTree.{Asker, ask_in, lane_in}
use Rattle.line_rates.specs.declared.ask.Ask.{Ask}
use Rattle.ask_shares.specs.Leaves.{AreNumbered}

-- the ask is at the place of its lane
abbrev pub IsInPlace : List Ask → Asker → Type 0
IsInPlace asks x = slice_get asks x.0 ≡ Some x.1

pub all_at : {X : Type 0} (P : X → Type 0) (xs : List X) (i : ℕ) (x : X) → All P xs → slice_get xs i ≡ Some x → P x
all_at P xs i x all at = subst P (get_or_from_slice_get xs i x x at) (all i x (slice_get_within xs i x at))

in_place_at : (asks : List Ask) (numbered : List Asker) → AreNumbered asks numbered → (k : ℕ) (d : Asker) → k < length numbered → IsInPlace asks (get_or numbered k d)
in_place_at asks numbered are k d less =
    let ask = are.each k (get_or numbered k d) (slice_get-get_or numbered k d less) in
    ap (slice_get asks) ask.0 ∙ ask.1

pub in_place : (asks : List Ask) (numbered order : List Asker) → AreNumbered asks numbered → IsPermutation numbered order → All (IsInPlace asks) order
in_place asks numbered order are p = All-permutation (IsInPlace asks) numbered order p (in_place_at asks numbered are)

mapped_in_place : (asks : List Ask) (order : List Asker) → All (IsInPlace asks) order → map (λ lane. slice_get asks lane) (map lane_in order) ≡ map (λ ask. Some ask) (map ask_in order)
mapped_in_place asks [] all = refl
mapped_in_place asks (x ∷ order) all =
    ap (λ (o : Option Ask). o ∷ map (λ lane. slice_get asks lane) (map lane_in order)) (all 0 x (omega arith))
    ∙ ap (λ os. Some x.1 ∷ os) (mapped_in_place asks order (λ k d less. all (suc k) d (omega arith)))

some_injective : (xs ys : List Ask) → map (λ ask. Some ask) xs ≡ map (λ ask. Some ask) ys → xs ≡ ys
some_injective [] [] e = refl
some_injective [] (y ∷ ys) e = absurd (cc)
some_injective (x ∷ xs) [] e = absurd (cc)
some_injective (x ∷ xs) (y ∷ ys) e =
    let one : x ≡ y = cc in
    let more : map (λ ask. Some ask) xs ≡ map (λ ask. Some ask) ys = cc in
    ap (λ (z : Ask). z ∷ xs) one ∙ ap (λ zs. y ∷ zs) (some_injective xs ys more)

-- the asks at the lanes of an order are those of the order
pub same_order : (asks : List Ask) (numbered order : List Asker) (made : List Ask) (lanes : List ℕ) → AreNumbered asks numbered → IsPermutation numbered order → lanes ≡ map lane_in order → map (λ lane. slice_get asks lane) lanes ≡ map (λ ask. Some ask) made → made ≡ map ask_in order
same_order asks numbered order made lanes are p same found =
    some_injective made (map ask_in order) (sym found ∙ (ap (map (λ lane. slice_get asks lane)) same ∙ mapped_in_place asks order (in_place asks numbered order are p)))

mapped_all : (bound : ℕ) (order : List Asker) → ((k : ℕ) (d : Asker) → k < length order → (get_or order k d).0 < bound) → (k d : ℕ) → k < length (map lane_in order) → get_or (map lane_in order) k d < bound
mapped_all bound [] all k d less = absurd (omega arith)
mapped_all bound (x ∷ order) all zero d less = all 0 x (omega arith)
mapped_all bound (x ∷ order) all (suc k) d less = mapped_all bound order (λ j e l. all (suc j) e (omega arith)) k d (omega arith)

-- each lane of an order is the place of an ask
pub lanes_within : (asks : List Ask) (numbered order : List Asker) (lanes : List ℕ) → AreNumbered asks numbered → IsPermutation numbered order → lanes ≡ map lane_in order → All (λ lane. lane < length asks) lanes
lanes_within asks numbered order lanes are p same =
    let all = in_place asks numbered order are p in
    subst (All (λ lane. lane < length asks)) (sym same) (mapped_all (length asks) order (λ k d less. slice_get_within asks (get_or order k d).0 (get_or order k d).1 (all k d less)))
