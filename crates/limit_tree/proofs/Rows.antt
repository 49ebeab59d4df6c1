-- Leaves by their numbers, and what rows take in at level 0.
use Rattle.std.proofs.Common.{◌≡◌, ℕ, zero, suc, ◌+◌, ◌≤◌, List, ◌∷◌, ◌++◌, length, take, drop, refl, sym, ap, ◌∙◌, arith, Option, Some, None}
use Rattle.std.specs.Prelude.{slice_get, slice_index}
use Rattle.std.specs.List.{cons_option}
use Rattle.std.specs.Option.{option_and_then}
use Rattle.std.proofs.Math.Seq.{get_or-append_seam}
use Rattle.std.proofs.lemmas.List.{take-append-drop}
use Rattle.std.proofs.lemmas.List.Elements.{filter_map-append}
use Rattle.limit_tree.specs.Sharing.{sum_below, sum_over, IsBranch}
use Rattle.limit_tree.specs.Outline.{limits, leaf_count, leaf_want, leaf_floor, leaf_range, branch_of, absorbed, cut}
use Rattle.limit_tree.specs.Flat.{IsRow, IsShaped, IsFlat, taken_in, taken_below}
use Rattle.limit_tree.specs.declared.place.NodeKind.{NodeKind}
use Rattle.limit_tree.specs.declared.place.NodeKind.TheVariants.{Branch, Leaf}
use Rattle.limit_tree.specs.declared.place.Place.{Place}
use Rattle.limit_tree.proofs.Sums.{sum_in}
use Rattle.limit_tree.proofs.RangeSums.{sum_in-range_none, sum_in-range_more, sum_in-range_all}
use Rattle.limit_tree.proofs.Leaves.{wants_in, floors_in, length-wants_in, length-floors_in}
use Rattle.limit_tree.proofs.Hops.{drop-at, absorbed-leaf, absorbed-branch, taken-more, row-last, taken_below-is}

-- the want and the floor of a leaf stand at its number
pub leaf_numbers : (ps : List Place) (k : ℕ) (p : Place) (want floor : ℕ) → IsShaped ps → slice_get ps k ≡ Some p → p.kind ≡ Leaf want floor → (slice_index (limits ps).wants p.first ≡ want) × (slice_index (limits ps).floors p.first ≡ floor)
leaf_numbers ps k p want floor shaped got kind = (
  ap (λ (ws : List ℕ). slice_index ws p.first) wants ∙ (ap (slice_index (wants_in (take k ps) ++ want ∷ wants_in rest)) (first ∙ sym (length-wants_in (take k ps))) ∙ get_or-append_seam (wants_in (take k ps)) want (wants_in rest) 0),
  ap (λ (fs : List ℕ). slice_index fs p.first) floors ∙ (ap (slice_index (floors_in (take k ps) ++ floor ∷ floors_in rest)) (first ∙ sym (length-floors_in (take k ps))) ∙ get_or-append_seam (floors_in (take k ps)) floor (floors_in rest) 0),
)
  where
    rest : List Place
    rest = drop (k + 1) ps

    first : p.first ≡ leaf_count (take k ps)
    first = (shaped k p got).first

    parts : ps ≡ take k ps ++ p ∷ rest
    parts = sym (take-append-drop k ps) ∙ ap (λ (qs : List Place). take k ps ++ qs) (drop-at ps k p got)

    wants : wants_in ps ≡ wants_in (take k ps) ++ want ∷ wants_in rest
    wants = ap wants_in parts ∙ (filter_map-append (λ (x : Place). leaf_want x.kind) (take k ps) (p ∷ rest) ∙ ap (λ (x : NodeKind). wants_in (take k ps) ++ cons_option (leaf_want x) (wants_in rest)) kind)

    floors : floors_in ps ≡ floors_in (take k ps) ++ floor ∷ floors_in rest
    floors = ap floors_in parts ∙ (filter_map-append (λ (x : Place). leaf_floor x.kind) (take k ps) (p ∷ rest) ∙ ap (λ (x : NodeKind). floors_in (take k ps) ++ cons_option (leaf_floor x) (floors_in rest)) kind)

-- the sum of the first numbers of a list
abbrev pub sum_first : List ℕ → ℕ → ℕ
sum_first g n = sum_below n (λ i. slice_index g i)

-- the sum over a range lies between those up to its ends
pub sum_over-ends : (first leaves : ℕ) (g : List ℕ) → first + leaves ≤ length g → sum_over (leaf_range first leaves) g + sum_first g first ≡ sum_first g (first + leaves)
sum_over-ends first leaves g fits = ap (λ (x : ℕ). x + sum_first g first) (sum_in-range_all first leaves (λ i. slice_index g i) (length g) fits) ∙ go leaves (omega arith)
  where
    go : (k : ℕ) → k ≤ leaves → sum_in (first + k) (leaf_range first leaves) (λ i. slice_index g i) + sum_first g first ≡ sum_first g (first + k)
    go zero l = let e : first + 0 ≡ first = omega arith in rw e (omega (arith, sum_in-range_none first leaves (λ i. slice_index g i) first (omega arith)))
    go (suc k) l =
        let next : first + suc k ≡ first + k + 1 = omega arith in
        let last : first + suc k ≡ suc (first + k) = omega arith in
        let more = sum_in-range_more first leaves (λ i. slice_index g i) (first + k) (omega arith) (omega arith) in
        let here : sum_in (first + suc k) (leaf_range first leaves) (λ i. slice_index g i) ≡ sum_in (first + k + 1) (leaf_range first leaves) (λ i. slice_index g i) = ap (λ (n : ℕ). sum_in n (leaf_range first leaves) (λ i. slice_index g i)) next in
        let there : sum_first g (first + suc k) ≡ sum_first g (suc (first + k)) = ap (sum_first g) last in
        omega (arith, here, more, go k (omega arith), there)

-- at level 0 a row takes in no more than its floors
abbrev AtMostFloors : List Place → ℕ → Type 0
AtMostFloors ps fuel = (k : ℕ) (p : Place) → slice_get ps k ≡ Some p → p.nodes ≤ fuel → absorbed 0 ps k + sum_first (limits ps).floors p.first ≤ sum_first (limits ps).floors (p.first + p.leaves)

row-floors : (ps : List Place) (fuel : ℕ) → IsShaped ps → AtMostFloors ps fuel → (n at first last past : ℕ) → IsRow ps at first n last past → last ≤ at + fuel → taken_in 0 ps at n + sum_first (limits ps).floors first ≤ sum_first (limits ps).floors past
row-floors ps fuel shaped most zero at first last past row fits = omega (arith, ap (sum_first (limits ps).floors) row.1)
row-floors ps fuel shaped most (suc n) at first last past row fits =
    let p = row.0 in
    let next = row-last ps (at + p.nodes) (first + p.leaves) n last past row.3 in
    let one = most at p row.1 (omega (arith, next)) in
    let from : sum_first (limits ps).floors p.first ≡ sum_first (limits ps).floors first = ap (sum_first (limits ps).floors) row.2 in
    let to : sum_first (limits ps).floors (p.first + p.leaves) ≡ sum_first (limits ps).floors (first + p.leaves) = ap (λ (x : ℕ). sum_first (limits ps).floors (x + p.leaves)) row.2 in
    omega (arith, one, from, to, taken-more 0 ps at n p shaped row.1, row-floors ps fuel shaped most n (at + p.nodes) (first + p.leaves) last past row.3 (omega arith))

kind-floors : (ps : List Place) (fuel : ℕ) → IsShaped ps → AtMostFloors ps fuel → (k : ℕ) (p : Place) → slice_get ps k ≡ Some p → p.nodes ≤ suc fuel → (kind : NodeKind) → p.kind ≡ kind → absorbed 0 ps k + sum_first (limits ps).floors p.first ≤ sum_first (limits ps).floors (p.first + p.leaves)
kind-floors ps fuel shaped most k p got fits (Leaf want floor) is =
    let one = (shaped k p got).leaf want floor is in
    let ends : p.first + p.leaves ≡ suc p.first = omega (arith, one.1) in
    let last : sum_first (limits ps).floors (p.first + p.leaves) ≡ sum_first (limits ps).floors (suc p.first) = ap (sum_first (limits ps).floors) ends in
    omega (arith, last, absorbed-leaf 0 ps k p want floor got is, (leaf_numbers ps k p want floor shaped got is).1)
kind-floors ps fuel shaped most k p got fits (Branch limit) is =
    let kids = row-floors ps fuel shaped most p.kids (k + 1) p.first (k + p.nodes) (p.first + p.leaves) ((shaped k p got).branch limit is) (omega arith) in
    omega (arith, kids, absorbed-branch 0 ps k p limit got is, cut-least limit (taken_in 0 ps (k + 1) p.kids))
  where
    cut-least : (limit : Option ℕ) (x : ℕ) → cut limit x ≤ x
    cut-least None x = omega arith
    cut-least (Some limit) x = omega arith

at_most-floors : (ps : List Place) (fuel : ℕ) → IsShaped ps → AtMostFloors ps fuel
at_most-floors ps zero shaped = λ k p got fits. absurd (omega (arith, (shaped k p got).some))
at_most-floors ps (suc fuel) shaped = λ k p got fits. kind-floors ps fuel shaped (at_most-floors ps fuel shaped) k p got fits p.kind refl

-- a node of the kind of a branch is one
pub is_branch : (ps : List Place) (k : ℕ) (p : Place) (most : ℕ) → slice_get ps k ≡ Some p → p.kind ≡ Branch (Some most) → IsBranch (limits ps) k (record { limit = Some most; holds = leaf_range p.first p.leaves })
is_branch ps k p most got kind = ap (option_and_then (λ (x : Place). branch_of x.kind x.first x.leaves)) got ∙ ap (λ (x : NodeKind). branch_of x p.first p.leaves) kind

-- so that the kids of a branch keep its limit at level 0
pub taken-floors : (ps : List Place) (k : ℕ) (p : Place) (most : ℕ) → IsFlat ps → slice_get ps k ≡ Some p → p.kind ≡ Branch (Some most) → taken_below 0 ps k ≤ most
taken-floors ps k p most flat got kind =
    let tree = flat.shaped k p got in
    let floors = (limits ps).floors in
    let within = flat.limit_tree.floors in
    let own : sum_over (leaf_range p.first p.leaves) floors ≤ most = within.limits k most (record { limit = Some most; holds = leaf_range p.first p.leaves }) (is_branch ps k p most got kind) refl in
    let kids = row-floors ps p.nodes flat.shaped (at_most-floors ps p.nodes flat.shaped) p.kids (k + 1) p.first (k + p.nodes) (p.first + p.leaves) (tree.branch (Some most) kind) (omega arith) in
    omega (arith, own, kids, taken_below-is 0 ps k p got, sum_over-ends p.first p.leaves floors (omega (arith, flat.bounded k p got, within.wanted.leaves)))
