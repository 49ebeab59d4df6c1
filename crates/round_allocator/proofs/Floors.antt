-- What branches take in at level 0: the floors of their leaves.
use Rattle.std.proofs.Common.{◌≡◌, ℕ, zero, suc, ◌+◌, ◌≤◌, ◌<◌, List, length, refl, sym, ap, ◌∙◌, subst, arith, Option, Some, None}
use Rattle.std.specs.Prelude.{slice_get, slice_index}
use Rattle.limit_tree.specs.Outline.{limits, absorbed, cut}
use Rattle.limit_tree.specs.Flat.{IsRow, IsFlat, taken_in, taken_below}
use Rattle.limit_tree.specs.declared.place.NodeKind.{NodeKind}
use Rattle.limit_tree.specs.declared.place.NodeKind.TheVariants.{Branch, Leaf}
use Rattle.limit_tree.specs.declared.place.Place.{Place}
use Rattle.limit_tree.specs.declared.bounds.TheConstants.{MAX_WANT}
use Rattle.limit_tree.proofs.Hops.{absorbed-leaf, absorbed-branch, taken-more, row-last, same-node, taken_below-is}
use Rattle.round_allocator.specs.Levels.{IsBranchAt}
use Rattle.limit_tree.proofs.Rows.{leaf_numbers, sum_first, taken-floors}

-- at level 0 a node takes in its floors
abbrev AreFloors : List Place → ℕ → Type 0
AreFloors ps fuel = (k : ℕ) (p : Place) → slice_get ps k ≡ Some p → p.nodes ≤ fuel → absorbed 0 ps k + sum_first (limits ps).floors p.first ≡ sum_first (limits ps).floors (p.first + p.leaves)

row_floors : (ps : List Place) (fuel : ℕ) → IsFlat ps → AreFloors ps fuel → (n at first last past : ℕ) → IsRow ps at first n last past → last ≤ at + fuel → taken_in 0 ps at n + sum_first (limits ps).floors first ≡ sum_first (limits ps).floors past
row_floors ps fuel flat are zero at first last past row fits = omega (arith, ap (sum_first (limits ps).floors) row.1)
row_floors ps fuel flat are (suc n) at first last past row fits =
    let p = row.0 in
    let next = row-last ps (at + p.nodes) (first + p.leaves) n last past row.3 in
    let one = are at p row.1 (omega (arith, next)) in
    let from : sum_first (limits ps).floors p.first ≡ sum_first (limits ps).floors first = ap (sum_first (limits ps).floors) row.2 in
    let to : sum_first (limits ps).floors (p.first + p.leaves) ≡ sum_first (limits ps).floors (first + p.leaves) = ap (λ (x : ℕ). sum_first (limits ps).floors (x + p.leaves)) row.2 in
    omega (arith, one, from, to, taken-more 0 ps at n p flat.shaped row.1, row_floors ps fuel flat are n (at + p.nodes) (first + p.leaves) last past row.3 (omega arith))

-- the floor of a leaf is at most its want
leaf_floored : (ps : List Place) (k : ℕ) (p : Place) (want floor : ℕ) → IsFlat ps → slice_get ps k ≡ Some p → p.kind ≡ Leaf want floor → floor ≤ want
leaf_floored ps k p want floor flat got kind =
    let numbers = leaf_numbers ps k p want floor flat.shaped got kind in
    let one = (flat.shaped k p got).leaf want floor kind in
    let wanted = flat.limit_tree.floors.wanted in
    omega (arith, numbers.0, numbers.1, wanted.wants p.first (omega (arith, wanted.leaves, flat.bounded k p got, one.1)))

cut_above : (limit : Option ℕ) (x : ℕ) → ((most : ℕ) → limit ≡ Some most → x ≤ most) → cut limit x ≡ x
cut_above None x fits = refl
cut_above (Some most) x fits = let le = fits most refl in omega arith

kind_floors : (ps : List Place) (fuel : ℕ) → IsFlat ps → AreFloors ps fuel → (k : ℕ) (p : Place) → slice_get ps k ≡ Some p → p.nodes ≤ suc fuel → (kind : NodeKind) → p.kind ≡ kind → absorbed 0 ps k + sum_first (limits ps).floors p.first ≡ sum_first (limits ps).floors (p.first + p.leaves)
kind_floors ps fuel flat are k p got fits (Leaf want floor) is =
    let one = (flat.shaped k p got).leaf want floor is in
    let ends : p.first + p.leaves ≡ suc p.first = omega (arith, one.1) in
    let last : sum_first (limits ps).floors (p.first + p.leaves) ≡ sum_first (limits ps).floors (suc p.first) = ap (sum_first (limits ps).floors) ends in
    omega (arith, last, absorbed-leaf 0 ps k p want floor got is, (leaf_numbers ps k p want floor flat.shaped got is).1, leaf_floored ps k p want floor flat got is)
kind_floors ps fuel flat are k p got fits (Branch limit) is =
    let kids = row_floors ps fuel flat are p.kids (k + 1) p.first (k + p.nodes) (p.first + p.leaves) ((flat.shaped k p got).branch limit is) (omega arith) in
    let all : cut limit (taken_in 0 ps (k + 1) p.kids) ≡ taken_in 0 ps (k + 1) p.kids = cut_above limit (taken_in 0 ps (k + 1) p.kids)
    (λ most e. omega (arith, taken-floors ps k p most flat got (is ∙ ap Branch e), taken_below-is 0 ps k p got)) in
    omega (arith, kids, absorbed-branch 0 ps k p limit got is, all)

are_floors : (ps : List Place) (fuel : ℕ) → IsFlat ps → AreFloors ps fuel
are_floors ps zero flat = λ k p got fits. absurd (omega (arith, (flat.shaped k p got).some))
are_floors ps (suc fuel) flat = λ k p got fits. kind_floors ps fuel flat (are_floors ps fuel flat) k p got fits p.kind refl

-- so do the kids of a branch
pub below_floors : (ps : List Place) (k : ℕ) (p : Place) (limit : Option ℕ) → IsFlat ps → slice_get ps k ≡ Some p → p.kind ≡ Branch limit → taken_below 0 ps k + sum_first (limits ps).floors p.first ≡ sum_first (limits ps).floors (p.first + p.leaves)
below_floors ps k p limit flat got kind =
    let tree = flat.shaped k p got in
    omega (arith, row_floors ps p.nodes flat (are_floors ps p.nodes flat) p.kids (k + 1) p.first (k + p.nodes) (p.first + p.leaves) (tree.branch limit kind) (omega arith), taken_below-is 0 ps k p got)

-- no floor is above the largest want
pub floor_most : (ps : List Place) (i : ℕ) → IsFlat ps → i < length (limits ps).wants → slice_index (limits ps).floors i ≤ MAX_WANT
floor_most ps i flat less =
    let wanted = flat.limit_tree.floors.wanted in
    omega (arith, wanted.wants i (omega (arith, wanted.leaves)), flat.few_each i less)

-- the floors of a branch, summed, are what its kids take in
pub summed_floors : (ps qs : List Place) (k floors : ℕ) (p : Place) (limit : Option ℕ) → ps ≡ qs → IsFlat ps → slice_get ps k ≡ Some p → IsBranchAt qs k limit → floors + sum_first (limits ps).floors p.first ≡ sum_first (limits ps).floors (p.first + p.leaves) → floors ≡ taken_below 0 qs k
summed_floors ps qs k floors p limit same flat got at summed =
    let here : IsBranchAt ps k limit = subst (λ (us : List Place). IsBranchAt us k limit) (sym same) at in
    let kind : p.kind ≡ Branch limit = ap (λ (x : Place). x.kind) (same-node ps k p here.0 got here.1) ∙ here.2 in
    omega (arith, summed, below_floors ps k p limit flat got kind, ap (λ (us : List Place). taken_below 0 us k) same)
