-- Branches among the first nodes.
use Rattle.std.proofs.Common.{◌≡◌, ℕ, zero, suc, ◌+◌, ◌-◌, ◌^◌, ◌<◌, cond, not, List, [], ◌∷◌, ◌++◌, take, ap, ◌∙◌, arith, Option, Some}
use Rattle.std.specs.Prelude.{slice_get}
use Rattle.std.proofs.Math.Nat.{two-pow-succ}
use Rattle.std.proofs.lemmas.List.Sums.{sum_by-append, sum_by-cons}
use Rattle.limit_tree.specs.Outline.{is_leaf_kind}
use Rattle.limit_tree.specs.declared.place.NodeKind.{NodeKind}
use Rattle.limit_tree.specs.declared.place.NodeKind.TheVariants.{Branch, Leaf}
use Rattle.limit_tree.specs.declared.place.Place.{Place}
use Rattle.round_allocator.specs.Levels.{branch_count}

abbrev own_branches : NodeKind → ℕ
own_branches kind = cond (not (is_leaf_kind kind)) 1 0

abbrev branch_of_place : Place → ℕ
branch_of_place p = own_branches p.kind

take-at : (ps : List Place) (k : ℕ) (p : Place) → slice_get ps k ≡ Some p → take (k + 1) ps ≡ take k ps ++ p ∷ []
take-at [] k p e = absurd (cc)
take-at (x ∷ ps) zero p e = let same : x ≡ p = cc in ap (λ (y : Place). y ∷ []) same
take-at (x ∷ ps) (suc k) p e = let next : suc k + 1 ≡ suc (k + 1) = omega arith in ap (λ (n : ℕ). take n (x ∷ ps)) next ∙ ap (λ (qs : List Place). x ∷ qs) (take-at ps k p e)

branches-more : (ps : List Place) (k : ℕ) (p : Place) (kind : NodeKind) → slice_get ps k ≡ Some p → p.kind ≡ kind → branch_count (take (k + 1) ps) ≡ branch_count (take k ps) + own_branches kind
branches-more ps k p kind got is =
    ap branch_count (take-at ps k p got) ∙
    (sum_by-append branch_of_place (take k ps) (p ∷ []) ∙
    (let one : branch_count (p ∷ []) ≡ own_branches p.kind = omega (arith, sum_by-cons branch_of_place p []) in
    ap (λ (n : ℕ). branch_count (take k ps) + n) (one ∙ ap own_branches is)))

pub branches-branch : (ps : List Place) (k : ℕ) (p : Place) (limit : Option ℕ) → slice_get ps k ≡ Some p → p.kind ≡ Branch limit → branch_count (take (k + 1) ps) ≡ branch_count (take k ps) + 1
branches-branch ps k p limit got is = branches-more ps k p (Branch limit) got is

pub branches-leaf : (ps : List Place) (k : ℕ) (p : Place) (want floor : ℕ) → slice_get ps k ≡ Some p → p.kind ≡ Leaf want floor → branch_count (take (k + 1) ps) ≡ branch_count (take k ps)
branches-leaf ps k p want floor got is = omega (arith, branches-more ps k p (Leaf want floor) got is)

-- after one step fewer
pub halve : (step : ℕ) → step < 32 → 2 ^ (32 - step) ≡ 2 ^ (32 - (step + 1)) + 2 ^ (32 - (step + 1))
halve step less =
    let next : 32 - step ≡ suc (32 - (step + 1)) = omega arith in
    ap (λ (n : ℕ). 2 ^ n) next ∙ two-pow-succ (32 - (step + 1))
