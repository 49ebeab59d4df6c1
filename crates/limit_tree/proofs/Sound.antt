-- A tree without a fault is a limit tree.
use Rattle.std.proofs.Common.{◌≡◌, ℕ, zero, suc, ◌+◌, ◌<◌, ◌≤◌, ◌^◌, Bool, true, false, List, [], ◌∷◌, length, get_or, take, drop, sum, refl, sym, ap, ◌∙◌, subst, arith, Option, Some, None, length-drop}
use Rattle.std.specs.Prelude.{slice_get, slice_index, nat_lt, if◌then◌else◌}
use Rattle.std.specs.Option.{option_map}
use Rattle.std.proofs.lemmas.Bool.{ltb-false}
use Rattle.std.proofs.lemmas.List.Sums.{sum_by_more}
use Rattle.std.proofs.lemmas.List.{get_or-drop}
use Rattle.limit_tree.specs.Sharing.{IsLimited, sum_over, IsLimitTree}
use Rattle.limit_tree.specs.Outline.{leaf_count, floor_sum, leaf_range, limits, places}
use Rattle.limit_tree.specs.Faults.{or_else, over_limit, first_over, first_fault, tree_fault, IsSound}
use Rattle.limit_tree.specs.declared.place.NodeKind.{NodeKind}
use Rattle.limit_tree.specs.declared.place.NodeKind.TheVariants.{Branch, Leaf}
use Rattle.limit_tree.specs.declared.place.Place.{Place}
use Rattle.limit_tree.specs.declared.node.Node.{Node}
use Rattle.limit_tree.specs.declared.fault.TreeFault.{TreeFault}
use Rattle.limit_tree.specs.declared.fault.TreeFault.TheVariants.{FloorsOverLimit}
use Rattle.limit_tree.specs.declared.bounds.TheConstants.{MAX_NODES, MAX_LEAVES}
use Rattle.limit_tree.proofs.Sums.{sum_in, sum_in-same}
use Rattle.limit_tree.proofs.RangeSums.{sum_in-range_none, sum_in-range_more, sum_in-range_all}
use Rattle.limit_tree.proofs.Leaves.{floors_in, length-floors_in, length-wants_in, sum-floors_in, few_octets, or_else-parts, sound_leaves, AreSoundLeaves}
use Rattle.limit_tree.proofs.Nested.{ordered-tree, summed-tree, IsOrdered, IsSummed, branch_place, IsPlaceOf, branches_are_nested, later_is_inside}

-- the sum over a range is that of the list's part
sum_in-part : (first leaves : ℕ) (g : List ℕ) → first + leaves ≤ length g → sum_in (first + leaves) (leaf_range first leaves) (λ i. slice_index g i) ≡ sum (take leaves (drop first g))
sum_in-part first leaves g fits = go leaves (omega arith)
  where
    go : (k : ℕ) → k ≤ leaves → sum_in (first + k) (leaf_range first leaves) (λ i. slice_index g i) ≡ sum (take k (drop first g))
    go zero l = let e : first + 0 ≡ first = omega arith in rw e (sum_in-range_none first leaves (λ i. slice_index g i) first (omega arith))
    go (suc k) l =
        let next : first + suc k ≡ first + k + 1 = omega arith in
        let after : suc k ≡ k + 1 = omega arith in
        let here : get_or (drop first g) k 0 ≡ slice_index g (first + k) = get_or-drop first g k 0 in
        let more : sum (take (k + 1) (drop first g)) ≡ sum (take k (drop first g)) + get_or (drop first g) k 0 = sum_by_more (λ x. x) (drop first g) k 0 (omega (arith, length-drop first g)) in
        ap (λ (n : ℕ). sum_in n (leaf_range first leaves) (λ i. slice_index g i)) next ∙
        (sum_in-range_more first leaves (λ i. slice_index g i) (first + k) (omega arith) (omega arith) ∙
        (ap (λ (x : ℕ). x + slice_index g (first + k)) (go k (omega arith)) ∙
        (ap (λ (x : ℕ). sum (take k (drop first g)) + x) (sym here) ∙
        (sym more ∙ ap (λ (n : ℕ). sum (take n (drop first g))) (sym after)))))

-- the grants of a range of leaves add up to what the list's part does
pub sum_over-range : (first leaves : ℕ) (g : List ℕ) → first + leaves ≤ length g → sum_over (leaf_range first leaves) g ≡ sum (take leaves (drop first g))
sum_over-range first leaves g fits = sum_in-range_all first leaves (λ i. slice_index g i) (length g) fits ∙ sum_in-part first leaves g fits

no_option : {X Y : Type 0} (f : X → Y) (o : Option X) → option_map f o ≡ None → o ≡ None
no_option f None e = refl
no_option f (Some x) e = absurd (cc)

-- no branch of the outline is over its limit
none_over : (n : ℕ) (ps : List Place) → first_over n ps ≡ None → (k : ℕ) (p : Place) → slice_get ps k ≡ Some p → (m : ℕ) → over_limit m p.floors p.kind ≡ None
none_over n [] e k p got m = absurd (cc)
none_over n (x ∷ ps) e zero p got m =
    let own = or_else-parts (over_limit n x.floors x.kind) (first_over (n + 1) ps) e in
    subst (λ (y : Place). over_limit m y.floors y.kind ≡ None) (is_first got) (none_at n m x.floors x.kind own.0)
  where
    is_first : slice_get (x ∷ ps) 0 ≡ Some p → x ≡ p
    is_first got = cc

    none_at : (n m floors : ℕ) (k : NodeKind) → over_limit n floors k ≡ None → over_limit m floors k ≡ None
    none_at n m floors (Leaf want floor) e = refl
    none_at n m floors (Branch None) e = refl
    none_at n m floors (Branch (Some limit)) e = go (nat_lt limit floors) e
      where
        go : (b : Bool) → (if b then Some n else None) ≡ None → (if b then Some m else None) ≡ None
        go true e = absurd (cc)
        go false e = refl
none_over n (x ∷ ps) e (suc k) p got m =
    let parts = or_else-parts (over_limit n x.floors x.kind) (first_over (n + 1) ps) e in
    none_over (n + 1) ps parts.1 k p got m

within_limit : (m floors limit : ℕ) → over_limit m floors (Branch (Some limit)) ≡ None → floors ≤ limit
within_limit m floors limit e = ltb-false limit floors (go (nat_lt limit floors) e)
  where
    go : (b : Bool) → (if b then Some m else None) ≡ None → b ≡ false
    go true e = absurd (cc)
    go false e = refl

-- the floors keep each limit
floors-limited : (outline : List Place) → IsOrdered outline (leaf_count outline) → IsSummed outline → first_over 0 outline ≡ None → IsLimited (limits outline) (floors_in outline)
floors-limited outline ordered summed none k most b is limited =
    let at : IsPlaceOf outline k b = branch_place outline k b is in
    let kind : at.place.kind ≡ Branch (Some most) = at.kind ∙ ap Branch limited in
    let fits : at.place.floors ≤ most = within_limit 0 at.place.floors most (subst (λ (o : NodeKind). over_limit 0 at.place.floors o ≡ None) kind (none_over 0 outline none k at.place at.found 0)) in
    let range : at.place.first + at.place.leaves ≤ length (floors_in outline) = omega (arith, ordered.bounded k at.place at.found, length-floors_in outline) in
    let part : sum_over b.holds (floors_in outline) ≡ at.place.floors =
    sum_in-same (length (floors_in outline)) b.holds (leaf_range at.place.first at.place.leaves) (λ i. slice_index (floors_in outline) i) at.holds ∙
    (sum_over-range at.place.first at.place.leaves (floors_in outline) range ∙ sym (summed k at.place at.found)) in
    omega (arith, fits, part)

pub sound_tree : {A : Type 0} (n : Node A) → tree_fault (places n) ≡ None → IsLimitTree (limits (places n))
sound_tree n sound =
    let outline = places n in
    let parts = or_else-parts (first_fault 0 0 0 outline) (option_map FloorsOverLimit (first_over 0 outline)) sound in
    let leaves : AreSoundLeaves (limits outline).wants (limits outline).floors = sound_leaves 0 0 0 outline parts.0 in
    let none : first_over 0 outline ≡ None = no_option FloorsOverLimit (first_over 0 outline) parts.1 in
    record {
      branches = branches_are_nested outline (ordered-tree n);
      floors = record {
        wanted = record { leaves = leaves.lengths; wants = leaves.floored };
        floors = λ i l. omega arith;
        limits = floors-limited outline (ordered-tree n) (summed-tree n) none;
      };
    }

pub no_fault-tree : (outline : List Place) → first_fault 0 0 0 outline ≡ None → first_over 0 outline ≡ None → tree_fault outline ≡ None
no_fault-tree outline first over =
    ap (λ (o : Option TreeFault). or_else o (option_map FloorsOverLimit (first_over 0 outline))) first ∙ ap (option_map FloorsOverLimit) over

pub sound_outline : {A : Type 0} (n : Node A) (nodes leaves : ℕ) → first_fault 0 0 0 (places n) ≡ None → first_over 0 (places n) ≡ None → nodes ≡ length (places n) → leaves ≡ leaf_count (places n) → nodes ≤ MAX_NODES → leaves ≤ MAX_LEAVES → IsSound (places n) nodes leaves
sound_outline n nodes leaves first over count leaf few_nodes few_leaves =
    let outline = places n in
    let sound = no_fault-tree outline first over in
    let own : AreSoundLeaves (limits outline).wants (limits outline).floors = sound_leaves 0 0 0 outline first in
    record {
      sound = sound;
      nodes_are = count;
      leaves_are = leaf;
      few_nodes = few_nodes;
      few_leaves = few_leaves;
      wants_are = omega (arith, leaf, length-wants_in outline);
      few_octets = omega (arith, few_octets outline first, leaf);
      few_floors = own.sums;
      bounded = λ k p got. omega (arith, (ordered-tree n).bounded k p got, leaf);
      limit_tree = sound_tree n sound;
      later = later_is_inside outline (ordered-tree n);
    }

-- the floors of a tree without a fault are few
pub few_floors : (outline : List Place) → first_fault 0 0 0 outline ≡ None → leaf_count outline ≤ MAX_LEAVES → floor_sum outline < 2 ^ 63
few_floors outline first few =
    let own : AreSoundLeaves (limits outline).wants (limits outline).floors = sound_leaves 0 0 0 outline first in
    omega (arith, own.sums, few_octets outline first, sum-floors_in outline, few)
