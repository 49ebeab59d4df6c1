-- Grants that give a set of leaves the most that it can have.
use Rattle.std.proofs.Common.{◌≡◌, ℕ, ◌≤◌, Bool, true, false, not, ◌||◌, List, length, refl, ap, subst, ◌∙◌, Option, Some, None}
use Rattle.std.specs.Prelude.{if◌then◌else◌, IsTrue, slice_index}
use Rattle.std.specs.Option.{option_and_then}
use Rattle.limit_tree.specs.Sharing.{LeafSet, Branch, LimitTree, HasNestedBranches, IsBranch, IsInside, IsWithin}
use Rattle.limit_tree.proofs.Sums.{sum_in}
use Rattle.grant_certificate.specs.TwoStages.{IsWithinSet}
use Rattle.grant_certificate.proofs.UserSums.{all_below, all-at, all-from, implies, implied}
use Rattle.grant_certificate.proofs.UserTotals.{FullWithin, IsSatisfied, satisfied-most}

pub some_branch : (x y : Branch) → Some x ≡ Some y → x ≡ y
some_branch x y e = cc

pub some_number : (x y : ℕ) → Some x ≡ Some y → x ≡ y
some_number x y e = cc

-- the branch holds leaves of the set only
abbrev pub is_inside : ℕ → LeafSet → Branch → Bool
is_inside n set b = all_below n (λ i. not (b.holds i) || set i)

pub inside-of : (t : LimitTree) (set : LeafSet) (k : ℕ) (b : Branch) → HasNestedBranches t → IsBranch t k b → is_inside (length t.wants) set b ≡ true → IsInside b.holds set
inside-of t set k b tree is is_in i held =
    implies (b.holds i) (set i) (all-at (length t.wants) (λ j. not (b.holds j) || set j) is_in i (tree.leaves k i b is held)) held

pub inside-to : (n : ℕ) (set : LeafSet) (b : Branch) → IsInside b.holds set → is_inside n set b ≡ true
inside-to n set b inside = all-from n (λ i. not (b.holds i) || set i) (λ i l. implied (b.holds i) (set i) (inside i))

abbrev keep : ℕ → LeafSet → Branch → Option Branch
keep n set b = if is_inside n set b then Some b else None

-- the branches inside a set
abbrev inner : LimitTree → LeafSet → LimitTree
inner t set = record {
  wants = t.wants;
  floors = t.floors;
  branch = λ k. option_and_then (keep (length t.wants) set) (t.branch k);
}

inner-from : (t : LimitTree) (set : LeafSet) (k : ℕ) (b : Branch) → HasNestedBranches t → IsBranch (inner t set) k b → IsBranch t k b × IsInside b.holds set
inner-from t set k b tree is = go (t.branch k) refl is
  where
    pick : (a : Branch) → t.branch k ≡ Some a → (c : Bool) → is_inside (length t.wants) set a ≡ c → (if c then Some a else None) ≡ Some b → IsBranch t k b × IsInside b.holds set
    pick a at true is_in e =
        let same : a ≡ b = some_branch a b e in
        (at ∙ e, subst (λ (x : Branch). IsInside x.holds set) same (inside-of t set k a tree at is_in))
    pick a at false not_in e = absurd (cc)

    go : (o : Option Branch) → t.branch k ≡ o → option_and_then (keep (length t.wants) set) o ≡ Some b → IsBranch t k b × IsInside b.holds set
    go None at e = absurd (cc)
    go (Some a) at e = pick a at (is_inside (length t.wants) set a) refl e

inner-kept : (t : LimitTree) (set : LeafSet) (k : ℕ) (b : Branch) → IsBranch t k b → IsInside b.holds set → IsBranch (inner t set) k b
inner-kept t set k b is inside =
    ap (option_and_then (keep (length t.wants) set)) is ∙
    ap (λ (c : Bool). if c then Some b else None) (inside-to (length t.wants) set b inside)

inner-nested : (t : LimitTree) (set : LeafSet) → HasNestedBranches t → HasNestedBranches (inner t set)
inner-nested t set tree = record {
  numbers = tree.numbers;
  finite = λ k past. ap (option_and_then (keep (length t.wants) set)) (tree.finite k past);
  leaves = λ k i b is held. tree.leaves k i b (inner-from t set k b tree is).0 held;
  nested = λ j k a b is_a is_b. tree.nested j k a b (inner-from t set j a tree is_a).0 (inner-from t set k b tree is_b).0;
}

inner-within : (t : LimitTree) (set : LeafSet) (h : List ℕ) → HasNestedBranches t → IsWithinSet t set h → IsWithin (inner t set) h
inner-within t set h tree within = record {
  wanted = record { leaves = within.leaves; wants = λ i l. within.wants i l };
  floors = λ i l. within.floors i l;
  limits = λ k limit b is has. let at = inner-from t set k b tree is in within.limits k limit b at.0 at.1 has;
}

-- within the limits is within those of a set
pub within-set : (t : LimitTree) (set : LeafSet) (g : List ℕ) → IsWithin t g → IsWithinSet t set g
within-set t set g within = record {
  leaves = within.wanted.leaves;
  wants = λ i l. within.wanted.wants i l;
  floors = λ i l. within.floors i l;
  limits = λ k limit b is inside has. within.limits k limit b is has;
}

-- no grants within the set give it more, if its unmet leaves are held back within it
pub set-most : (t : LimitTree) (set : LeafSet) (g h : List ℕ) → HasNestedBranches t → IsWithin t g → IsWithinSet t set h → IsSatisfied t set g (length g) → sum_in (length g) set (λ i. slice_index h i) ≤ sum_in (length g) set (λ i. slice_index g i)
set-most t set g h tree within_g within_h satisfied =
    satisfied-most (inner t set) set g h (inner-nested t set tree) (inner-within t set g tree (within-set t set g within_g)) (inner-within t set h tree within_h)
    (λ i less held unmet.
    let f = satisfied i less held unmet in
    record { number = f.number; branch = f.branch; member = inner-kept t set f.number f.branch f.member f.own; full = f.full; holds = f.holds; own = f.own })
