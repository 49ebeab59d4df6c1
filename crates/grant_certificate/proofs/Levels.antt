-- Backed grants have the largest sum up to each level.
use Rattle.std.proofs.Common.{◌≡◌, ℕ, zero, suc, ◌+◌, ◌<◌, ◌≤◌, Bool, true, false, ◌||◌, not, List, [], ◌∷◌, length, refl, sym, ◌∙◌, subst, arith, sum_by, min, ◌⊎◌, inl, inr, Option}
use Rattle.std.specs.Prelude.{IsTrue, slice_index}
use Rattle.std.specs.List.{list_any, AllByRecursion}
use Rattle.std.proofs.lemmas.Bool.{cases_lt, cases_eq, or_cases, or_left, or_right, or_parts, not-true, false≢true}
use Rattle.limit_tree.specs.Sharing.{LeafSet, Branch, LimitTree, HasNestedBranches, IsBranch, IsInside, IsNested, IsWithin, IsFull, IsBackedBy, IsBottleneck, sum_below, sum_over}
use Rattle.limit_tree.proofs.Sums.{sum_by-all_places, sum_in, sum_in-le, sum_in-same, sum_in-none, sum_in-add, sum_in-split, sum_in-apart}

-- what a leaf has up to a level
abbrev pub up_to : ℕ → List ℕ → ℕ → ℕ
up_to level h i = min (slice_index h i) level

-- a grant above the level is no more than the leaf's floor
abbrev pub IsLowAt : LimitTree → List ℕ → ℕ → ℕ → Type 0
IsLowAt t g level i = (slice_index g i ≤ level) ⊎ (slice_index g i ≡ slice_index t.floors i)

-- a full branch of the tree in which no grant is above the level, but for floors
pub record IsLow (t : LimitTree) (g : List ℕ) (level : ℕ) (b : Branch) : Type 0 where
  pub number : ℕ
  pub member : IsBranch t number b
  pub full : IsFull b g
  pub low : (i : ℕ) → IsTrue (b.holds i) → IsLowAt t g level i

-- the leaves that some branch of a list holds
abbrev pub union : List Branch → LeafSet
union bs i = list_any (λ b. b.holds i) bs

-- other grants gain no more up to the level than they gain in all
gain_le : (t : LimitTree) (g h : List ℕ) (level i : ℕ) → IsLowAt t g level i → slice_index t.floors i ≤ slice_index h i → up_to level h i + slice_index g i ≤ up_to level g i + slice_index h i
gain_le t g h level i (inl low) floor = omega arith
gain_le t g h level i (inr floored) floor = omega arith

-- over one such branch no other grants have more up to the level
branch_le : (t : LimitTree) (g h : List ℕ) (level : ℕ) (b : Branch) → length h ≡ length g → IsWithin t h → IsLow t g level b → sum_in (length g) b.holds (up_to level h) ≤ sum_in (length g) b.holds (up_to level g)
branch_le t g h level b same within low =
    let most : sum_in (length g) b.holds (λ i. slice_index h i) ≤ sum_over b.holds g = subst (λ (n : ℕ). sum_in n b.holds (λ i. slice_index h i) ≤ sum_over b.holds g) same (within.limits low.number _ b low.member low.full) in
    let gain = sum_in-le (length g) b.holds (λ i. up_to level h i + slice_index g i) (λ i. up_to level g i + slice_index h i)
    (λ i l held. gain_le t g h level i (low.low i held) (within.floors i (omega arith))) in
    omega (
      arith,
      gain,
      sum_in-add (length g) b.holds (up_to level h) (λ i. slice_index g i),
      sum_in-add (length g) b.holds (up_to level g) (λ i. slice_index h i),
    )

absorb_inside : (b a d l : Bool) → (IsTrue a → IsTrue b) → (b || d) ≡ (b || l) → (b || d) ≡ (b || (a || l))
absorb_inside true a d l inside same = refl
absorb_inside false true d l inside same = absurd (false≢true (inside refl))
absorb_inside false false d l inside same = same

keep_apart : (b a d l : Bool) → (b || d) ≡ (b || l) → (b || (a || d)) ≡ (b || (a || l))
keep_apart true a d l same = refl
keep_apart false true d l same = refl
keep_apart false false d l same = same

pub drop_inside : (b l : Bool) → (IsTrue b → IsTrue l) → (b || l) ≡ l
drop_inside true l inside = sym (inside refl)
drop_inside false l inside = refl

-- branches of a list that share no leaf with b, and make the same set with it
record Others (P : Branch → Type 0) (b : Branch) (bs : List Branch) : Type 0 where
  pub kept : List Branch
  pub fewer : length kept ≤ length bs
  pub each : AllByRecursion P kept
  pub apart : (i : ℕ) → IsTrue (b.holds i) → IsTrue (union kept i) → ⊥
  pub same : (i : ℕ) → (b.holds i || union kept i) ≡ (b.holds i || union bs i)

-- either the list covers b, or the branches of it that are apart from b will do
others : (P : Branch → Type 0) (b : Branch) → ((a : Branch) → P a → IsNested b.holds a.holds) → (bs : List Branch) → AllByRecursion P bs → IsInside b.holds (union bs) ⊎ Others P b bs
others P b nested [] each = inr (record { kept = []; fewer = omega arith; each = tt; apart = λ i held none. false≢true none; same = λ i. refl })
others P b nested (a ∷ bs) each = go (nested a each.0) (others P b nested bs each.1)
  where
    go : IsNested b.holds a.holds → (IsInside b.holds (union bs) ⊎ Others P b bs) → IsInside b.holds (union (a ∷ bs)) ⊎ Others P b (a ∷ bs)
    go (inl inside) rest = inl (λ i held. or_left (a.holds i) (union bs i) (inside i held))
    go (inr n) (inl covered) = inl (λ i held. or_right (a.holds i) (union bs i) (covered i held))
    go (inr (inl holds)) (inr rest) = inr (record {
      kept = rest.kept;
      fewer = omega (arith, rest.fewer);
      each = rest.each;
      apart = rest.apart;
      same = λ i. absorb_inside (b.holds i) (a.holds i) (union rest.kept i) (union bs i) (holds i) (rest.same i);
    })
    go (inr (inr apart)) (inr rest) = inr (record {
      kept = a ∷ rest.kept;
      fewer = omega (arith, rest.fewer);
      each = (each.0, rest.each);
      apart = λ i held other. elim (or_cases (a.holds i) (union rest.kept i) other) [ inl in_a ↦ apart i held in_a | inr in_rest ↦ rest.apart i held in_rest ];
      same = λ i. keep_apart (b.holds i) (a.holds i) (union rest.kept i) (union bs i) (rest.same i);
    })

-- over the leaves of any such branches no other grants have more up to the level
pub union_le : (t : LimitTree) (g h : List ℕ) (level : ℕ) → HasNestedBranches t → length h ≡ length g → IsWithin t h → (k : ℕ) (bs : List Branch) → length bs ≤ k → AllByRecursion (IsLow t g level) bs → sum_in (length g) (union bs) (up_to level h) ≤ sum_in (length g) (union bs) (up_to level g)
union_le t g h level tree same within k [] fits each =
    omega (arith, sum_in-none (length g) (union []) (up_to level h) (λ i l. refl))
union_le t g h level tree same within zero (b ∷ bs) fits each = absurd (omega arith)
union_le t g h level tree same within (suc k) (b ∷ bs) fits each =
    elim (others (IsLow t g level) b (λ a low. tree.nested each.0.number low.number b a each.0.member low.member) bs each.1) [
      | inl covered ↦
          let drop = λ (f : ℕ → ℕ). sum_in-same (length g) (union (b ∷ bs)) (union bs) f (λ i. drop_inside (b.holds i) (union bs i) (covered i)) in
          let le = union_le t g h level tree same within k bs (omega arith) each.1 in
          omega (arith, le, drop (up_to level h), drop (up_to level g))
      | inr rest ↦
          let two : (f : ℕ → ℕ) → sum_in (length g) (union (b ∷ bs)) f ≡ sum_in (length g) b.holds f + sum_in (length g) (union rest.kept) f =
          λ f. sym (sum_in-same (length g) (λ i. b.holds i || union rest.kept i) (union (b ∷ bs)) f rest.same) ∙ sum_in-apart (length g) b.holds (union rest.kept) f rest.apart in
          let fewer : length rest.kept ≤ k = omega (arith, rest.fewer) in
          let le = union_le t g h level tree same within k rest.kept fewer rest.each in
          omega (arith, le, branch_le t g h level b same within each.0, two (up_to level h), two (up_to level g))
    ]

-- such branches that hold each leaf below k, unless it has no more in h up to the level
record Cover (t : LimitTree) (g h : List ℕ) (level k : ℕ) : Type 0 where
  pub branches : List Branch
  pub each : AllByRecursion (IsLow t g level) branches
  pub covers : (i : ℕ) → i < k → union branches i ≡ false → up_to level h i ≤ up_to level g i

-- a leaf that has no more in h up to the level needs no branch
cover_keep : (t : LimitTree) (g h : List ℕ) (level k : ℕ) → Cover t g h level k → up_to level h k ≤ up_to level g k → Cover t g h level (suc k)
cover_keep t g h level k before le = record {
  branches = before.branches;
  each = before.each;
  covers = λ i l out. elim (cases_eq i k) [
    | inl same ↦ subst (λ (j : ℕ). up_to level h j ≤ up_to level g j) (sym same) le
    | inr other ↦ before.covers i (omega arith) out
  ];
}

-- the bottleneck of a leaf below the level is such a branch
bottleneck_low : (t : LimitTree) (g : List ℕ) (level k n : ℕ) (b : Branch) → slice_index g k < level → IsBranch t n b → IsBottleneck t b g k → IsLow t g level b
bottleneck_low t g level k n b below member bottle = record {
  number = n;
  member = member;
  full = bottle.full;
  low = λ i held. elim (bottle.greatest i held) [ inl less ↦ inl (omega arith) | inr floored ↦ inr floored ];
}

-- an unmet leaf below the level is in its bottleneck
cover_more : (t : LimitTree) (g h : List ℕ) (level k : ℕ) → Cover t g h level k → (b : Branch) → IsLow t g level b → IsTrue (b.holds k) → Cover t g h level (suc k)
cover_more t g h level k before b low held = record {
  branches = b ∷ before.branches;
  each = (low, before.each);
  covers = λ i l out.
      let outs = or_parts (b.holds i) (union before.branches i) out in
      elim (cases_eq i k) [
        | inl same ↦ absurd (false≢true (sym outs.0 ∙ subst (λ (j : ℕ). IsTrue (b.holds j)) (sym same) held))
        | inr other ↦ before.covers i (omega arith) outs.1
      ];
}

cover : (t : LimitTree) (g h : List ℕ) (c : List (Option ℕ)) (level : ℕ) → length h ≡ length g → IsBackedBy t g c → IsWithin t h → (k : ℕ) → k ≤ length g → Cover t g h level k
cover t g h c level same backed within zero fits = record { branches = []; each = tt; covers = λ i l out. absurd (omega arith) }
cover t g h c level same backed within (suc k) fits =
    let before = cover t g h c level same backed within k (omega arith) in
    elim (cases_lt (slice_index g k) (slice_index t.wants k)) [
      | inl unmet ↦ elim (cases_lt (slice_index g k) level) [
        | inl below ↦
            let at = backed.backed k (omega arith) unmet in
            cover_more t g h level k before at.1 (bottleneck_low t g level k at.0 at.1 below at.3 at.4) at.4.holds
        | inr above ↦ cover_keep t g h level k before (omega arith)
      ]
      | inr met ↦
          let most : slice_index h k ≤ slice_index t.wants k = within.wanted.wants k (omega arith) in
          cover_keep t g h level k before (omega arith)
    ]

-- what the leaves have up to a level, as a sum over a list of their length
pub up_to-sum : (h : List ℕ) (level n : ℕ) → length h ≡ n → sum_below n (up_to level h) ≡ sum_by (λ x. min x level) h
up_to-sum h level n e = subst (λ (m : ℕ). sum_below m (up_to level h) ≡ sum_by (λ x. min x level) h) e (sum_by-all_places (λ x. min x level) h)

pub backed-largest : (t : LimitTree) (g : List ℕ) (c : List (Option ℕ)) → HasNestedBranches t → IsWithin t g → IsBackedBy t g c → (h : List ℕ) (level : ℕ) → IsWithin t h → sum_by (λ x. min x level) h ≤ sum_by (λ x. min x level) g
backed-largest t g c tree within backed h level within_h =
    let same : length h ≡ length g = within_h.wanted.leaves ∙ sym within.wanted.leaves in
    let all = cover t g h c level same backed within_h (length g) (omega arith) in
    let inner = union_le t g h level tree same within_h (length all.branches) all.branches (omega arith) all.each in
    let outer = sum_in-le (length g) (λ i. not (union all.branches i)) (up_to level h) (up_to level g) (λ i l out. all.covers i l (not-true (union all.branches i) out)) in
    omega (
      arith,
      inner,
      outer,
      sum_in-split (length g) (union all.branches) (up_to level h),
      sum_in-split (length g) (union all.branches) (up_to level g),
      up_to-sum h level (length g) same,
      up_to-sum g level (length g) refl,
    )
