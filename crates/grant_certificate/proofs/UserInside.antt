-- Grants that are backed among users are best by users.
use Rattle.std.proofs.Common.{◌≡◌, ℕ, ◌+◌, ◌-◌, ◌<◌, Bool, true, false, List, length, refl, sym, ap, subst, ◌∙◌, arith, ◌⊎◌, inl, inr, Option, Some, None}
use Rattle.std.specs.Prelude.{if◌then◌else◌, IsTrue, nat_lt, slice_index}
use Rattle.std.proofs.lemmas.Bool.{cases_eq, cases_lt, ltb-true, lt-ltb, le-ltb}
use Rattle.limit_tree.specs.Sharing.{LeafSet, Branch, LimitTree, HasNestedBranches, IsBranch, IsNested, IsWithin, IsUnmet, IsBottleneck, IsBest, sum_over}
use Rattle.grant_certificate.specs.Users.{tabulate, leaves_of, total_of, totals, HasUsers, IsBackedByUsers, IsBestByUsers}
use Rattle.grant_certificate.proofs.Order.{backed-best}
use Rattle.grant_certificate.proofs.UserSums.{length-tabulate, get-tabulate, index-tabulate, own_leaf, leaf_inside, leaf_owner, over_in}
use Rattle.grant_certificate.proofs.UserTotals.{outer-tree}

-- the leaves of a user, limited to what they have
abbrev user_branch : List ℕ → List ℕ → ℕ → Branch
user_branch owners g u = record { limit = Some (total_of owners g u); holds = leaves_of owners u }

abbrev branch_past : ℕ → List ℕ → List ℕ → ℕ → Option Branch
branch_past users owners g u = if nat_lt u users then Some (user_branch owners g u) else None

-- the tree with a branch more for each user
abbrev tightened : LimitTree → ℕ → ℕ → List ℕ → List ℕ → LimitTree
tightened t numbers users owners g = record {
  wants = t.wants;
  floors = t.floors;
  branch = λ k. if nat_lt k numbers then t.branch k else branch_past users owners g (k - numbers);
}

-- a branch of it is one of the tree's, or a user's
abbrev IsOneOf : LimitTree → ℕ → ℕ → List ℕ → List ℕ → ℕ → Branch → Type 0
IsOneOf t numbers users owners g k b =
    IsBranch t k b ⊎ ((u : ℕ) × (u < users) × (user_branch owners g u ≡ b))

one_of : (t : LimitTree) (numbers users : ℕ) (owners g : List ℕ) (k : ℕ) (b : Branch) → IsBranch (tightened t numbers users owners g) k b → IsOneOf t numbers users owners g k b
one_of t numbers users owners g k b is = go (nat_lt k numbers) is
  where
    some_same : (x y : Branch) → Some x ≡ Some y → x ≡ y
    some_same x y e = cc

    past : (c : Bool) → nat_lt (k - numbers) users ≡ c → (if c then Some (user_branch owners g (k - numbers)) else None) ≡ Some b → IsOneOf t numbers users owners g k b
    past true less e = inr (k - numbers, ltb-true (k - numbers) users less, some_same (user_branch owners g (k - numbers)) b e)
    past false less e = absurd (cc)

    go : (c : Bool) → (if c then t.branch k else branch_past users owners g (k - numbers)) ≡ Some b → IsOneOf t numbers users owners g k b
    go true e = inl e
    go false e = past (nat_lt (k - numbers) users) refl e

old_branch : (t : LimitTree) (numbers users : ℕ) (owners g : List ℕ) (k : ℕ) (b : Branch) → k < numbers → IsBranch t k b → IsBranch (tightened t numbers users owners g) k b
old_branch t numbers users owners g k b less is =
    ap (λ (c : Bool). if c then t.branch k else branch_past users owners g (k - numbers)) (lt-ltb k numbers less) ∙ is

new_branch : (t : LimitTree) (numbers users : ℕ) (owners g : List ℕ) (u : ℕ) → u < users → IsBranch (tightened t numbers users owners g) (numbers + u) (user_branch owners g u)
new_branch t numbers users owners g u less =
    let past : nat_lt (numbers + u) numbers ≡ false = le-ltb (numbers + u) numbers (omega arith) in
    let at : (numbers + u) - numbers ≡ u = omega arith in
    ap (λ (c : Bool). if c then t.branch (numbers + u) else branch_past users owners g ((numbers + u) - numbers)) past ∙
    (ap (λ (v : ℕ). branch_past users owners g v) at ∙
    ap (λ (c : Bool). if c then Some (user_branch owners g u) else None) (lt-ltb u users less))

-- a branch of the tree has a number below those of the users
below : (t : LimitTree) (k : ℕ) (b : Branch) → (tree : HasNestedBranches t) → IsBranch t k b → k < tree.numbers
below t k b tree is = elim (cases_lt k tree.numbers) [
  | inl less ↦ less
  | inr past ↦ absurd (none (t.branch k) (tree.finite k past) is)
]
  where
    none : (o : Option Branch) → o ≡ None → o ≡ Some b → ⊥
    none o e is = cc

flip : {a b : LeafSet} → IsNested a b → IsNested b a
flip (inl inside) = inr (inl inside)
flip (inr (inl inside)) = inl inside
flip (inr (inr apart)) = inr (inr (λ i h g. apart i g h))

tightened-nested : (t : LimitTree) (users : ℕ) (owners g : List ℕ) → (tree : HasNestedBranches t) → HasUsers t users owners → HasNestedBranches (tightened t tree.numbers users owners g)
tightened-nested t users owners g tree has = record {
  numbers = tree.numbers + users;
  finite = λ k past.
      ap (λ (c : Bool). if c then t.branch k else branch_past users owners g (k - tree.numbers)) (le-ltb k tree.numbers (omega arith)) ∙
      ap (λ (c : Bool). if c then Some (user_branch owners g (k - tree.numbers)) else None) (le-ltb (k - tree.numbers) users (omega arith));
  leaves = λ k i b is held. elim (one_of t tree.numbers users owners g k b is) [
    | inl old ↦ tree.leaves k i b old held
    | inr new ↦ omega (arith, has.each, leaf_inside owners new.0 i (subst (λ (x : Branch). IsTrue (x.holds i)) (sym new.2) held))
  ];
  nested = λ j k a b is_a is_b. elim (one_of t tree.numbers users owners g j a is_a) [
    | inl old_a ↦ elim (one_of t tree.numbers users owners g k b is_b) [
      | inl old_b ↦ tree.nested j k a b old_a old_b
      | inr new_b ↦ subst (λ (x : Branch). IsNested a.holds x.holds) new_b.2 (has.nested j new_b.0 a old_a)
    ]
    | inr new_a ↦ elim (one_of t tree.numbers users owners g k b is_b) [
      | inl old_b ↦ subst (λ (x : Branch). IsNested x.holds b.holds) new_a.2 (flip (has.nested k new_a.0 b old_b))
      | inr new_b ↦ subst (λ (x : Branch). IsNested x.holds b.holds) new_a.2 (subst (λ (x : Branch). IsNested (leaves_of owners new_a.0) x.holds) new_b.2 (two new_a.0 new_b.0))
    ]
  ];
}
  where
    two : (u v : ℕ) → IsNested (leaves_of owners u) (leaves_of owners v)
    two u v = elim (cases_eq u v) [
      | inl e ↦ inl (λ i held. subst (λ (w : ℕ). IsTrue (leaves_of owners w i)) e held)
      | inr ne ↦ inr (inr (λ i one other. ne (sym (leaf_owner owners u i one) ∙ leaf_owner owners v i other)))
    ]

-- grants that give each user the same total are within it, too
tightened-within : (t : LimitTree) (users : ℕ) (owners g h : List ℕ) (numbers : ℕ) → HasUsers t users owners → IsWithin t h → totals users owners h ≡ totals users owners g → IsWithin (tightened t numbers users owners g) h
tightened-within t users owners g h numbers has within same = record {
  wanted = record { leaves = within.wanted.leaves; wants = λ i l. within.wanted.wants i l };
  floors = λ i l. within.floors i l;
  limits = λ k most b is limit. elim (one_of t numbers users owners g k b is) [
    | inl old ↦ within.limits k most b old limit
    | inr new ↦
        let n : length h ≡ length owners = within.wanted.leaves ∙ sym has.each in
        let sums : sum_over b.holds h ≡ sum_over (leaves_of owners new.0) h = ap (λ (x : Branch). sum_over x.holds h) (sym new.2) in
        let bound : total_of owners g new.0 ≡ most = some_nat (total_of owners g new.0) most (ap (λ (x : Branch). x.limit) new.2 ∙ limit) in
        let both : total_of owners h new.0 ≡ total_of owners g new.0 = sym (index-tabulate users (total_of owners h) new.0 new.1) ∙ (ap (λ (xs : List ℕ). slice_index xs new.0) same ∙ index-tabulate users (total_of owners g) new.0 new.1) in
        omega (arith, sums, bound, both, over_in (leaves_of owners new.0) h (length owners) n)
  ];
}
  where
    some_nat : (x y : ℕ) → Some x ≡ Some y → x ≡ y
    some_nat x y e = cc

-- an entry for a leaf in the certificate of that tree
abbrev IsEntryFor : LimitTree → LimitTree → List ℕ → ℕ → Option ℕ → Type 0
IsEntryFor t s g i entry =
    i < length g → IsUnmet t g i
    → (k : ℕ) × (b : Branch) × (entry ≡ Some k) × IsBranch s k b × IsBottleneck s b g i

entry : (t : LimitTree) (users : ℕ) (owners g : List ℕ) (c : List (Option ℕ)) → (tree : HasNestedBranches t) → HasUsers t users owners → IsWithin t g → IsBackedByUsers t owners g c → (i : ℕ) → (e : Option ℕ) × IsEntryFor t (tightened t tree.numbers users owners g) g i e
entry t users owners g c tree has within backed i = elim (cases_lt i (length g)) [
  | inr past ↦ (None, λ inside unmet. absurd (omega (arith, past, inside)))
  | inl inside ↦ elim (cases_lt (slice_index g i) (slice_index t.wants i)) [
    | inr met ↦ (None, λ l unmet. absurd (omega (arith, met, unmet)))
    | inl unmet ↦
        let at = backed.backed i inside unmet in
        let n : length g ≡ length owners = within.wanted.leaves ∙ sym has.each in
        let user = slice_index owners i in
        let few : user < users = has.few i (omega (arith, n)) in
        elim at.4 [
          | inl inner ↦ (
            Some at.0,
            λ l less. (
              at.0,
              at.1,
              refl,
              old_branch t tree.numbers users owners g at.0 at.1 (below t at.0 at.1 tree at.3) at.3,
              record { full = inner.full; holds = inner.holds; greatest = λ j held. inner.greatest j held },
            ),
          )
          | inr outer ↦ (
            Some (tree.numbers + user),
            λ l less. (
              tree.numbers + user,
              user_branch owners g user,
              refl,
              new_branch t tree.numbers users owners g user few,
              record {
                full = ap (λ (x : ℕ). Some x) (sym (over_in (leaves_of owners user) g (length owners) n));
                holds = own_leaf owners i (omega (arith, n));
                greatest = λ j held. outer.greatest j held;
              },
            ),
          )
        ]
  ]
]

tightened-best : (t : LimitTree) (users : ℕ) (owners g : List ℕ) (c : List (Option ℕ)) → (tree : HasNestedBranches t) → HasUsers t users owners → IsWithin t g → IsBackedByUsers t owners g c → IsBest (tightened t tree.numbers users owners g) g
tightened-best t users owners g c tree has within backed =
    let entries : (i : ℕ) → (e : Option ℕ) × IsEntryFor t (tightened t tree.numbers users owners g) g i e = entry t users owners g c tree has within backed in
    backed-best (tightened t tree.numbers users owners g) g (tabulate (length g) (λ i. (entries i).0))
    (tightened-nested t users owners g tree has)
    (tightened-within t users owners g g tree.numbers has within refl)
    (record {
      leaves = length-tabulate (length g) (λ i. (entries i).0) ∙ within.wanted.leaves;
      backed = λ i inside unmet.
          let at = (entries i).1 inside unmet in
          (at.0, at.1, get-tabulate (length g) (λ j. (entries j).0) i inside ∙ ap (λ (o : Option ℕ). Some o) at.2, at.3, at.4);
    })

pub by-users-best : (t : LimitTree) (users : ℕ) (owners g : List ℕ) (c : List (Option ℕ)) → HasNestedBranches t → HasUsers t users owners → IsWithin t g → IsBackedByUsers t owners g c → IsBestByUsers t users owners g
by-users-best t users owners g c tree has within backed =
    let o = outer-tree t users owners g c tree has within backed in
    record {
      within = within;
      fair = λ h a b within_h up_g up_h greater.
          (backed-best o.tree (totals users owners g) o.certificate o.nested (o.within g within) o.backed).greatest (totals users owners h) a b (o.within h within_h) up_g up_h greater;
      inside = λ h a b within_h same up_g up_h greater.
          (tightened-best t users owners g c tree has within backed).greatest h a b (tightened-within t users owners g h tree.numbers has within_h same) up_g up_h greater;
    }
