-- Grants that are backed among users have the largest totals up to each level.
use Rattle.std.proofs.Common.{◌≡◌, ℕ, zero, suc, ◌+◌, ◌<◌, ◌≤◌, Bool, true, false, not, ◌&&◌, ◌||◌, List, [], ◌∷◌, length, refl, sym, ap, subst, ◌∙◌, arith, sum_by, min, ◌⊎◌, inl, inr, Option, Some, None}
use Rattle.std.specs.Prelude.{if◌then◌else◌, IsTrue, slice_get, slice_index}
use Rattle.std.specs.Option.{option_map}
use Rattle.std.specs.List.{AllByRecursion}
use Rattle.std.proofs.lemmas.Bool.{cases_eq, cases_lt, cases_Bool, and_parts, or_cases, or_left, or_right, not-true, false≢true}
use Rattle.std.proofs.lemmas.List.Sums.{get_or-le-sum_by}
use Rattle.limit_tree.specs.Sharing.{LeafSet, Branch, LimitTree, HasNestedBranches, IsBranch, IsInside, IsNested, IsWithin, IsFull, IsUnmet, IsBackedBy, IsBottleneck, sum_over}
use Rattle.limit_tree.proofs.Sums.{sum_below-le, sum_below-same, sum_in, sum_in-le, sum_in-same, sum_in-apart}
use Rattle.grant_certificate.specs.Users.{tabulate, leaves_of, total_of, totals, HasUsers, IsBackedByUsers, IsNotTooRich}
use Rattle.grant_certificate.proofs.Levels.{up_to, IsLow, union, union_le, backed-largest}
use Rattle.grant_certificate.proofs.UserSums.{length-tabulate, get-tabulate, index-tabulate, own_leaf, leaf_inside, leaf_owner, grouped, over_in, covers, covers-inside, covers-some, covers-from}

-- a full branch over a leaf, within a set of leaves
pub record FullWithin (t : LimitTree) (set : LeafSet) (g : List ℕ) (i : ℕ) : Type 0 where
  pub number : ℕ
  pub branch : Branch
  pub member : IsBranch t number branch
  pub full : IsFull branch g
  pub holds : IsTrue (branch.holds i)
  pub own : IsInside branch.holds set

-- each unmet leaf of the set below k is in a full branch within it
abbrev pub IsSatisfied : LimitTree → LeafSet → List ℕ → ℕ → Type 0
IsSatisfied t set g k = (i : ℕ) → i < k → IsTrue (set i) → IsUnmet t g i → FullWithin t set g i

-- a full branch that holds all leaves of the user, of which it has one, and in which no total is too great
pub record IsHeldBack (t : LimitTree) (owners g : List ℕ) (u : ℕ) : Type 0 where
  pub number : ℕ
  pub branch : Branch
  pub member : IsBranch t number branch
  pub full : IsFull branch g
  pub leaf : ℕ
  pub own : IsTrue (leaves_of owners u leaf)
  pub all : IsInside (leaves_of owners u) branch.holds
  pub richest : (v : ℕ) → IsInside (leaves_of owners v) branch.holds → IsNotTooRich t owners g u v

pub satisfied-more : (t : LimitTree) (set : LeafSet) (g : List ℕ) (k : ℕ) → IsSatisfied t set g k → (IsTrue (set k) → IsUnmet t g k → FullWithin t set g k) → IsSatisfied t set g (suc k)
satisfied-more t set g k before here i less held unmet = elim (cases_eq i k) [
  | inl e ↦ subst (λ (j : ℕ). FullWithin t set g j) (sym e) (here (subst (λ (j : ℕ). IsTrue (set j)) e held) (subst (λ (j : ℕ). IsUnmet t g j) e unmet))
  | inr ne ↦ before i (omega arith) held unmet
]

-- each user's unmet leaves are held back within the user, or the user is
pub state : (t : LimitTree) (owners g : List ℕ) (c : List (Option ℕ)) → IsBackedByUsers t owners g c → (u k : ℕ) → k ≤ length g → IsSatisfied t (leaves_of owners u) g k ⊎ IsHeldBack t owners g u
state t owners g c backed u zero fits = inl (λ i less held unmet. absurd (omega arith))
state t owners g c backed u (suc k) fits = elim (state t owners g c backed u k (omega arith)) [
  | inr held ↦ inr held
  | inl before ↦ elim (cases_Bool (leaves_of owners u k)) [
    | inr out ↦ inl (satisfied-more t (leaves_of owners u) g k before (λ held unmet. absurd (false≢true (sym out ∙ held))))
    | inl own ↦ elim (cases_lt (slice_index g k) (slice_index t.wants k)) [
      | inr met ↦ inl (satisfied-more t (leaves_of owners u) g k before (λ held unmet. absurd (omega (arith, met, unmet))))
      | inl unmet ↦
          let at = backed.backed k (omega arith) unmet in
          let user : slice_index owners k ≡ u = leaf_owner owners u k own in
          elim at.4 [
            | inl inner ↦ inl (satisfied-more t (leaves_of owners u) g k before (λ held less. record {
              number = at.0;
              branch = at.1;
              member = at.3;
              full = inner.full;
              holds = inner.holds;
              own = subst (λ (v : ℕ). IsInside at.1.holds (leaves_of owners v)) user inner.own;
            }))
            | inr outer ↦ inr (record {
              number = at.0;
              branch = at.1;
              member = at.3;
              full = outer.full;
              leaf = k;
              own = own;
              all = subst (λ (v : ℕ). IsInside (leaves_of owners v) at.1.holds) user outer.all;
              richest = λ v inside. subst (λ (w : ℕ). IsNotTooRich t owners g w v) user (outer.richest v inside);
            })
          ]
    ]
  ]
]

abbrev top : LimitTree → ℕ
top t = sum_by (λ x. x) t.wants

-- full branches within a set that hold each of its unmet leaves below k
record Covered (t : LimitTree) (set : LeafSet) (g : List ℕ) (k : ℕ) : Type 0 where
  pub branches : List Branch
  pub each : AllByRecursion (IsLow t g (top t)) branches
  pub own : IsInside (union branches) set
  pub covers : (i : ℕ) → i < k → IsTrue (set i) → IsUnmet t g i → IsTrue (union branches i)

grant-top : (t : LimitTree) (h : List ℕ) (i : ℕ) → IsWithin t h → i < length t.wants → slice_index h i ≤ top t
grant-top t h i within inside =
    omega (arith, within.wanted.wants i (omega (arith, within.wanted.leaves)), get_or-le-sum_by (λ x. x) t.wants i 0 inside)

low_branch : (t : LimitTree) (set : LeafSet) (g : List ℕ) (i : ℕ) → HasNestedBranches t → IsWithin t g → (f : FullWithin t set g i) → IsLow t g (top t) f.branch
low_branch t set g i tree within f = record {
  number = f.number;
  member = f.member;
  full = f.full;
  low = λ j held. inl (grant-top t g j within (tree.leaves f.number j f.branch f.member held));
}

cover-same : (t : LimitTree) (set : LeafSet) (g : List ℕ) (k : ℕ) → Covered t set g k → (IsTrue (set k) → IsUnmet t g k → ⊥) → Covered t set g (suc k)
cover-same t set g k before none = record {
  branches = before.branches;
  each = before.each;
  own = before.own;
  covers = λ i less held unmet. elim (cases_eq i k) [
    | inl e ↦ absurd (none (subst (λ (j : ℕ). IsTrue (set j)) e held) (subst (λ (j : ℕ). IsUnmet t g j) e unmet))
    | inr ne ↦ before.covers i (omega arith) held unmet
  ];
}

cover-more : (t : LimitTree) (set : LeafSet) (g : List ℕ) (k : ℕ) → HasNestedBranches t → IsWithin t g → Covered t set g k → FullWithin t set g k → Covered t set g (suc k)
cover-more t set g k tree within before f = record {
  branches = f.branch ∷ before.branches;
  each = (low_branch t set g k tree within f, before.each);
  own = λ i held. elim (or_cases (f.branch.holds i) (union before.branches i) held) [ inl first ↦ f.own i first | inr rest ↦ before.own i rest ];
  covers = λ i less held unmet. elim (cases_eq i k) [
    | inl e ↦ or_left (f.branch.holds i) (union before.branches i) (subst (λ (j : ℕ). IsTrue (f.branch.holds j)) (sym e) f.holds)
    | inr ne ↦ or_right (f.branch.holds i) (union before.branches i) (before.covers i (omega arith) held unmet)
  ];
}

covered : (t : LimitTree) (set : LeafSet) (g : List ℕ) → HasNestedBranches t → IsWithin t g → (k : ℕ) → IsSatisfied t set g k → Covered t set g k
covered t set g tree within zero satisfied = record { branches = []; each = tt; own = λ i none. absurd (false≢true none); covers = λ i less held unmet. absurd (omega arith) }
covered t set g tree within (suc k) satisfied =
    let before = covered t set g tree within k (λ i less held unmet. satisfied i (omega arith) held unmet) in
    elim (cases_Bool (set k)) [
      | inr out ↦ cover-same t set g k before (λ held unmet. false≢true (sym out ∙ held))
      | inl held ↦ elim (cases_lt (slice_index g k) (slice_index t.wants k)) [
        | inl unmet ↦ cover-more t set g k tree within before (satisfied k (omega arith) held unmet)
        | inr met ↦ cover-same t set g k before (λ held unmet. omega (arith, met, unmet))
      ]
    ]

apart_from : (a s : Bool) → (IsTrue a → IsTrue s) → s ≡ (a || (s && not a))
apart_from true true inside = refl
apart_from true false inside = absurd (false≢true (inside refl))
apart_from false true inside = refl
apart_from false false inside = refl

-- no other grants give more to a set of leaves whose unmet ones are held back within it
pub satisfied-most : (t : LimitTree) (set : LeafSet) (g h : List ℕ) → HasNestedBranches t → IsWithin t g → IsWithin t h → IsSatisfied t set g (length g) → sum_in (length g) set (λ i. slice_index h i) ≤ sum_in (length g) set (λ i. slice_index g i)
satisfied-most t set g h tree within_g within_h satisfied =
    let n = length g in
    let same : length h ≡ length g = within_h.wanted.leaves ∙ sym within_g.wanted.leaves in
    let cover = covered t set g tree within_g n satisfied in
    let a : LeafSet = union cover.branches in
    let rest : LeafSet = λ i. set i && not (a i) in
    let split : (f : ℕ → ℕ) → sum_in n set f ≡ sum_in n a f + sum_in n rest f =
    λ f. sum_in-same n set (λ i. a i || rest i) f (λ i. apart_from (a i) (set i) (cover.own i)) ∙
    sum_in-apart n a rest f (λ i one two. false≢true (sym (not-true (a i) (and_parts (set i) (not (a i)) two).1) ∙ one)) in
    let low = union_le t g h (top t) tree same within_h (length cover.branches) cover.branches (omega arith) cover.each in
    let from = sum_in-le n a (λ i. slice_index h i) (up_to (top t) h) (λ i l held. omega (arith, grant-top t h i within_h (omega (arith, within_g.wanted.leaves)))) in
    let to = sum_in-le n a (up_to (top t) g) (λ i. slice_index g i) (λ i l held. omega arith) in
    let met = sum_in-le n rest (λ i. slice_index h i) (λ i. slice_index g i) (λ i l held.
    let both = and_parts (set i) (not (a i)) held in
    elim (cases_lt (slice_index g i) (slice_index t.wants i)) [
      | inl unmet ↦ absurd (false≢true (sym (not-true (a i) both.1) ∙ cover.covers i l both.0 unmet))
      | inr enough ↦ omega (arith, enough, within_h.wanted.wants i (omega (arith, same)))
    ]) in
    omega (arith, low, from, to, met, split (λ i. slice_index h i), split (λ i. slice_index g i))

-- the most that a user can have
abbrev most_of : (t : LimitTree) (owners g : List ℕ) (u : ℕ) → IsSatisfied t (leaves_of owners u) g (length g) ⊎ IsHeldBack t owners g u → ℕ
most_of t owners g u (inl satisfied) = total_of owners g u
most_of t owners g u (inr held) = total_of owners t.wants u

abbrev entry_of : (t : LimitTree) (owners g : List ℕ) (u : ℕ) → IsSatisfied t (leaves_of owners u) g (length g) ⊎ IsHeldBack t owners g u → Option ℕ
entry_of t owners g u (inl satisfied) = None
entry_of t owners g u (inr held) = Some held.number

-- a branch over users: those of which it holds all leaves
abbrev contract : List ℕ → Branch → Branch
contract owners b = record { limit = b.limit; holds = covers owners b }

-- the tree whose leaves are the users
abbrev contracted : LimitTree → ℕ → List ℕ → (ℕ → ℕ) → LimitTree
contracted t users owners most = record {
  wants = tabulate users most;
  floors = tabulate users (total_of owners t.floors);
  branch = λ k. option_map (contract owners) (t.branch k);
}

record IsContracted (t : LimitTree) (owners : List ℕ) (k : ℕ) (b : Branch) : Type 0 where
  pub branch : Branch
  pub member : IsBranch t k branch
  pub is : contract owners branch ≡ b

contracted-branch : (t : LimitTree) (users : ℕ) (owners : List ℕ) (most : ℕ → ℕ) (k : ℕ) (b : Branch) → IsBranch (contracted t users owners most) k b → IsContracted t owners k b
contracted-branch t users owners most k b is = go (t.branch k) refl is
  where
    some_same : (x y : Branch) → Some x ≡ Some y → x ≡ y
    some_same x y e = cc

    go : (o : Option Branch) → t.branch k ≡ o → option_map (contract owners) o ≡ Some b → IsContracted t owners k b
    go None e is = absurd (cc)
    go (Some a) e is = record { branch = a; member = e; is = some_same (contract owners a) b is }

covers-user : (t : LimitTree) (users : ℕ) (owners : List ℕ) (b : Branch) (v : ℕ) → HasUsers t users owners → IsTrue (covers owners b v) → v < users
covers-user t users owners b v has held =
    let some = covers-some owners b v held in
    let owner : slice_index owners some.0 ≡ v = leaf_owner owners v some.0 some.1 in
    omega (arith, owner, has.few some.0 (leaf_inside owners v some.0 some.1))

contracted-nested : (t : LimitTree) (users : ℕ) (owners : List ℕ) (most : ℕ → ℕ) → HasNestedBranches t → HasUsers t users owners → HasNestedBranches (contracted t users owners most)
contracted-nested t users owners most tree has = record {
  numbers = tree.numbers;
  finite = λ k past. ap (option_map (contract owners)) (tree.finite k past);
  leaves = λ k v b is held.
      let from = contracted-branch t users owners most k b is in
      omega (arith, covers-user t users owners from.branch v has (subst (λ (x : Branch). IsTrue (x.holds v)) (sym from.is) held), length-tabulate users most);
  nested = λ j k a b is_a is_b.
      let x = contracted-branch t users owners most j a is_a in
      let y = contracted-branch t users owners most k b is_b in
      subst (λ (p : Branch). IsNested p.holds b.holds) x.is (subst (λ (p : Branch). IsNested (covers owners x.branch) p.holds) y.is
      (both x.branch y.branch (tree.nested j k x.branch y.branch x.member y.member)));
}
  where
    into : (p q : Branch) → IsInside p.holds q.holds → IsInside (covers owners p) (covers owners q)
    into p q inside v held =
        let some = covers-some owners p v held in
        covers-from owners q v some.0 some.1 (λ i own. inside i (covers-inside owners p v held i own))

    both : (p q : Branch) → IsNested p.holds q.holds → IsNested (covers owners p) (covers owners q)
    both p q (inl inside) = inl (into p q inside)
    both p q (inr (inl inside)) = inr (inl (into q p inside))
    both p q (inr (inr apart)) = inr (inr (λ v one two.
        let some = covers-some owners p v one in
        apart some.0 (covers-inside owners p v one some.0 some.1) (covers-inside owners q v two some.0 some.1)))

-- the sum of the totals of some users is that of their leaves
over_totals : (t : LimitTree) (users : ℕ) (owners h : List ℕ) (some : LeafSet) → HasUsers t users owners → sum_over some (totals users owners h) ≡ sum_in (length owners) (λ i. some (slice_index owners i)) (λ i. slice_index h i)
over_totals t users owners h some has =
    over_in some (totals users owners h) users (length-tabulate users (total_of owners h)) ∙
    (sum_below-same users _ _ (λ v l. ap (λ (x : ℕ). if some v then x else 0) (index-tabulate users (total_of owners h) v l)) ∙
    grouped users owners some (λ i. slice_index h i) has.few)

sum_in-more : (n : ℕ) (a b : LeafSet) (f : ℕ → ℕ) → ((i : ℕ) → i < n → IsTrue (a i) → IsTrue (b i)) → sum_in n a f ≤ sum_in n b f
sum_in-more n a b f more = sum_below-le n _ _ (λ i l. term (a i) (b i) (f i) (more i l))
  where
    term : (x y : Bool) (z : ℕ) → (IsTrue x → IsTrue y) → (if x then z else 0) ≤ (if y then z else 0)
    term true true z f = omega arith
    term true false z f = absurd (false≢true (f refl))
    term false y z f = omega arith

-- the totals of grants within the limits are within those of the tree over users
contracted-within : (t : LimitTree) (users : ℕ) (owners : List ℕ) (most : ℕ → ℕ) (h : List ℕ) → HasUsers t users owners → IsWithin t h → ((u : ℕ) → u < users → total_of owners h u ≤ most u) → IsWithin (contracted t users owners most) (totals users owners h)
contracted-within t users owners most h has within fits =
    let size = length-tabulate users (total_of owners h) in
    let n : length h ≡ length owners = within.wanted.leaves ∙ sym has.each in
    record {
      wanted = record {
        leaves = size ∙ sym (length-tabulate users most);
        wants = λ u l. omega (arith, size, index-tabulate users (total_of owners h) u (omega (arith, size)), index-tabulate users most u (omega (arith, size)), fits u (omega (arith, size)));
      };
      floors = λ u l.
          let less = sum_in-le (length owners) (leaves_of owners u) (λ i. slice_index t.floors i) (λ i. slice_index h i) (λ i inside held. within.floors i (omega (arith, n))) in
          omega (arith, less, index-tabulate users (total_of owners h) u (omega (arith, size)), index-tabulate users (total_of owners t.floors) u (omega (arith, size)));
      limits = λ k limit b is has_limit.
          let from = contracted-branch t users owners most k b is in
          let less = sum_in-more (length owners) (λ i. covers owners from.branch (slice_index owners i)) from.branch.holds (λ i. slice_index h i)
          (λ i l held. covers-inside owners from.branch (slice_index owners i) held i (own_leaf owners i l)) in
          let kept = within.limits k limit from.branch from.member (ap (λ (x : Branch). x.limit) from.is ∙ has_limit) in
          let sums : sum_over b.holds (totals users owners h) ≡ sum_over (covers owners from.branch) (totals users owners h) = ap (λ (x : Branch). sum_over x.holds (totals users owners h)) (sym from.is) in
          omega (arith, less, kept, sums, over_totals t users owners h (covers owners from.branch) has, over_in from.branch.holds h (length owners) n);
    }

pub bool_same : (x y : Bool) → (IsTrue x → IsTrue y) → (IsTrue y → IsTrue x) → x ≡ y
bool_same true y f g = sym (f refl)
bool_same false true f g = g refl
bool_same false false f g = refl

-- a branch around a user is the union of the users in it
around : (t : LimitTree) (users : ℕ) (owners g : List ℕ) (u : ℕ) → HasUsers t users owners → (held : IsHeldBack t owners g u) → (i : ℕ) → i < length owners → IsTrue (held.branch.holds i) → IsTrue (covers owners held.branch (slice_index owners i))
around t users owners g u has held i inside in_b =
    let mine = own_leaf owners i inside in
    elim (has.nested held.number (slice_index owners i) held.branch held.member) [
      | inl small ↦
          let leaf = small held.leaf (held.all held.leaf held.own) in
          let same : u ≡ slice_index owners i = sym (leaf_owner owners u held.leaf held.own) ∙ leaf_owner owners (slice_index owners i) held.leaf leaf in
          covers-from owners held.branch (slice_index owners i) i mine (subst (λ (v : ℕ). IsInside (leaves_of owners v) held.branch.holds) same held.all)
      | inr (inl large) ↦ covers-from owners held.branch (slice_index owners i) i mine large
      | inr (inr apart) ↦ absurd (apart i in_b mine)
    ]

contracted-full : (t : LimitTree) (users : ℕ) (owners g : List ℕ) (u : ℕ) → HasUsers t users owners → length g ≡ length owners → (held : IsHeldBack t owners g u) → IsFull (contract owners held.branch) (totals users owners g)
contracted-full t users owners g u has n held =
    let same : sum_over (covers owners held.branch) (totals users owners g) ≡ sum_over held.branch.holds g =
    over_totals t users owners g (covers owners held.branch) has ∙
    (sum_below-same (length owners) _ _ (λ i l. ap (λ (x : Bool). if x then slice_index g i else 0)
    (bool_same (covers owners held.branch (slice_index owners i)) (held.branch.holds i)
    (λ held_i. covers-inside owners held.branch (slice_index owners i) held_i i (own_leaf owners i l))
    (around t users owners g u has held i l))) ∙
    sym (over_in held.branch.holds g (length owners) n)) in
    held.full ∙ ap (λ (x : ℕ). Some x) (sym same)

-- all that the laws need of the tree over users
pub record IsOuter (t : LimitTree) (users : ℕ) (owners g : List ℕ) : Type 0 where
  pub tree : LimitTree
  pub certificate : List (Option ℕ)
  pub nested : HasNestedBranches tree
  pub within : (h : List ℕ) → IsWithin t h → IsWithin tree (totals users owners h)
  pub backed : IsBackedBy tree (totals users owners g) certificate

pub outer-tree : (t : LimitTree) (users : ℕ) (owners g : List ℕ) (c : List (Option ℕ)) → HasNestedBranches t → HasUsers t users owners → IsWithin t g → IsBackedByUsers t owners g c → IsOuter t users owners g
outer-tree t users owners g c tree has within backed = record {
  tree = contracted t users owners most;
  certificate = tabulate users (λ u. entry_of t owners g u (of u));
  nested = contracted-nested t users owners most tree has;
  within = λ h within_h. contracted-within t users owners most h has within_h (λ u l. fits h within_h u (of u));
  backed = record {
    leaves = length-tabulate users (λ u. entry_of t owners g u (of u)) ∙ sym (length-tabulate users most);
    backed = λ u l unmet.
        let less : u < users = omega (arith, length-tabulate users (total_of owners g)) in
        neck u less (of u) (get-tabulate users (λ v. entry_of t owners g v (of v)) u less)
        (omega (arith, unmet, index-tabulate users (total_of owners g) u less, index-tabulate users most u less));
  };
}
  where
    n : length g ≡ length owners
    n = within.wanted.leaves ∙ sym has.each

    of : (u : ℕ) → IsSatisfied t (leaves_of owners u) g (length g) ⊎ IsHeldBack t owners g u
    of u = state t owners g c backed u (length g) (omega arith)

    most : ℕ → ℕ
    most u = most_of t owners g u (of u)

    fits : (h : List ℕ) → IsWithin t h → (u : ℕ) (s : IsSatisfied t (leaves_of owners u) g (length g) ⊎ IsHeldBack t owners g u) → total_of owners h u ≤ most_of t owners g u s
    fits h within_h u (inl satisfied) =
        subst (λ (m : ℕ). sum_in m (leaves_of owners u) (λ i. slice_index h i) ≤ sum_in m (leaves_of owners u) (λ i. slice_index g i)) n
        (satisfied-most t (leaves_of owners u) g h tree within within_h satisfied)
    fits h within_h u (inr held) =
        sum_in-le (length owners) (leaves_of owners u) (λ i. slice_index h i) (λ i. slice_index t.wants i) (λ i l own. within_h.wanted.wants i (omega (arith, within_h.wanted.leaves, has.each)))

    neck : (u : ℕ) → u < users → (s : IsSatisfied t (leaves_of owners u) g (length g) ⊎ IsHeldBack t owners g u) → slice_get (tabulate users (λ v. entry_of t owners g v (of v))) u ≡ Some (entry_of t owners g u s) → total_of owners g u < most_of t owners g u s → (k : ℕ) × (b : Branch) × (slice_get (tabulate users (λ v. entry_of t owners g v (of v))) u ≡ Some (Some k)) × IsBranch (contracted t users owners most) k b × IsBottleneck (contracted t users owners most) b (totals users owners g) u
    neck u less (inl satisfied) named unmet = absurd (omega (arith, unmet))
    neck u less (inr held) named unmet = (
      held.number,
      contract owners held.branch,
      named,
      ap (option_map (contract owners)) held.member,
      record {
        full = contracted-full t users owners g u has n held;
        holds = covers-from owners held.branch u held.leaf held.own held.all;
        greatest = λ v in_b.
            let user : v < users = covers-user t users owners held.branch v has in_b in
            let at_v = index-tabulate users (total_of owners g) v user in
            let at_u = index-tabulate users (total_of owners g) u less in
            let floor = index-tabulate users (total_of owners t.floors) v user in
            elim (held.richest v (covers-inside owners held.branch v in_b)) [
              | inl small ↦ inl (omega (arith, small, at_v, at_u))
              | inr floored ↦ inr (at_v ∙ (floored ∙ sym floor))
            ];
      },
    )

pub users-largest : (t : LimitTree) (users : ℕ) (owners g : List ℕ) (c : List (Option ℕ)) → HasNestedBranches t → HasUsers t users owners → IsWithin t g → IsBackedByUsers t owners g c → (h : List ℕ) (level : ℕ) → IsWithin t h → sum_by (λ x. min x level) (totals users owners h) ≤ sum_by (λ x. min x level) (totals users owners g)
users-largest t users owners g c tree has within backed h level within_h =
    let o = outer-tree t users owners g c tree has within backed in
    backed-largest o.tree (totals users owners g) o.certificate o.nested (o.within g within) o.backed (totals users owners h) level (o.within h within_h)
