-- Two stages give grants that are backed among users.
use Rattle.std.proofs.Common.{◌≡◌, ℕ, zero, suc, ◌+◌, ◌<◌, ◌≤◌, Bool, true, false, not, ◌||◌, List, length, set, refl, sym, ap, subst, ◌∙◌, arith, ◌⊎◌, inl, inr, Option, Some, None, get_or-set_other, get_or-set_same}
use Rattle.std.specs.Prelude.{if◌then◌else◌, IsTrue, slice_get, slice_index}
use Rattle.std.specs.Option.{option_and_then}
use Rattle.std.proofs.Math.ListN.{length-set}
use Rattle.std.proofs.lemmas.Bool.{cases_eq, cases_lt, cases_Bool, false≢true}
use Rattle.limit_tree.specs.Sharing.{LeafSet, Branch, LimitTree, HasNestedBranches, IsBranch, IsInside, IsWithin, IsFull, IsUnmet, IsNotTooGreat, IsFullAbove, IsDeepestFull, sum_over}
use Rattle.limit_tree.proofs.Sums.{sum_below-same, sum_below-lt, sum_in, sum_in-same, sum_in-none, sum_over-set_inside, sum_over-set_outside}
use Rattle.grant_certificate.specs.Users.{tabulate, leaves_of, total_of, HasUsers, IsInnerNeck, IsOuterNeck, IsNotTooRich}
use Rattle.grant_certificate.specs.TwoStages.{IsWithinSet, IsContraction, IsOuterOf, IsUserBranch, IsTightOf, IsTwoStage, IsFoundByUsers}
use Rattle.grant_certificate.proofs.UserSums.{length-tabulate, get-tabulate, own_leaf, leaf_owner, grouped, over_in, all_below, all-at, all-from, implies, implied}
use Rattle.grant_certificate.proofs.UserTotals.{FullWithin, IsSatisfied, satisfied-most, bool_same}

some_branch : (x y : Branch) → Some x ≡ Some y → x ≡ y
some_branch x y e = cc

some_number : (x y : ℕ) → Some x ≡ Some y → x ≡ y
some_number x y e = cc

-- the branch holds leaves of the set only
abbrev is_inside : ℕ → LeafSet → Branch → Bool
is_inside n set b = all_below n (λ i. not (b.holds i) || set i)

inside-of : (t : LimitTree) (set : LeafSet) (k : ℕ) (b : Branch) → HasNestedBranches t → IsBranch t k b → is_inside (length t.wants) set b ≡ true → IsInside b.holds set
inside-of t set k b tree is is_in i held =
    implies (b.holds i) (set i) (all-at (length t.wants) (λ j. not (b.holds j) || set j) is_in i (tree.leaves k i b is held)) held

inside-to : (n : ℕ) (set : LeafSet) (b : Branch) → IsInside b.holds set → is_inside n set b ≡ true
inside-to n set b inside = all-from n (λ i. not (b.holds i) || set i) (λ i l. implied (b.holds i) (set i) (inside i))

abbrev keep : ℕ → LeafSet → Branch → Option Branch
keep n set b = if is_inside n set b then Some b else None

-- the branches inside a set
abbrev inner : LimitTree → LeafSet → LimitTree
inner t set = record {
  wants = t.wants;
  floors = t.floors;
  branch = λ k. option_and_then (keep (length t.wants) set) (t.branch k);
}

inner-from : (t : LimitTree) (set : LeafSet) (k : ℕ) (b : Branch) → HasNestedBranches t → IsBranch (inner t set) k b → IsBranch t k b × IsInside b.holds set
inner-from t set k b tree is = go (t.branch k) refl is
  where
    pick : (a : Branch) → t.branch k ≡ Some a → (c : Bool) → is_inside (length t.wants) set a ≡ c → (if c then Some a else None) ≡ Some b → IsBranch t k b × IsInside b.holds set
    pick a at true is_in e =
        let same : a ≡ b = some_branch a b e in
        (at ∙ e, subst (λ (x : Branch). IsInside x.holds set) same (inside-of t set k a tree at is_in))
    pick a at false not_in e = absurd (cc)

    go : (o : Option Branch) → t.branch k ≡ o → option_and_then (keep (length t.wants) set) o ≡ Some b → IsBranch t k b × IsInside b.holds set
    go None at e = absurd (cc)
    go (Some a) at e = pick a at (is_inside (length t.wants) set a) refl e

inner-kept : (t : LimitTree) (set : LeafSet) (k : ℕ) (b : Branch) → IsBranch t k b → IsInside b.holds set → IsBranch (inner t set) k b
inner-kept t set k b is inside =
    ap (option_and_then (keep (length t.wants) set)) is ∙
    ap (λ (c : Bool). if c then Some b else None) (inside-to (length t.wants) set b inside)

inner-nested : (t : LimitTree) (set : LeafSet) → HasNestedBranches t → HasNestedBranches (inner t set)
inner-nested t set tree = record {
  numbers = tree.numbers;
  finite = λ k past. ap (option_and_then (keep (length t.wants) set)) (tree.finite k past);
  leaves = λ k i b is held. tree.leaves k i b (inner-from t set k b tree is).0 held;
  nested = λ j k a b is_a is_b. tree.nested j k a b (inner-from t set j a tree is_a).0 (inner-from t set k b tree is_b).0;
}

inner-within : (t : LimitTree) (set : LeafSet) (h : List ℕ) → HasNestedBranches t → IsWithinSet t set h → IsWithin (inner t set) h
inner-within t set h tree within = record {
  wanted = record { leaves = within.leaves; wants = λ i l. within.wants i l };
  floors = λ i l. within.floors i l;
  limits = λ k limit b is has. let at = inner-from t set k b tree is in within.limits k limit b at.0 at.1 has;
}

-- within the limits is within those of a set
within-set : (t : LimitTree) (set : LeafSet) (g : List ℕ) → IsWithin t g → IsWithinSet t set g
within-set t set g within = record {
  leaves = within.wanted.leaves;
  wants = λ i l. within.wanted.wants i l;
  floors = λ i l. within.floors i l;
  limits = λ k limit b is inside has. within.limits k limit b is has;
}

-- no grants within the set give it more, if its unmet leaves are held back within it
set-most : (t : LimitTree) (set : LeafSet) (g h : List ℕ) → HasNestedBranches t → IsWithin t g → IsWithinSet t set h → IsSatisfied t set g (length g) → sum_in (length g) set (λ i. slice_index h i) ≤ sum_in (length g) set (λ i. slice_index g i)
set-most t set g h tree within_g within_h satisfied =
    satisfied-most (inner t set) set g h (inner-nested t set tree) (inner-within t set g tree (within-set t set g within_g)) (inner-within t set h tree within_h)
    (λ i less held unmet.
    let f = satisfied i less held unmet in
    record { number = f.number; branch = f.branch; member = inner-kept t set f.number f.branch f.member f.own; full = f.full; holds = f.holds; own = f.own })

-- an entry for a leaf
abbrev IsNeck : LimitTree → List ℕ → List ℕ → ℕ → Option ℕ → Type 0
IsNeck t owners g i e =
    i < length g → IsUnmet t g i
    → (k : ℕ) × (b : Branch) × (e ≡ Some k) × IsBranch t k b × (IsInnerNeck t owners b g i ⊎ IsOuterNeck t owners b g i)

-- no branch below a number is full, within a user and over the leaf
abbrev NoneTo : LimitTree → List ℕ → List ℕ → ℕ → ℕ → ℕ → Type 0
NoneTo t owners g u i m = (j : ℕ) (b : Branch) → j < m → IsBranch t j b → IsTrue (b.holds i) → IsFull b g → IsInside b.holds (leaves_of owners u) → ⊥

pub two-stages : (t : LimitTree) (users : ℕ) (owners n g : List ℕ) → HasNestedBranches t → HasUsers t users owners → ((u : ℕ) → u < users → (i : ℕ) × IsTrue (leaves_of owners u i)) → IsTwoStage t users owners n g → IsFoundByUsers t users owners n g
two-stages t users owners n g tree has leafed st = record {
  within = within;
  totals_are = total;
  certificate = tabulate (length g) (λ i. (entry i).0);
  backed = record {
    leaves = length-tabulate (length g) (λ i. (entry i).0) ∙ within.wanted.leaves;
    backed = λ i inside unmet.
        let at = (entry i).1 inside unmet in
        (at.0, at.1, get-tabulate (length g) (λ j. (entry j).0) i inside ∙ ap (λ (o : Option ℕ). Some o) at.2, at.3, at.4);
  };
}
  where
    out : IsOuterOf t users owners st.outer
    out = st.is_outer

    tig : IsTightOf t users owners n st.tight
    tig = st.is_tight

    size : length g ≡ length owners
    size = st.tight_within.wanted.leaves ∙ (ap (λ (xs : List ℕ). length xs) tig.wants ∙ sym has.each)

    wants_same : (i : ℕ) → slice_index st.tight.wants i ≡ slice_index t.wants i
    wants_same i = ap (λ (xs : List ℕ). slice_index xs i) tig.wants

    floors_same : (i : ℕ) → slice_index st.tight.floors i ≡ slice_index t.floors i
    floors_same i = ap (λ (xs : List ℕ). slice_index xs i) tig.floors

    -- the sum over a branch with the leaves of a user
    user_sum : (h : List ℕ) (u : ℕ) (b : Branch) → length h ≡ length owners → ((i : ℕ) → b.holds i ≡ leaves_of owners u i) → sum_over b.holds h ≡ total_of owners h u
    user_sum h u b long holds = over_in b.holds h (length owners) long ∙ sum_in-same (length owners) b.holds (leaves_of owners u) (λ i. slice_index h i) holds

    n_most : (u : ℕ) → u < users → slice_index n u ≤ slice_index st.outer.wants u
    n_most u less = st.outer_within.wanted.wants u (omega (arith, st.outer_within.wanted.leaves, out.each))

    total_most : (u : ℕ) → u < users → total_of owners g u ≤ slice_index n u
    total_most u less =
        let at = tig.users_are u less in
        let kept = st.tight_within.limits at.0 (slice_index n u) at.1 at.2 at.3.limit in
        omega (arith, kept, user_sum g u at.1 size at.3.holds)

    within : IsWithin t g
    within = record {
      wanted = record { leaves = st.tight_within.wanted.leaves ∙ ap (λ (xs : List ℕ). length xs) tig.wants; wants = λ i l. omega (arith, st.tight_within.wanted.wants i l, wants_same i) };
      floors = λ i l. omega (arith, st.tight_within.floors i l, floors_same i);
      limits = λ k limit b is is_limit. elim (tig.kept k b is) [
        | inl same ↦ st.tight_within.limits k limit b same is_limit
        | inr user ↦
            let u = user.0 in
            let most = out.most u user.1 in
            let h = most.some.0 in
            let in_set = most.some.1 in
            let kept = in_set.limits k limit b is (λ i held. sym (user.2 i) ∙ held) is_limit in
            let long : length h ≡ length owners = in_set.leaves ∙ sym has.each in
            omega (arith, kept, user_sum h u b long user.2, most.some.2, user_sum g u b size user.2, total_most u user.1, n_most u user.1)
      ];
    }

    -- a branch around a user holds the leaves of the users inside it
    around : (k u i : ℕ) (b : Branch) → IsBranch t k b → u < users → IsInside (leaves_of owners u) b.holds → i < length owners → IsTrue (b.holds i) → IsInside (leaves_of owners (slice_index owners i)) b.holds
    around k u i b is less inside low held =
        let mine = own_leaf owners i low in
        let leaf = leafed u less in
        elim (has.nested k (slice_index owners i) b is) [
          | inl small ↦
              let there = small leaf.0 (inside leaf.0 leaf.1) in
              let same : u ≡ slice_index owners i = sym (leaf_owner owners u leaf.0 leaf.1) ∙ leaf_owner owners (slice_index owners i) leaf.0 there in
              subst (λ (v : ℕ). IsInside (leaves_of owners v) b.holds) same inside
          | inr (inl large) ↦ large
          | inr (inr apart) ↦ absurd (apart i held mine)
        ]

    -- the sum over a branch around a user is that of the totals of the users inside it
    around_sum : (k u : ℕ) (b a : Branch) → IsBranch t k b → u < users → IsInside (leaves_of owners u) b.holds → IsContraction users owners b a → sum_over b.holds g ≡ sum_in users a.holds (λ v. total_of owners g v)
    around_sum k u b a is less inside con =
        over_in b.holds g (length owners) size ∙
        (sum_below-same (length owners) _ _ (λ i l. ap (λ (c : Bool). if c then slice_index g i else 0)
        (bool_same (b.holds i) (a.holds (slice_index owners i))
        (λ held. (con.holds (slice_index owners i) (has.few i l)).1 (around k u i b is less inside l held))
        (λ held. (con.holds (slice_index owners i) (has.few i l)).0 held i (own_leaf owners i l)))) ∙
        sym (grouped users owners a.holds (λ i. slice_index g i) has.few))

    outer_sum : (a : Branch) → sum_over a.holds n ≡ sum_in users a.holds (λ v. slice_index n v)
    outer_sum a = over_in a.holds n users (st.outer_within.wanted.leaves ∙ out.each)

    -- a full branch of the tight tree around a user leaves the user no less than its total
    not_less : (k u : ℕ) (b : Branch) → IsBranch t k b → u < users → IsInside (leaves_of owners u) b.holds → (IsInside b.holds (leaves_of owners u) → ⊥) → IsFull b g → total_of owners g u < slice_index n u → ⊥
    not_less k u b is less inside wide full short =
        let kept = out.kept k u b is less inside wide in
        let a = kept.1 in
        let con = kept.3 in
        let limit = st.outer_within.limits kept.0 (sum_over b.holds g) a kept.2 (con.limit ∙ full) in
        let fewer = sum_below-lt users (λ v. if a.holds v then total_of owners g v else 0) (λ v. if a.holds v then slice_index n v else 0) u
        (λ v l. le (a.holds v) (total_of owners g v) (slice_index n v) (total_most v l)) less
        (lt (a.holds u) (total_of owners g u) (slice_index n u) ((con.holds u less).1 inside) short) in
        omega (arith, limit, fewer, around_sum k u b a is less inside con, outer_sum a)
      where
        le : (c : Bool) (x y : ℕ) → x ≤ y → (if c then x else 0) ≤ (if c then y else 0)
        le true x y l = l
        le false x y l = omega arith

        lt : (c : Bool) (x y : ℕ) → c ≡ true → x < y → (if c then x else 0) < (if c then y else 0)
        lt true x y held l = l
        lt false x y held l = absurd (false≢true held)

    -- each unmet leaf of a user that has less than its total is held back within the user
    held_within : (u : ℕ) → u < users → total_of owners g u < slice_index n u → (i : ℕ) → i < length g → IsTrue (leaves_of owners u i) → IsUnmet t g i → FullWithin t (leaves_of owners u) g i
    held_within u less short i low own unmet =
        let at = st.tight_backed.backed i low (omega (arith, unmet, wants_same i)) in
        let b = at.1 in
        let neck = at.4 in
        elim (tig.from at.0 b at.3) [
          | inl old ↦ elim (cases_Bool (is_inside (length t.wants) (leaves_of owners u) b)) [
            | inl is_in ↦ record { number = at.0; branch = b; member = old; full = neck.full; holds = neck.holds; own = inside-of t (leaves_of owners u) at.0 b tree old is_in }
            | inr not_in ↦
                let wide : IsInside b.holds (leaves_of owners u) → ⊥ = λ inside. false≢true (sym not_in ∙ inside-to (length t.wants) (leaves_of owners u) b inside) in
                elim (has.nested at.0 u b old) [
                  | inl inside ↦ absurd (wide inside)
                  | inr (inl large) ↦ absurd (not_less at.0 u b old less large wide neck.full short)
                  | inr (inr apart) ↦ absurd (apart i neck.holds own)
                ]
          ]
          | inr user ↦
              let v = user.0 in
              let held : IsTrue (leaves_of owners v i) = sym (user.2.holds i) ∙ neck.holds in
              let same : u ≡ v = sym (leaf_owner owners u i own) ∙ leaf_owner owners v i held in
              let bound : slice_index n v ≡ sum_over b.holds g = some_number (slice_index n v) (sum_over b.holds g) (sym user.2.limit ∙ neck.full) in
              absurd (omega (arith, short, bound, user_sum g v b size user.2.holds, ap (total_of owners g) same, ap (slice_index n) same))
        ]

    total : (u : ℕ) → u < users → total_of owners g u ≡ slice_index n u
    total u less = elim (cases_lt (total_of owners g u) (slice_index n u)) [
      | inr enough ↦ omega (arith, enough, total_most u less)
      | inl short ↦
          let most = out.most u less in
          let top = set-most t (leaves_of owners u) g most.some.0 tree within most.some.1 (held_within u less short) in
          let top_n : total_of owners most.some.0 u ≤ total_of owners g u = subst (λ (m : ℕ). sum_in m (leaves_of owners u) (λ i. slice_index most.some.0 i) ≤ sum_in m (leaves_of owners u) (λ i. slice_index g i)) size top in
          absurd (omega (arith, top_n, short, most.some.2, n_most u less))
    ]

    greatest_of : (i j : ℕ) → IsNotTooGreat st.tight g i j → IsNotTooGreat t g i j
    greatest_of i j (inl small) = inl small
    greatest_of i j (inr floored) = inr (floored ∙ floors_same j)

    -- a full branch of the tree, of leaves of a user that is full, may be found by its number
    search_full : (u i k : ℕ) → FullWithin t (leaves_of owners u) g i ⊎ NoneTo t owners g u i k
    search_full u i zero = inr (λ m b l is held full inside. absurd (omega arith))
    search_full u i (suc k) = elim (search_full u i k) [
      | inl found ↦ inl found
      | inr none ↦ look (t.branch k) refl none
    ]
      where
        same_branch : (a b : Branch) → t.branch k ≡ Some a → t.branch k ≡ Some b → a ≡ b
        same_branch a b one two = some_branch a b (sym one ∙ two)

        extend : NoneTo t owners g u i k → ((b : Branch) → IsBranch t k b → IsTrue (b.holds i) → IsFull b g → IsInside b.holds (leaves_of owners u) → ⊥) → NoneTo t owners g u i (suc k)
        extend none here m b l is held full inside = elim (cases_eq m k) [
          | inl e ↦ here b (subst (λ (x : ℕ). IsBranch t x b) e is) held full inside
          | inr ne ↦ none m b (omega arith) is held full inside
        ]

        limited : (b : Branch) → t.branch k ≡ Some b → (o : Option ℕ) → b.limit ≡ o → NoneTo t owners g u i k → FullWithin t (leaves_of owners u) g i ⊎ NoneTo t owners g u i (suc k)
        limited b at None not_in none = inr (extend none (λ a is held full inside. absurd (clash (sym not_in ∙ (ap (λ (x : Branch). x.limit) (same_branch b a at is) ∙ full)))))
          where
            clash : {x : ℕ} → None ≡ Some x → ⊥
            clash e = cc
        limited b at (Some limit) is_in none = elim (cases_eq limit (sum_over b.holds g)) [
          | inr differ ↦ inr (extend none (λ a is held full inside. differ
              (some_number limit (sum_over b.holds g) (sym is_in ∙ subst (λ (x : Branch). x.limit ≡ Some (sum_over x.holds g)) (sym (same_branch b a at is)) full))))
          | inl equal ↦ elim (cases_Bool (b.holds i)) [
            | inr out_i ↦ inr (extend none (λ a is held full inside. false≢true (sym out_i ∙ subst (λ (x : Branch). IsTrue (x.holds i)) (sym (same_branch b a at is)) held)))
            | inl in_i ↦ elim (cases_Bool (is_inside (length t.wants) (leaves_of owners u) b)) [
              | inr wide ↦ inr (extend none (λ a is held full inside. false≢true (sym wide ∙ inside-to (length t.wants) (leaves_of owners u) b (subst (λ (x : Branch). IsInside x.holds (leaves_of owners u)) (sym (same_branch b a at is)) inside))))
              | inl small ↦ inl (record { number = k; branch = b; member = at; full = is_in ∙ ap (λ (x : ℕ). Some x) equal; holds = in_i; own = inside-of t (leaves_of owners u) k b tree at small })
            ]
          ]
        ]

        look : (o : Option Branch) → t.branch k ≡ o → NoneTo t owners g u i k → FullWithin t (leaves_of owners u) g i ⊎ NoneTo t owners g u i (suc k)
        look None at none = inr (extend none (λ a is held full inside. absurd (clash (sym at ∙ is))))
          where
            clash : {x : Branch} → None ≡ Some x → ⊥
            clash e = cc
        look (Some b) at none = limited b at b.limit refl none

    -- a leaf whose user has all that it can have is in a full branch within the user
    held_inside : (u i : ℕ) → u < users → i < length g → IsTrue (leaves_of owners u i) → IsUnmet t g i → slice_index n u ≡ slice_index st.outer.wants u → FullWithin t (leaves_of owners u) g i
    held_inside u i less low own unmet all = elim (search_full u i tree.numbers) [
      | inl found ↦ found
      | inr none ↦
          let h = set g i (slice_index g i + 1) in
          let more : IsWithinSet t (leaves_of owners u) h = record {
            leaves = length-set g i (slice_index g i + 1) ∙ within.wanted.leaves;
            wants = λ j l. elim (cases_eq j i) [
              | inl e ↦ subst (λ (x : ℕ). slice_index h x ≤ slice_index t.wants x) (sym e) (omega (arith, get_or-set_same g i (slice_index g i + 1) 0 low, unmet))
              | inr ne ↦ omega (arith, get_or-set_other g i j (slice_index g i + 1) 0 ne, within.wanted.wants j (omega (arith, length-set g i (slice_index g i + 1))))
            ];
            floors = λ j l. elim (cases_eq j i) [
              | inl e ↦ subst (λ (x : ℕ). slice_index t.floors x ≤ slice_index h x) (sym e) (omega (arith, get_or-set_same g i (slice_index g i + 1) 0 low, within.floors i low))
              | inr ne ↦ omega (arith, get_or-set_other g i j (slice_index g i + 1) 0 ne, within.floors j (omega (arith, length-set g i (slice_index g i + 1))))
            ];
            limits = λ k limit b is inside is_limit. elim (cases_Bool (b.holds i)) [
              | inr out_i ↦ omega (arith, sum_over-set_outside b.holds g i (slice_index g i + 1) out_i, within.limits k limit b is is_limit)
              | inl in_i ↦ elim (cases_eq limit (sum_over b.holds g)) [
                | inl equal ↦ absurd (none k b (number k b is) is in_i (is_limit ∙ ap (λ (x : ℕ). Some x) equal) inside)
                | inr differ ↦ omega (arith, sum_over-set_inside b.holds g i (slice_index g i + 1) low in_i, within.limits k limit b is is_limit, differ)
              ]
            ];
          } in
          let bound = (out.most u less).bound h more in
          let grown = sum_over-set_inside (leaves_of owners u) g i (slice_index g i + 1) low own in
          absurd (omega (
            arith,
            bound,
            grown,
            all,
            total u less,
            over_in (leaves_of owners u) g (length owners) size,
            over_in (leaves_of owners u) h (length owners) (length-set g i (slice_index g i + 1) ∙ size),
          ))
    ]
      where
        number : (k : ℕ) (b : Branch) → IsBranch t k b → k < tree.numbers
        number k b is = elim (cases_lt k tree.numbers) [ inl l ↦ l | inr past ↦ absurd (clash (sym (tree.finite k past) ∙ is)) ]
          where
            clash : {x : Branch} → None ≡ Some x → ⊥
            clash e = cc

    -- the total of a user that is not one is 0
    no_user : (v : ℕ) → users ≤ v → total_of owners g v ≡ 0
    no_user v past = sum_in-none (length owners) (leaves_of owners v) (λ i. slice_index g i) (λ i l. elim (cases_Bool (leaves_of owners v i)) [
      | inr none ↦ none
      | inl held ↦ absurd (omega (arith, leaf_owner owners v i held, has.few i l))
    ])

    -- a user with less than it can have is held back by a branch around it
    outer_neck : (u i : ℕ) → u < users → i < length g → slice_index owners i ≡ u → ((j : ℕ) → IsTrue (leaves_of owners u j) → IsNotTooGreat t g i j) → slice_index n u < slice_index st.outer.wants u → (k : ℕ) × (b : Branch) × IsBranch t k b × IsOuterNeck t owners b g i
    outer_neck u i less low owner inner_near more =
        let at = st.outer_backed.backed u (omega (arith, st.outer_within.wanted.leaves, out.each)) more in
        let a = at.1 in
        let neck = at.4 in
        let from = out.from at.0 a at.3 in
        let b = from.1 in
        let con = from.3 in
        let inside : IsInside (leaves_of owners u) b.holds = (con.holds u less).0 neck.holds in
        let same : sum_in users a.holds (λ v. slice_index n v) ≡ sum_in users a.holds (λ v. total_of owners g v) =
        sum_below-same users _ _ (λ v l. ap (λ (x : ℕ). if a.holds v then x else 0) (sym (total v l))) in
        let sums : sum_over a.holds n ≡ sum_over b.holds g = outer_sum a ∙ (same ∙ sym (around_sum from.0 u b a from.2 less inside con)) in (
          from.0,
          b,
          from.2,
          record {
            full = sym con.limit ∙ (neck.full ∙ ap (λ (x : ℕ). Some x) sums);
            all = subst (λ (v : ℕ). IsInside (leaves_of owners v) b.holds) (sym owner) inside;
            greatest = λ j held. inner_near j (subst (λ (v : ℕ). IsTrue (leaves_of owners v j)) owner held);
            richest = λ v in_b. subst (λ (w : ℕ). IsNotTooRich t owners g w v) (sym owner) (elim (cases_lt v users) [
              | inr past ↦ inl (omega (arith, no_user v past))
              | inl user ↦ elim (neck.greatest v ((con.holds v user).1 in_b)) [
                | inl small ↦ inl (omega (arith, small, total v user, total u less))
                | inr floored ↦ inr (total v user ∙ (floored ∙ out.floors v user))
              ]
            ]);
          },
        )

    entry : (i : ℕ) → (e : Option ℕ) × IsNeck t owners g i e
    entry i = elim (cases_lt i (length g)) [
      | inr past ↦ (None, λ low unmet. absurd (omega (arith, past, low)))
      | inl low ↦ elim (cases_lt (slice_index g i) (slice_index t.wants i)) [
        | inr met ↦ (None, λ l unmet. absurd (omega (arith, met, unmet)))
        | inl unmet ↦
            let tight_unmet : IsUnmet st.tight g i = omega (arith, unmet, wants_same i) in
            let at = st.tight_backed.backed i low tight_unmet in
            let b = at.1 in
            let neck = at.4 in
            let u = slice_index owners i in
            let less : u < users = has.few i (omega (arith, size)) in
            let own : IsTrue (leaves_of owners u i) = own_leaf owners i (omega (arith, size)) in
            elim (tig.from at.0 b at.3) [
              | inl old ↦ (
                Some at.0,
                λ l x. (
                  at.0,
                  b,
                  refl,
                  old,
                  inl (record {
                    full = neck.full;
                    holds = neck.holds;
                    own = deep i low tight_unmet at.0 b at.2 at.3 u less own;
                    greatest = λ j held. greatest_of i j (neck.greatest j held);
                  }),
                ),
              )
              | inr user ↦
                  let v = user.0 in
                  let held : IsTrue (leaves_of owners v i) = sym (user.2.holds i) ∙ neck.holds in
                  let same : u ≡ v = leaf_owner owners v i held in
                  let near : (j : ℕ) → IsTrue (leaves_of owners u j) → IsNotTooGreat t g i j =
                  λ j mine. greatest_of i j (neck.greatest j (user.2.holds j ∙ subst (λ (w : ℕ). IsTrue (leaves_of owners w j)) same mine)) in
                  elim (cases_lt (slice_index n u) (slice_index st.outer.wants u)) [
                    | inl more ↦
                        let found = outer_neck u i less low refl near more in
                        (Some found.0, λ l x. (found.0, found.1, refl, found.2, inr found.3))
                    | inr all ↦
                        let found = held_inside u i less low own unmet (omega (arith, all, n_most u less)) in (
                          Some found.number,
                          λ l x. (
                            found.number,
                            found.branch,
                            refl,
                            found.member,
                            inl (record {
                              full = found.full;
                              holds = found.holds;
                              own = found.own;
                              greatest = λ j in_b. near j (found.own j in_b);
                            }),
                          ),
                        )
                  ]
            ]
      ]
    ]
      where
        -- the entry is the deepest full branch, and that of the user is full
        deep : (i : ℕ) → i < length g → IsUnmet st.tight g i → (k : ℕ) (b : Branch) → slice_get st.tight_entries i ≡ Some (Some k) → IsBranch st.tight k b → (u : ℕ) → u < users → IsTrue (leaves_of owners u i) → IsInside b.holds (leaves_of owners u)
        deep i low unmet k b named is u less own = go (st.deepest i low unmet).0 (st.deepest i low unmet).1 (st.deepest i low unmet).2
          where
            same_entry : (x y : Option ℕ) → Some x ≡ Some y → x ≡ y
            same_entry x y e = cc

            at : (m : ℕ) × (a : Branch) × IsBranch st.tight m a × IsUserBranch owners n u a
            at = tig.users_are u less

            user_full : IsFullAbove st.tight g i at.0
            user_full = (at.1, at.2, at.3.holds i ∙ own, at.3.limit ∙ ap (λ (x : ℕ). Some x) (sym (user_sum g u at.1 size at.3.holds ∙ total u less)))

            later : (m : ℕ) → IsFullAbove st.tight g i m → k ≡ m → at.0 ≤ m → IsInside b.holds (leaves_of owners u)
            later m above same le j held =
                let b_i : IsTrue (b.holds i) = subst (λ (x : Branch). IsTrue (x.holds i)) (some_branch above.0 b (sym above.1 ∙ (ap (λ (x : ℕ). st.tight.branch x) (sym same) ∙ is))) above.2 in
                sym (at.3.holds j) ∙ st.later at.0 k i at.1 b at.2 is (omega (arith, same, le)) (at.3.holds i ∙ own) b_i j held

            go : (e : Option ℕ) → slice_get st.tight_entries i ≡ Some e → IsDeepestFull st.tight g i e → IsInside b.holds (leaves_of owners u)
            go None at_i none = absurd (none at.0 user_full)
            go (Some m) at_i deepest = later m deepest.0 (some_number k m (same_entry (Some k) (Some m) (sym named ∙ at_i))) (deepest.1 at.0 user_full)
