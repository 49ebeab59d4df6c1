-- If one leaf of each user wants what the user can have, the totals of backed grants are backed in a tree over users.
use Rattle.std.proofs.Common.{◌≡◌, ℕ, suc, ◌+◌, ◌<◌, ◌≤◌, Bool, true, false, not, ◌&&◌, List, length, refl, sym, ap, subst, ◌∙◌, arith, ◌⊎◌, inl, inr, Option, Some, None}
use Rattle.std.specs.Prelude.{if◌then◌else◌, nat_lt, IsTrue, slice_get, slice_index}
use Rattle.std.specs.Option.{option_and_then}
use Rattle.std.proofs.lemmas.Bool.{cases_eq, cases_lt, cases_Bool, and_parts, and_from, lt-ltb, ltb-true, not-true, false≢true}
use Rattle.limit_tree.specs.Sharing.{Branch, LimitTree, HasNestedBranches, IsBranch, IsInside, IsWithin, IsFull, IsUnmet, IsBackedBy, IsBottleneck, IsNotTooGreat, sum_below, sum_over}
use Rattle.limit_tree.proofs.Sums.{sum_below-same, sum_in}
use Rattle.grant_certificate.specs.Users.{tabulate, leaves_of, total_of, HasUsers}
use Rattle.grant_certificate.specs.TwoStages.{IsMost, IsContraction, IsOuterOf}
use Rattle.grant_certificate.proofs.UserSums.{length-tabulate, get-tabulate, sum_single, own_leaf, leaf_inside, leaf_owner, grouped, over_in, any_below, any-from, any-found, covers, covers-inside, covers-some, covers-from}
use Rattle.grant_certificate.proofs.UserTotals.{bool_same}
use Rattle.user_shares.specs.Stages.{IsHead, AreSame, IsOuterTree, AreTotals, AreMost, AreOuterTotals, HaveHeads}
use Rattle.user_shares.proofs.Sets.{some_branch, is_inside, inside-of, inside-to}
use Rattle.user_shares.proofs.InnerStage.{same-sum}

-- the branch has all leaves of some user, and others
abbrev takes_in : ℕ → ℕ → List ℕ → Branch → Bool
takes_in n users owners b = any_below users (λ v. covers owners b v && not (is_inside n (leaves_of owners v) b))

-- the branch over users
abbrev contraction : ℕ → List ℕ → Branch → Branch
contraction users owners b = record { limit = b.limit; holds = λ v. nat_lt v users && covers owners b v }

abbrev contract : ℕ → ℕ → List ℕ → Branch → Option Branch
contract n users owners b = if takes_in n users owners b then Some (contraction users owners b) else None

-- the tree over users
abbrev contracted : LimitTree → ℕ → List ℕ → List ℕ → List ℕ → LimitTree
contracted t users owners tops floors = record {
  wants = tops;
  floors = floors;
  branch = λ k. option_and_then (contract (length t.wants) users owners) (t.branch k);
}

-- the branch of the tree itself that a branch over users is
record IsFrom (t : LimitTree) (users : ℕ) (owners : List ℕ) (k : ℕ) (a : Branch) : Type 0 where
  pub branch : Branch
  pub member : IsBranch t k branch
  pub same : contraction users owners branch ≡ a
  pub user : ℕ
  pub less : user < users
  pub all : IsTrue (covers owners branch user)
  pub others : IsInside branch.holds (leaves_of owners user) → ⊥

contracted-from : (t : LimitTree) (users : ℕ) (owners tops floors : List ℕ) (k : ℕ) (a : Branch) → IsBranch (contracted t users owners tops floors) k a → IsFrom t users owners k a
contracted-from t users owners tops floors k a is = go (t.branch k) refl is
  where
    n : ℕ
    n = length t.wants

    pick : (b : Branch) → t.branch k ≡ Some b → (c : Bool) → takes_in n users owners b ≡ c → (if c then Some (contraction users owners b) else None) ≡ Some a → IsFrom t users owners k a
    pick b at true takes e =
        let found = any-found users (λ v. covers owners b v && not (is_inside n (leaves_of owners v) b)) takes in
        let v = found.0 in
        let both = and_parts (covers owners b v) (not (is_inside n (leaves_of owners v) b)) found.2 in
        record {
          branch = b;
          member = at;
          same = some_branch (contraction users owners b) a e;
          user = v;
          less = found.1;
          all = both.0;
          others = λ inside. false≢true (sym (not-true (is_inside n (leaves_of owners v) b) both.1) ∙ inside-to n (leaves_of owners v) b inside);
        }
    pick b at false takes e = absurd (cc)

    go : (o : Option Branch) → t.branch k ≡ o → option_and_then (contract n users owners) o ≡ Some a → IsFrom t users owners k a
    go None at e = absurd (cc)
    go (Some b) at e = pick b at (takes_in n users owners b) refl e

contracted-kept : (t : LimitTree) (users : ℕ) (owners tops floors : List ℕ) (k v : ℕ) (b : Branch) → HasNestedBranches t → IsBranch t k b → v < users → IsTrue (covers owners b v) → (IsInside b.holds (leaves_of owners v) → ⊥) → IsBranch (contracted t users owners tops floors) k (contraction users owners b)
contracted-kept t users owners tops floors k v b tree is less all others =
    let n = length t.wants in
    let set = leaves_of owners v in
    let out : is_inside n set b ≡ false = elim (cases_Bool (is_inside n set b)) [ inl yes_in ↦ absurd (others (inside-of t set k b tree is yes_in)) | inr not_in ↦ not_in ] in
    let takes : takes_in n users owners b ≡ true = any-from users (λ w. covers owners b w && not (is_inside n (leaves_of owners w) b)) v less (and_from (covers owners b v) (not (is_inside n set b)) all (ap not out)) in
    ap (option_and_then (contract n users owners)) is ∙ ap (λ (c : Bool). if c then Some (contraction users owners b) else None) takes

pub outer-totals : (t s : LimitTree) (users : ℕ) (owners tops floors g n : List ℕ) (c : List (Option ℕ)) → HasNestedBranches t → HasUsers t users owners → HaveHeads users owners → AreMost t users owners tops → AreTotals users owners t.floors floors → IsOuterTree t owners tops floors s → IsWithin s g → IsBackedBy s g c → AreTotals users owners g n → AreOuterTotals t users owners n
outer-totals t s users owners tops floors g n c tree has heads most floored outer within backed totals = record {
  outer = o;
  entries = tabulate users (λ u. (entry u).0);
  is_outer = is_outer;
  within = within_o;
  backed = record {
    leaves = length-tabulate users (λ u. (entry u).0) ∙ sym most.each;
    backed = λ u l unmet.
        let at = (entry u).1 (omega (arith, l, totals.each)) unmet in
        (at.0, at.1, get-tabulate users (λ v. (entry v).0) u (omega (arith, l, totals.each)) ∙ ap (λ (e : Option ℕ). Some e) at.2, at.3, at.4);
  };
}
  where
    o : LimitTree
    o = contracted t users owners tops floors

    size : length g ≡ length owners
    size = within.wanted.leaves ∙ (outer.leaves ∙ sym has.each)

    -- the first leaf of a user
    head : (u : ℕ) → u < users → ℕ
    head u less = (heads u less).0

    owner_of : (u : ℕ) (less : u < users) → slice_index owners (head u less) ≡ u
    owner_of u less = leaf_owner owners u (head u less) (heads u less).1

    low : (u : ℕ) (less : u < users) → head u less < length owners
    low u less = leaf_inside owners u (head u less) (heads u less).1

    below : (x y : ℕ) → x ≤ y → (x ≡ y → ⊥) → x < y
    below x y le ne = elim (cases_eq x y) [ inl e ↦ absurd (ne e) | inr differ ↦ omega (arith, le, differ) ]

    not_head : (u : ℕ) (less : u < users) (v : ℕ) → (v ≡ head u less → ⊥) → IsTrue (leaves_of owners u v) → IsHead owners v → ⊥
    not_head u less v other own first = elim (cases_lt (head u less) v) [
      | inl before ↦ first (head u less) before (subst (λ (w : ℕ). IsTrue (leaves_of owners w (head u less))) (sym (leaf_owner owners u v own)) (heads u less).1)
      | inr after ↦ (heads u less).2 v (below v (head u less) after other) (subst (λ (w : ℕ). IsTrue (leaves_of owners w v)) (sym (owner_of u less)) own)
    ]

    nothing : (x : Bool) (y : ℕ) → (x ≡ true → y ≡ 0) → (if x then y else 0) ≡ 0
    nothing true y zero = zero refl
    nothing false y zero = refl

    met : (v : ℕ) → v < length owners → slice_index s.wants v ≡ 0 → slice_index g v ≡ 0
    met v l none = omega (arith, within.wanted.wants v (omega (arith, size, l)), none)

    -- only the first leaf of a user has something
    total_head : (u : ℕ) (less : u < users) → total_of owners g u ≡ slice_index g (head u less)
    total_head u less =
        sum_single (length owners) (λ i. if leaves_of owners u i then slice_index g i else 0) (head u less) (low u less)
        (λ v other. nothing (leaves_of owners u v) (slice_index g v) (λ own.
        let l : v < length owners = leaf_inside owners u v own in
        met v l (outer.other v (omega (arith, l, has.each)) (not_head u less v other own)))) ∙
        ap (λ (x : Bool). if x then slice_index g (head u less) else 0) (heads u less).1

    n_head : (u : ℕ) (less : u < users) → slice_index n u ≡ slice_index g (head u less)
    n_head u less = totals.sums u less ∙ total_head u less

    want_head : (u : ℕ) (less : u < users) → slice_index s.wants (head u less) ≡ slice_index tops u
    want_head u less = (outer.head (head u less) (omega (arith, low u less, has.each)) (heads u less).2).0 ∙ ap (λ (w : ℕ). slice_index tops w) (owner_of u less)

    floor_head : (u : ℕ) (less : u < users) → slice_index s.floors (head u less) ≡ slice_index floors u
    floor_head u less = (outer.head (head u less) (omega (arith, low u less, has.each)) (heads u less).2).1 ∙ ap (λ (w : ℕ). slice_index floors w) (owner_of u less)

    -- a branch with all leaves of a user, and others, is inside no user
    not_any : (b : Branch) (v : ℕ) → IsTrue (covers owners b v) → (IsInside b.holds (leaves_of owners v) → ⊥) → (u : ℕ) → IsInside b.holds (leaves_of owners u) → ⊥
    not_any b v all others u inside =
        let some = covers-some owners b v all in
        let own_u = inside some.0 (covers-inside owners b v all some.0 some.1) in
        let same : u ≡ v = sym (leaf_owner owners u some.0 own_u) ∙ leaf_owner owners v some.0 some.1 in
        others (subst (λ (w : ℕ). IsInside b.holds (leaves_of owners w)) same inside)

    whole : (k v : ℕ) (b : Branch) (i : ℕ) → IsBranch t k b → ((u : ℕ) → IsInside b.holds (leaves_of owners u) → ⊥) → IsTrue (b.holds i) → IsTrue (leaves_of owners v i) → IsInside (leaves_of owners v) b.holds
    whole k v b i is none in_b own = elim (has.nested k v b is) [
      | inl inside ↦ absurd (none v inside)
      | inr (inl large) ↦ large
      | inr (inr apart) ↦ absurd (apart i in_b own)
    ]

    -- what users have in a branch over them is what their leaves have in the branch
    sums : (k : ℕ) (b : Branch) → IsBranch t k b → ((u : ℕ) → IsInside b.holds (leaves_of owners u) → ⊥) → sum_over (contraction users owners b).holds n ≡ sum_over b.holds g
    sums k b is none =
        over_in held n users totals.each ∙
        (sum_below-same users _ _ (λ v l. ap (λ (x : ℕ). if held v then x else 0) (totals.sums v l)) ∙
        (grouped users owners held (λ i. slice_index g i) has.few ∙
        (sum_below-same (length owners) _ _ (λ i l. ap (λ (x : Bool). if x then slice_index g i else 0) (same i l)) ∙
        sym (over_in b.holds g (length owners) size))))
      where
        held : ℕ → Bool
        held v = nat_lt v users && covers owners b v

        same : (i : ℕ) → i < length owners → held (slice_index owners i) ≡ b.holds i
        same i l =
            let v = slice_index owners i in
            bool_same (held v) (b.holds i)
            (λ is_held. covers-inside owners b v (and_parts (nat_lt v users) (covers owners b v) is_held).1 i (own_leaf owners i l))
            (λ in_b. and_from (nat_lt v users) (covers owners b v) (lt-ltb v users (has.few i l)) (covers-from owners b v i (own_leaf owners i l) (whole k v b i is none in_b (own_leaf owners i l))))

    is_outer : IsOuterOf t users owners o
    is_outer = record {
      each = most.each;
      most = λ u less. most.most u less;
      floors = λ u less. floored.sums u less;
      from = λ j a is.
          let f = contracted-from t users owners tops floors j a is in
          let con : IsContraction users owners f.branch (contraction users owners f.branch) = contracts f.branch in
          (j, f.branch, f.member, subst (λ (x : Branch). IsContraction users owners f.branch x) f.same con);
      kept = λ k u b is less inside others. (
        k,
        contraction users owners b,
        contracted-kept t users owners tops floors k u b tree is less (covers-from owners b u (head u less) (heads u less).1 inside) others,
        contracts b,
      );
    }
      where
        contracts : (b : Branch) → IsContraction users owners b (contraction users owners b)
        contracts b = record {
          limit = refl;
          only = λ u held. ltb-true u users (and_parts (nat_lt u users) (covers owners b u) held).0;
          holds = λ u less. (
            λ held. covers-inside owners b u (and_parts (nat_lt u users) (covers owners b u) held).1,
            λ inside. and_from (nat_lt u users) (covers owners b u) (lt-ltb u users less) (covers-from owners b u (head u less) (heads u less).1 inside),
          );
        }

    within_o : IsWithin o n
    within_o = record {
      wanted = record {
        leaves = totals.each ∙ sym most.each;
        wants = λ u l.
            let less : u < users = omega (arith, l, totals.each) in
            omega (arith, n_head u less, want_head u less, within.wanted.wants (head u less) (omega (arith, low u less, size)));
      };
      floors = λ u l.
          let less : u < users = omega (arith, l, totals.each) in
          omega (arith, n_head u less, floor_head u less, within.floors (head u less) (omega (arith, low u less, size)));
      limits = λ k limit a is is_limit.
          let f = contracted-from t users owners tops floors k a is in
          let b = f.branch in
          let none = not_any b f.user f.all f.others in
          let kept = outer.kept k b f.member none in
          let of_b : b.limit ≡ Some limit = ap (λ (x : Branch). x.limit) f.same ∙ is_limit in
          let fits : sum_over kept.0.holds g ≤ limit = within.limits k limit kept.0 kept.1 (kept.2 ∙ of_b) in
          let moved : sum_over kept.0.holds g ≡ sum_over b.holds g = same-sum kept.0 b g kept.3 in
          let over : sum_over a.holds n ≡ sum_over (contraction users owners b).holds n = ap (λ (x : Branch). sum_over x.holds n) (sym f.same) in
          omega (arith, fits, moved, over, sums k b f.member none);
    }

    entry : (u : ℕ) → (e : Option ℕ) × (u < users → IsUnmet o n u → (k : ℕ) × (b : Branch) × (e ≡ Some k) × IsBranch o k b × IsBottleneck o b n u)
    entry u = elim (cases_lt u users) [
      | inr past ↦ (None, λ less unmet. absurd (omega (arith, past, less)))
      | inl less ↦ elim (cases_lt (slice_index n u) (slice_index tops u)) [
        | inr full ↦ (None, λ l unmet. absurd (omega (arith, full, unmet)))
        | inl short ↦
            let h = head u less in
            let at = backed.backed h (omega (arith, low u less, size)) (omega (arith, n_head u less, want_head u less, short)) in
            let neck = at.4 in
            let from = outer.from at.0 (sum_over at.1.holds g) at.1 at.3 neck.full in
            let b = from.0 in
            let in_b : IsTrue (b.holds h) = sym (from.3 h) ∙ neck.holds in
            let none : (v : ℕ) → IsInside b.holds (leaves_of owners v) → ⊥ = λ v inside. from.4 v h in_b inside in
            let all = covers-from owners b u h (heads u less).1 (whole at.0 u b h from.1 none in_b (heads u less).1) in
            let over : sum_over at.1.holds g ≡ sum_over (contraction users owners b).holds n = same-sum at.1 b g from.3 ∙ sym (sums at.0 b from.1 none) in (
              Some at.0,
              λ l unmet. (
                at.0,
                contraction users owners b,
                refl,
                contracted-kept t users owners tops floors at.0 u b tree from.1 less all (none u),
                record {
                  full = from.2 ∙ ap (λ (x : ℕ). Some x) over;
                  holds = and_from (nat_lt u users) (covers owners b u) (lt-ltb u users less) all;
                  greatest = λ v held.
                      let both = and_parts (nat_lt v users) (covers owners b v) held in
                      let less_v = ltb-true v users both.0 in
                      let in_a : IsTrue (at.1.holds (head v less_v)) = from.3 (head v less_v) ∙ covers-inside owners b v both.1 (head v less_v) (heads v less_v).1 in
                      near u less v less_v (neck.greatest (head v less_v) in_a);
                },
              ),
            )
      ]
    ]
      where
        near : (u : ℕ) (less : u < users) (v : ℕ) (less_v : v < users) → IsNotTooGreat s g (head u less) (head v less_v) → IsNotTooGreat o n u v
        near u less v less_v (inl small) = inl (omega (arith, small, n_head u less, n_head v less_v))
        near u less v less_v (inr at_floor) = inr (n_head v less_v ∙ (at_floor ∙ floor_head v less_v))

pub outer-backed : (t s : LimitTree) (users : ℕ) (owners most floors g totals : List ℕ) (c : List (Option ℕ)) → HasNestedBranches t → HasUsers t users owners → HaveHeads users owners → AreMost t users owners most → AreTotals users owners t.floors floors → IsOuterTree t owners most floors s → IsWithin s g → IsBackedBy s g c → AreTotals users owners g totals → AreOuterTotals t users owners totals
outer-backed t s users owners most floors g totals c tree has heads is_most floored outer within backed sums = outer-totals t s users owners most floors g totals c tree has heads is_most floored outer within backed sums
