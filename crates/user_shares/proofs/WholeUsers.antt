-- Sums over branches that hold whole users, and over all leaves of a user.
use Rattle.std.proofs.Common.{◌≡◌, ℕ, ◌+◌, ◌<◌, ◌≤◌, Bool, true, false, not, List, length, sum, refl, sym, ap, ◌∙◌, subst, arith, inl, inr}
use Rattle.std.specs.Prelude.{if◌then◌else◌, IsTrue, slice_index}
use Rattle.std.proofs.lemmas.Bool.{cases_eq, cases_lt}
use Rattle.limit_tree.specs.Sharing.{Branch, LimitTree, IsInside, sum_below, sum_over}
use Rattle.limit_tree.specs.declared.bounds.TheConstants.{MAX_WANT}
use Rattle.limit_tree.proofs.Sums.{sum_below-same, sum_in, sum_in-split, sum_by-all_places, sum-wanted}
use Rattle.grant_certificate.specs.Users.{leaves_of, total_of}
use Rattle.grant_certificate.specs.TwoStages.{IsMost, IsWithinSet}
use Rattle.grant_certificate.proofs.UserSums.{covers, covers-from, covers-inside, grouped, leaf_inside, leaf_owner, over_in, own_leaf, sum_single}
use Rattle.grant_certificate.proofs.UserTotals.{bool_same}
use Rattle.user_shares.specs.Faults.{IsTooLarge}
use Rattle.user_shares.specs.Stages.{AreMost, IsHead}

-- the branch holds all leaves of each user of which it holds one
abbrev pub IsWhole : List ℕ → Branch → Type 0
IsWhole owners b = (v i : ℕ) → IsTrue (b.holds i) → IsTrue (leaves_of owners v i) → IsInside (leaves_of owners v) b.holds

held-users : (owners : List ℕ) (b : Branch) → IsWhole owners b → (i : ℕ) → i < length owners → covers owners b (slice_index owners i) ≡ b.holds i
held-users owners b whole i l =
    let v = slice_index owners i in
    bool_same (covers owners b v) (b.holds i)
    (λ all. covers-inside owners b v all i (own_leaf owners i l))
    (λ held. covers-from owners b v i (own_leaf owners i l) (whole v i held (own_leaf owners i l)))

-- what its leaves have is what its users have
by-users : (users : ℕ) (owners g : List ℕ) (b : Branch) → ((i : ℕ) → i < length owners → slice_index owners i < users) → length g ≡ length owners → IsWhole owners b → sum_over b.holds g ≡ sum_in users (covers owners b) (λ v. total_of owners g v)
by-users users owners g b few size whole =
    over_in b.holds g (length owners) size ∙
    (sum_below-same (length owners) (λ i. if b.holds i then slice_index g i else 0) (λ i. if covers owners b (slice_index owners i) then slice_index g i else 0) (λ i l. ap (λ (x : Bool). if x then slice_index g i else 0) (sym (held-users owners b whole i l))) ∙
    sym (grouped users owners (covers owners b) (λ i. slice_index g i) few))

-- grants that give each user the same give it the same
pub whole-same : (users : ℕ) (owners g h : List ℕ) (b : Branch) → ((i : ℕ) → i < length owners → slice_index owners i < users) → length g ≡ length owners → length h ≡ length owners → ((v : ℕ) → v < users → total_of owners g v ≡ total_of owners h v) → IsWhole owners b → sum_over b.holds g ≡ sum_over b.holds h
whole-same users owners g h b few size_g size_h same whole =
    by-users users owners g b few size_g whole ∙
    (sum_below-same users (λ v. if covers owners b v then total_of owners g v else 0) (λ v. if covers owners b v then total_of owners h v else 0) (λ v l. ap (λ (x : ℕ). if covers owners b v then x else 0) (same v l)) ∙
    sym (by-users users owners h b few size_h whole))

below : (x y : ℕ) → x ≤ y → (x ≡ y → ⊥) → x < y
below x y le ne = elim (cases_eq x y) [ inl e ↦ absurd (ne e) | inr differ ↦ omega (arith, le, differ) ]

not-first : (owners : List ℕ) (u first v : ℕ) → IsTrue (leaves_of owners u first) → IsHead owners first → (v ≡ first → ⊥) → IsTrue (leaves_of owners u v) → IsHead owners v → ⊥
not-first owners u first v own_first is_first other own head = elim (cases_lt first v) [
  | inl before ↦ head first before (subst (λ (w : ℕ). IsTrue (leaves_of owners w first)) (sym (leaf_owner owners u v own)) own_first)
  | inr after ↦ is_first v (below v first after other) (subst (λ (w : ℕ). IsTrue (leaves_of owners w v)) (sym (leaf_owner owners u first own_first)) own)
]

nothing : (x : Bool) (y : ℕ) → (x ≡ true → y ≡ 0) → (if x then y else 0) ≡ 0
nothing true y zero = zero refl
nothing false y zero = refl

-- if only first leaves have something, a user has what its first leaf has
pub head-total : (owners g : List ℕ) (u first : ℕ) → IsTrue (leaves_of owners u first) → IsHead owners first → ((i : ℕ) → i < length owners → (IsHead owners i → ⊥) → slice_index g i ≡ 0) → total_of owners g u ≡ slice_index g first
head-total owners g u first own is_first none =
    sum_single (length owners) (λ i. if leaves_of owners u i then slice_index g i else 0) first (leaf_inside owners u first own)
    (λ v other. nothing (leaves_of owners u v) (slice_index g v) (λ mine. none v (leaf_inside owners u v mine) (not-first owners u first v own is_first other mine))) ∙
    ap (λ (x : Bool). if x then slice_index g first else 0) own

-- a user has no more than all have
pub total-sum : (owners g : List ℕ) (u : ℕ) → length g ≡ length owners → total_of owners g u ≤ sum g
total-sum owners g u size =
    let set = leaves_of owners u in
    let f : ℕ → ℕ = λ i. slice_index g i in
    let own : sum_over set g ≡ total_of owners g u = over_in set g (length owners) size in
    let split : sum_below (length g) f ≡ sum_over set g + sum_in (length g) (λ i. not (set i)) f = sum_in-split (length g) set f in
    let all : sum_below (length g) f ≡ sum g = sum_by-all_places (λ x. x) g in
    omega (arith, own, split, all)

-- nor can it have more than all want
pub most-wants : (t : LimitTree) (owners : List ℕ) (u most : ℕ) → length owners ≡ length t.wants → IsMost t owners u most → most ≤ sum t.wants
most-wants t owners u most each is =
    let h = is.some.0 in
    let within : IsWithinSet t (leaves_of owners u) h = is.some.1 in
    let total : total_of owners h u ≡ most = is.some.2 in
    let own : total_of owners h u ≤ sum h = total-sum owners h u (omega (arith, within.leaves, each)) in
    let wanted : sum h ≤ sum t.wants = sum-wanted t h (record { leaves = within.leaves; wants = λ i l. within.wants i l }) in
    omega (arith, total, own, wanted)

-- a user that can have more than the largest want
pub too-large : (t : LimitTree) (users : ℕ) (owners mosts : List ℕ) (user : ℕ) → AreMost t users owners mosts → user < length mosts → MAX_WANT < slice_index mosts user → IsTooLarge t users owners user
too-large t users owners mosts user is low large =
    let less : user < users = omega (arith, low, is.each) in
    record { less = less; most = slice_index mosts user; is_most = is.most user less; large = large }
