-- If each leaf is a user of its own, grants that are backed among leaves are backed among users.
use Rattle.std.proofs.Common.{◌≡◌, ◌∙◌, ℕ, ◌<◌, ◌≤◌, Bool, true, false, List, length, refl, sym, ap, subst, arith, inl, inr, Option}
use Rattle.std.specs.Prelude.{if◌then◌else◌, IsTrue, slice_index}
use Rattle.std.proofs.lemmas.Bool.{cases_lt}
use Rattle.limit_tree.specs.Sharing.{Branch, LimitTree, HasNestedBranches, IsInside, IsWithin, IsBackedBy, IsBottleneck, IsNotTooGreat}
use Rattle.limit_tree.specs.declared.bounds.TheConstants.{MAX_WANT}
use Rattle.limit_tree.proofs.Sums.{sum_below-zero}
use Rattle.grant_certificate.specs.Users.{leaves_of, total_of, HasUsers, IsBackedByUsers, IsNotTooRich, IsOuterNeck}
use Rattle.grant_certificate.proofs.UserInside.{by-users-best}
use Rattle.grant_certificate.proofs.UserSums.{leaf_inside, leaf_owner, own_leaf, sum_single}
use Rattle.user_shares.specs.Faults.{AreSmall}
use Rattle.user_shares.specs.Nodes.{AreTheirOwn}
use Rattle.user_shares.specs.Stages.{IsShared}

none : (c : Bool) (x : ℕ) → (c ≡ true → ⊥) → (if c then x else 0) ≡ 0
none true x out = absurd (out refl)
none false x out = refl

own-here : (owners : List ℕ) (u : ℕ) → AreTheirOwn owners → u < length owners → IsTrue (leaves_of owners u u)
own-here owners u own low = subst (λ (v : ℕ). IsTrue (leaves_of owners v u)) (own u low) (own_leaf owners u low)

own-alone : (owners : List ℕ) (u i : ℕ) → AreTheirOwn owners → IsTrue (leaves_of owners u i) → i ≡ u
own-alone owners u i own held = sym (own i (leaf_inside owners u i held)) ∙ leaf_owner owners u i held

-- a user has what its leaf has, and a number that is no leaf's has nothing
own-total : (owners g : List ℕ) (u : ℕ) → AreTheirOwn owners → u < length owners → total_of owners g u ≡ slice_index g u
own-total owners g u own low =
    sum_single (length owners) (λ i. if leaves_of owners u i then slice_index g i else 0) u low
    (λ i other. none (leaves_of owners u i) (slice_index g i) (λ held. other (own-alone owners u i own held))) ∙
    ap (λ (c : Bool). if c then slice_index g u else 0) (own-here owners u own low)

no-total : (owners g : List ℕ) (u : ℕ) → AreTheirOwn owners → length owners ≤ u → total_of owners g u ≡ 0
no-total owners g u own past =
    sum_below-zero (length owners) (λ i. if leaves_of owners u i then slice_index g i else 0)
    (λ i l. none (leaves_of owners u i) (slice_index g i) (λ held. let same : i ≡ u = own-alone owners u i own held in absurd (omega (arith, l, past, same))))

-- no user in a branch is too rich, if no leaf in it is too great
own-rich : (t : LimitTree) (owners g : List ℕ) (b : Branch) (u v : ℕ) → AreTheirOwn owners → u < length owners → ((j : ℕ) → IsTrue (b.holds j) → IsNotTooGreat t g u j) → IsInside (leaves_of owners v) b.holds → IsNotTooRich t owners g u v
own-rich t owners g b u v own low greatest inside = elim (cases_lt v (length owners)) [
  | inl less ↦ told less (greatest v (inside v (own-here owners v own less)))
  | inr past ↦ inl (omega (arith, no-total owners g v own past))
]
  where
    told : v < length owners → IsNotTooGreat t g u v → IsNotTooRich t owners g u v
    told less (inl small) = inl (omega (arith, small, own-total owners g u own low, own-total owners g v own less))
    told less (inr floored) = inr (own-total owners g v own less ∙ (floored ∙ sym (own-total owners t.floors v own less)))

-- a bottleneck among leaves is one among users
own-neck : (t : LimitTree) (owners g : List ℕ) (b : Branch) (i : ℕ) → AreTheirOwn owners → i < length owners → IsBottleneck t b g i → IsOuterNeck t owners b g i
own-neck t owners g b i own low neck = record {
  full = neck.full;
  all = all;
  greatest = λ j mine. neck.greatest j (all j mine);
  richest = λ v inside. subst (λ (u : ℕ). IsNotTooRich t owners g u v) (sym (own i low)) (own-rich t owners g b i v own low neck.greatest inside);
}
  where
    all : IsInside (leaves_of owners (slice_index owners i)) b.holds
    all j mine =
        let same : j ≡ i = own-alone owners (slice_index owners i) j own mine ∙ own i low in
        subst (λ (n : ℕ). IsTrue (b.holds n)) (sym same) neck.holds

own-backed : (t : LimitTree) (owners g : List ℕ) (c : List (Option ℕ)) → AreTheirOwn owners → length g ≡ length owners → IsBackedBy t g c → IsBackedByUsers t owners g c
own-backed t owners g c own size backed = record {
  leaves = backed.leaves;
  backed = λ i l unmet.
      let at = backed.backed i l unmet in
      (at.0, at.1, at.2, at.3, inr (own-neck t owners g at.1 i own (omega (arith, l, size)) at.4));
}

pub own-shared : (t : LimitTree) (users : ℕ) (owners g : List ℕ) (c : List (Option ℕ)) → HasNestedBranches t → HasUsers t users owners → AreTheirOwn owners → IsWithin t g → IsBackedBy t g c → IsShared t users owners g c
own-shared t users owners g c tree has own within backed =
    let among = own-backed t owners g c own (within.wanted.leaves ∙ sym has.each) backed in
    record { within = within; backed = among; best = by-users-best t users owners g c tree has within among }

-- no user can have more than its leaf wants
pub own-small : (t : LimitTree) (users : ℕ) (owners : List ℕ) → length owners ≡ length t.wants → AreTheirOwn owners → ((i : ℕ) → i < length t.wants → slice_index t.wants i ≤ MAX_WANT) → AreSmall t users owners
own-small t users owners each own few user most less is_most =
    let found = is_most.some in
    let h = found.0 in
    let wants = found.1.wants in
    elim (cases_lt user (length owners)) [
      | inl low ↦ omega (arith, found.2, own-total owners h user own low, wants user (omega (arith, low, each, found.1.leaves)), few user (omega (arith, low, each)))
      | inr past ↦ omega (arith, found.2, no-total owners h user own past)
    ]
