-- The trees of the three stages have no fault.
use Rattle.std.proofs.Common.{◌≡◌, ℕ, zero, suc, ◌<◌, ◌≤◌, Bool, true, false, List, length, sum, refl, sym, ap, ◌∙◌, subst, arith, ◌⊎◌, inl, inr, Some, None}
use Rattle.std.specs.Prelude.{slice_get, slice_index}
use Rattle.std.proofs.lemmas.Bool.{cases_Bool, cases_eq}
use Rattle.limit_tree.specs.Sharing.{Branch as SharedBranch, sum_over}
use Rattle.limit_tree.specs.Outline.{is_leaf_kind, leaf_range, limits}
use Rattle.limit_tree.specs.Faults.{kind_fault, tree_fault}
use Rattle.limit_tree.specs.Flat.{IsFlat}
use Rattle.limit_tree.specs.declared.bounds.TheConstants.{MAX_WANT, MAX_LIMIT}
use Rattle.limit_tree.specs.declared.place.NodeKind.{NodeKind}
use Rattle.limit_tree.specs.declared.place.NodeKind.TheVariants.{Branch, Leaf}
use Rattle.limit_tree.specs.declared.place.Place.{Place}
use Rattle.limit_tree.proofs.Leaves.{length-floors_in, length-wants_in}
use Rattle.limit_tree.proofs.Sums.{sum_in-same}
use Rattle.grant_certificate.specs.Users.{leaves_of, total_of, HasUsers}
use Rattle.grant_certificate.proofs.UserSums.{leaf_inside, leaf_owner, over_in}
use Rattle.user_shares.specs.Kinds.{AreAlike, AreKinds, HaveRanges, IsInnerKind, IsOuterKind, IsTightKind}
use Rattle.user_shares.specs.Nodes.{AreUsers}
use Rattle.user_shares.specs.Rebuilt.{AreSoundKinds}
use Rattle.user_shares.specs.Stages.{IsHead, AreMost, AreOuterTotals, AreTotals, HaveHeads, IsOuterTree}
use Rattle.user_shares.proofs.Alike.{alike-at, alike-of, branch-limit, has-kinds, inner-keeps, inner-tree, is-own, outer-keeps, outer-other, outer-tree, own_branch, set-owned, tight-keeps, tight-tree, user-at, user-range}
use Rattle.user_shares.proofs.Faultless.{branch-faultless, faultless, first-faultless, kind-at, leaf-faultless}
use Rattle.user_shares.proofs.Kinded.{head-from, head-to, leaf-one}
use Rattle.user_shares.proofs.Sets.{some_number, within-set}
use Rattle.user_shares.proofs.WholeUsers.{IsWhole, head-total, most-wants, whole-same}

-- a branch that is kept holds floors within its limit, if the floors are kept
kept-fits : (outline : List Place) (floors : List ℕ) (k limit : ℕ) (p q : Place) → IsFlat outline → slice_get outline k ≡ Some p → p.kind ≡ Branch (Some limit) → q.first ≡ p.first → q.leaves ≡ p.leaves → floors ≡ (limits outline).floors → sum_over (leaf_range q.first q.leaves) floors ≤ limit
kept-fits outline floors k limit p q flat got kind first leaves same =
    let t = limits outline in
    let fits : sum_over (leaf_range p.first p.leaves) t.floors ≤ limit = flat.limit_tree.floors.limits k limit (own_branch (Some limit) p) (is-own outline k p (Some limit) got kind) refl in
    subst (λ (fs : List ℕ). sum_over (leaf_range q.first q.leaves) fs ≤ limit) (sym same)
    (subst (λ (x : ℕ). sum_over (leaf_range x q.leaves) t.floors ≤ limit) (sym first)
    (subst (λ (x : ℕ). sum_over (leaf_range p.first x) t.floors ≤ limit) (sym leaves) fits))

inner-own : (owners : List ℕ) (k : ℕ) (p : Place) (kind : NodeKind) → IsInnerKind owners k p kind → kind_fault p.kind ≡ None → kind_fault kind ≡ None
inner-own owners k p (Leaf want floor) is none = ap kind_fault (is.leaf (sym is.alike)) ∙ none
inner-own owners k p (Branch None) is none = refl
inner-own owners k p (Branch (Some most)) is none = ap kind_fault (is.limited most refl).1 ∙ none

pub inner-sound : (outline : List Place) (owners : List ℕ) (kinds : List NodeKind) → tree_fault outline ≡ None → IsFlat outline → AreKinds outline (IsInnerKind owners) kinds → AreSoundKinds outline kinds
inner-sound outline owners kinds sound flat are tree reshaped = faultless outline tree kinds sound (has-kinds outline (IsInnerKind owners) kinds (inner-keeps owners) are) reshaped own fits
  where
    alike : AreAlike outline (IsInnerKind owners) tree
    alike = alike-of outline (IsInnerKind owners) kinds tree are reshaped

    own : (k : ℕ) (p q : Place) → slice_get outline k ≡ Some p → slice_get tree k ≡ Some q → kind_fault q.kind ≡ None
    own k p q got got_q =
        inner-own owners k p q.kind (alike-at outline tree (IsInnerKind owners) k p q alike got got_q).0
        (kind-at 0 0 0 outline k p (first-faultless outline sound) got)

    fits : (k limit : ℕ) (p q : Place) → slice_get outline k ≡ Some p → slice_get tree k ≡ Some q → q.kind ≡ Branch (Some limit) → sum_over (leaf_range q.first q.leaves) (limits tree).floors ≤ limit
    fits k limit p q got got_q kind =
        let at = alike-at outline tree (IsInnerKind owners) k p q alike got got_q in
        kept-fits outline (limits tree).floors k limit p q flat got (sym (at.0.limited limit kind).1 ∙ kind) at.1 at.2 (inner-tree outline tree owners alike).floors

-- no user has more than a limit may be
total-small : (outline : List Place) (users : ℕ) (owners totals : List ℕ) → IsFlat outline → length owners ≡ length (limits outline).wants → AreOuterTotals (limits outline) users owners totals → (u : ℕ) → u < users → slice_index totals u ≤ MAX_LIMIT
total-small outline users owners totals flat each outer u less =
    let wanted = outer.within.wanted in
    let low : u < length totals = omega (arith, less, wanted.leaves, outer.is_outer.each) in
    let most : slice_index outer.outer.wants u ≤ sum (limits outline).wants = most-wants (limits outline) owners u (slice_index outer.outer.wants u) each (outer.is_outer.most u less) in
    let few : sum (limits outline).wants ≤ MAX_LIMIT = omega (arith, flat.few_octets, flat.few_leaves) in
    omega (arith, wanted.wants u low, most, few)

-- nor less than its floors
total-floors : (outline : List Place) (users : ℕ) (owners totals : List ℕ) → AreOuterTotals (limits outline) users owners totals → (u : ℕ) → u < users → total_of owners (limits outline).floors u ≤ slice_index totals u
total-floors outline users owners totals outer u less =
    let low : u < length totals = omega (arith, less, outer.within.wanted.leaves, outer.is_outer.each) in
    omega (arith, outer.within.floors u low, outer.is_outer.floors u less)

pub tight-sound : (outline : List Place) (users owners totals : List ℕ) (kinds : List NodeKind) → tree_fault outline ≡ None → IsFlat outline → AreUsers outline users owners → AreOuterTotals (limits outline) (length users) owners totals → AreKinds outline (IsTightKind users totals) kinds → AreSoundKinds outline kinds
tight-sound outline users owners totals kinds sound flat us outer are tree reshaped = faultless outline tree kinds sound (has-kinds outline has kinds (tight-keeps users totals) are) reshaped own fits
  where
    has : ℕ → Place → NodeKind → Type 0
    has = IsTightKind users totals

    alike : AreAlike outline (IsTightKind users totals) tree
    alike = alike-of outline (IsTightKind users totals) kinds tree are reshaped

    floors : (limits tree).floors ≡ (limits outline).floors
    floors = (tight-tree outline tree users owners totals us alike).floors

    own : (k : ℕ) (p q : Place) → slice_get outline k ≡ Some p → slice_get tree k ≡ Some q → kind_fault q.kind ≡ None
    own k p q got got_q =
        let at = alike-at outline tree (IsTightKind users totals) k p q alike got got_q in
        elim (user-at users k) [
          | inl found ↦ ap kind_fault (at.0.user found.0 found.1 found.2) ∙ branch-faultless (slice_index totals found.0) (total-small outline (length users) owners totals flat us.each outer found.0 found.1)
          | inr none ↦ ap kind_fault (at.0.other none) ∙ kind-at 0 0 0 outline k p (first-faultless outline sound) got
        ]

    -- the floors of a user's leaves
    of_user : (k : ℕ) (p q : Place) → slice_get outline k ≡ Some p → q.first ≡ p.first → q.leaves ≡ p.leaves → (u : ℕ) → u < length users → slice_index users u ≡ k → sum_over (leaf_range q.first q.leaves) (limits tree).floors ≡ total_of owners (limits outline).floors u
    of_user k p q got first leaves u less at =
        let fs = (limits outline).floors in
        let size : length fs ≡ length owners = omega (arith, length-floors_in outline, length-wants_in outline, us.each) in
        ap (λ (gs : List ℕ). sum_over (leaf_range q.first q.leaves) gs) floors ∙
        (ap (λ (x : ℕ). sum_over (leaf_range x q.leaves) fs) first ∙
        (ap (λ (x : ℕ). sum_over (leaf_range p.first x) fs) leaves ∙
        (sum_in-same (length fs) (leaf_range p.first p.leaves) (leaves_of owners u) (λ i. slice_index fs i) (λ i. sym (user-range outline users owners k p us got u less at i)) ∙
        over_in (leaves_of owners u) fs (length owners) size)))

    fits : (k limit : ℕ) (p q : Place) → slice_get outline k ≡ Some p → slice_get tree k ≡ Some q → q.kind ≡ Branch (Some limit) → sum_over (leaf_range q.first q.leaves) (limits tree).floors ≤ limit
    fits k limit p q got got_q kind =
        let at = alike-at outline tree (IsTightKind users totals) k p q alike got got_q in
        elim (user-at users k) [
          | inl found ↦
              let is : limit ≡ slice_index totals found.0 = some_number limit (slice_index totals found.0) (branch-limit (Some limit) (Some (slice_index totals found.0)) (sym kind ∙ at.0.user found.0 found.1 found.2)) in
              let sums : sum_over (leaf_range q.first q.leaves) (limits tree).floors ≡ total_of owners (limits outline).floors found.0 = of_user k p q got at.1 at.2 found.0 found.1 found.2 in
              let most : total_of owners (limits outline).floors found.0 ≤ slice_index totals found.0 = total-floors outline (length users) owners totals outer found.0 found.1 in
              omega (arith, is, sums, most)
          | inr none ↦ kept-fits outline (limits tree).floors k limit p q flat got (sym (at.0.other none) ∙ kind) at.1 at.2 floors
        ]

-- a leaf is the first of its user, or it is not
head-at : (owners : List ℕ) (i : ℕ) → HaveRanges owners → i < length owners → IsHead owners i ⊎ (IsHead owners i → ⊥)
head-at owners zero ranges low = inl (λ j less own. absurd (omega (arith, less)))
head-at owners (suc i) ranges low = elim (cases_eq (slice_index owners i) (slice_index owners (suc i))) [
  | inl same ↦ inr (λ head. head-to owners (suc i) i low (omega arith) head same)
  | inr other ↦ inl (head-from owners (suc i) i ranges low (omega arith) other)
]

outer-branch : (owners most floors : List ℕ) (k : ℕ) (p : Place) (kind : NodeKind) → IsOuterKind owners most floors k p kind → is_leaf_kind p.kind ≡ false → kind_fault p.kind ≡ None → kind_fault kind ≡ None
outer-branch owners most floors k p (Leaf want floor) is branch none = absurd (leaf-or-branch (is_leaf_kind p.kind) is.alike branch)
  where
    leaf-or-branch : (b : Bool) → true ≡ b → b ≡ false → ⊥
    leaf-or-branch b leaf not_leaf = cc
outer-branch owners most floors k p (Branch None) is branch none = refl
outer-branch owners most floors k p (Branch (Some limit)) is branch none = ap kind_fault (is.limited limit refl).1 ∙ none

pub outer-sound : (outline : List Place) (owners most floors : List ℕ) (kinds : List NodeKind) → tree_fault outline ≡ None → IsFlat outline → HasUsers (limits outline) (length most) owners → HaveHeads (length most) owners → HaveRanges owners → AreMost (limits outline) (length most) owners most → ((u : ℕ) → u < length most → slice_index most u ≤ MAX_WANT) → AreTotals (length most) owners (limits outline).floors floors → AreKinds outline (IsOuterKind owners most floors) kinds → AreSoundKinds outline kinds
outer-sound outline owners most floors kinds sound flat users heads ranges mosts small sums are tree reshaped = faultless outline tree kinds sound (has-kinds outline (IsOuterKind owners most floors) kinds (outer-keeps owners most floors) are) reshaped own fits
  where
    alike : AreAlike outline (IsOuterKind owners most floors) tree
    alike = alike-of outline (IsOuterKind owners most floors) kinds tree are reshaped

    -- a user can have its floors
    floored : (u : ℕ) → u < length most → slice_index floors u ≤ slice_index most u
    floored u less =
        let t = limits outline in
        omega (arith, sums.sums u less, (mosts.most u less).bound t.floors (within-set t (leaves_of owners u) t.floors flat.limit_tree.floors))

    own : (k : ℕ) (p q : Place) → slice_get outline k ≡ Some p → slice_get tree k ≡ Some q → kind_fault q.kind ≡ None
    own k p q got got_q =
        let is = (alike-at outline tree (IsOuterKind owners most floors) k p q alike got got_q).0 in
        elim (cases_Bool (is_leaf_kind p.kind)) [
          | inr branch ↦ outer-branch owners most floors k p q.kind is branch (kind-at 0 0 0 outline k p (first-faultless outline sound) got)
          | inl leaf ↦
              let one = leaf-one outline k p flat.shaped got leaf in
              let low : p.first < length owners = omega (arith, one, flat.bounded k p got, users.each) in
              elim (head-at owners p.first ranges low) [
                | inl head ↦
                    let u = slice_index owners p.first in
                    let less : u < length most = users.few p.first low in
                    ap kind_fault (is.head leaf head) ∙ leaf-faultless (slice_index most u) (slice_index floors u) (small u less) (floored u less)
                | inr other ↦ ap kind_fault (is.other leaf other) ∙ leaf-faultless 0 0 (omega arith) (omega arith)
              ]
        ]

    outer : IsOuterTree (limits outline) owners most floors (limits tree)
    outer = outer-tree outline tree owners most floors flat reshaped.shaped alike

    size : length (limits tree).floors ≡ length owners
    size = omega (arith, length-floors_in tree, length-wants_in tree, outer.leaves, users.each)

    size_own : length (limits outline).floors ≡ length owners
    size_own = omega (arith, length-floors_in outline, length-wants_in outline, users.each)

    -- each user has its floors
    same : (u : ℕ) → u < length most → total_of owners (limits tree).floors u ≡ total_of owners (limits outline).floors u
    same u less =
        let head = heads u less in
        let low : head.0 < length (limits outline).wants = omega (arith, leaf_inside owners u head.0 head.1, users.each) in
        let owner : slice_index owners head.0 ≡ u = leaf_owner owners u head.0 head.1 in
        head-total owners (limits tree).floors u head.0 head.1 head.2
        (λ i l other. (outer-other outline tree owners most floors flat.shaped reshaped.shaped alike i (omega (arith, l, users.each)) other).1) ∙
        ((outer.head head.0 low head.2).1 ∙ (ap (λ (v : ℕ). slice_index floors v) owner ∙ sums.sums u less))

    fits : (k limit : ℕ) (p q : Place) → slice_get outline k ≡ Some p → slice_get tree k ≡ Some q → q.kind ≡ Branch (Some limit) → sum_over (leaf_range q.first q.leaves) (limits tree).floors ≤ limit
    fits k limit p q got got_q kind =
        let at = alike-at outline tree (IsOuterKind owners most floors) k p q alike got got_q in
        let limited = at.0.limited limit kind in
        let kept : p.kind ≡ Branch (Some limit) = sym limited.1 ∙ kind in
        let b : SharedBranch = own_branch (Some limit) p in
        let whole : IsWhole owners b = λ v i held mine. elim (users.nested k v b (is-own outline k p (Some limit) got kept)) [
          | inl inside ↦ absurd (limited.0 (set-owned owners p b v i (λ j. refl) held inside))
          | inr (inl large) ↦ large
          | inr (inr apart) ↦ absurd (apart i held mine)
        ] in
        let within : sum_over (leaf_range p.first p.leaves) (limits outline).floors ≤ limit = kept-fits outline (limits outline).floors k limit p p flat got kept refl refl refl in
        let equal : sum_over (leaf_range p.first p.leaves) (limits tree).floors ≡ sum_over (leaf_range p.first p.leaves) (limits outline).floors = whole-same (length most) owners (limits tree).floors (limits outline).floors b users.few size size_own same whole in
        let moved : sum_over (leaf_range q.first q.leaves) (limits tree).floors ≡ sum_over (leaf_range p.first p.leaves) (limits tree).floors =
        ap (λ (x : ℕ). sum_over (leaf_range x q.leaves) (limits tree).floors) at.1 ∙ ap (λ (x : ℕ). sum_over (leaf_range p.first x) (limits tree).floors) at.2 in
        omega (arith, within, equal, moved)
