-- Wants that one limit holds back get the same, but for one octet, or their floor.
use Rattle.std.proofs.Common.{◌≡◌, ◌∙◌, ◌<◌, ◌⊎◌, ℕ, List, Option, Some, length, sym, subst, arith, inl, inr, slice_index, slice_get, IsTrue}
use Rattle.std.proofs.lemmas.Bool.{cases_lt}
use Rattle.limit_tree.specs.Sharing.{Branch, LimitTree, IsBranch, IsBottleneck, IsFullAbove, IsNotTooGreat, IsUnmet}
use Rattle.grant_certificate.specs.Users.{leaves_of, IsBackedByUsers, IsInnerNeck, IsOuterNeck}
use Rattle.grant_certificate.proofs.UserSums.{own_leaf}
use Rattle.round_allocator.specs.Rounds.{IsEntry, IsNamed}
use Rattle.sheet_commands.specs.Levels.{OneLimitIsLevel, OneLimitIsLevelForAUser}

same : {X : Type 0} (a b : X) → Some a ≡ Some b → a ≡ b
same a b e = cc

-- a leaf whose entry names a node is unmet, and that node is a full branch above it
held : (t : LimitTree) (g : List ℕ) (i k : ℕ) → IsEntry t g i (Some k) → IsUnmet t g i × IsFullAbove t g i k
held t g i k is = elim (cases_lt (slice_index g i) (slice_index t.wants i)) [
  | inl unmet ↦ (unmet, (is.unmet unmet).0)
  | inr met ↦ let none = is.met (λ unmet. absurd (omega (arith, unmet, met))) in absurd (cc)
]

held_at : (t : LimitTree) (g : List ℕ) (c : List (Option ℕ)) → IsNamed t g c → (i k : ℕ) → i < length g → slice_get c i ≡ Some (Some k)
    → IsUnmet t g i × IsFullAbove t g i k
held_at t g c named i k less is =
    let found = named.entries i less in
    held t g i k (subst (λ (entry : Option ℕ). IsEntry t g i entry) (same found.0 (Some k) (sym found.1 ∙ is)) found.2)

level_in : (t : LimitTree) (g : List ℕ) (i j k : ℕ) (b : Branch) → IsBranch t k b → IsBottleneck t b g i → IsFullAbove t g j k → IsNotTooGreat t g i j
level_in t g i j k b is neck above =
    neck.greatest j (subst (λ (x : Branch). IsTrue (x.holds j)) (same above.0 b (sym above.1 ∙ is)) above.2)

pub one_level : OneLimitIsLevel
one_level t g c named backed i j k less also is and =
    let back = backed.backed i less (held_at t g c named i k less is).0 in
    let number : back.0 ≡ k = same back.0 k (same (Some back.0) (Some k) (sym back.2 ∙ is)) in
    level_in t g i j k back.1 (subst (λ (n : ℕ). IsBranch t n back.1) number back.3) back.4 (held_at t g c named j k also and).1

user_level : (t : LimitTree) (owners g : List ℕ) (i j k : ℕ) (b : Branch) → IsBranch t k b → IsInnerNeck t owners b g i ⊎ IsOuterNeck t owners b g i → IsFullAbove t g j k
    → j < length owners → slice_index owners j ≡ slice_index owners i → IsNotTooGreat t g i j
user_level t owners g i j k b is (inl neck) above less one =
    neck.greatest j (subst (λ (x : Branch). IsTrue (x.holds j)) (same above.0 b (sym above.1 ∙ is)) above.2)
user_level t owners g i j k b is (inr neck) above less one =
    neck.greatest j (subst (λ (v : ℕ). IsTrue (leaves_of owners v j)) one (own_leaf owners j less))

pub one_user_level : OneLimitIsLevelForAUser
one_user_level t owners g c named backed i j k less also owned one is and =
    let back = backed.backed i less (held_at t g c named i k less is).0 in
    let number : back.0 ≡ k = same back.0 k (same (Some back.0) (Some k) (sym back.2 ∙ is)) in
    user_level t owners g i j k back.1 (subst (λ (n : ℕ). IsBranch t n back.1) number back.3) back.4 (held_at t g c named j k also and).1 owned one
