-- If some certificate backs grants among users, so does that of the deepest full branches.
use Rattle.std.proofs.Common.{◌≡◌, ℕ, ◌<◌, List, length, arith, ◌⊎◌, inl, inr, Option, Some, None}
use Rattle.std.specs.Prelude.{IsTrue, slice_get, slice_index}
use Rattle.limit_tree.specs.Sharing.{Branch, LimitTree, IsBranch, IsInside, IsFull, IsUnmet, IsDeepestFull}
use Rattle.limit_tree.specs.Laws.{LaterIsInside}
use Rattle.grant_certificate.specs.Users.{HasUsers, IsBackedByUsers, IsInnerNeck, IsOuterNeck}
use Rattle.grant_certificate.specs.TwoStages.{AreDeepestEntries}
use Rattle.grant_certificate.proofs.UserSums.{own_leaf}

-- a full branch over the leaf, inside its bottleneck, is one, too
lower_neck : (t : LimitTree) (users : ℕ) (owners g : List ℕ) (i m : ℕ) (a b : Branch) → HasUsers t users owners → i < length owners → IsBranch t m a → IsTrue (a.holds i) → IsFull a g → IsInside a.holds b.holds → IsInnerNeck t owners b g i ⊎ IsOuterNeck t owners b g i → IsInnerNeck t owners a g i ⊎ IsOuterNeck t owners a g i
lower_neck t users owners g i m a b has low is held full inside (inl neck) = inl (record {
  full = full;
  holds = held;
  own = λ j in_a. neck.own j (inside j in_a);
  greatest = λ j in_a. neck.greatest j (inside j in_a);
})
lower_neck t users owners g i m a b has low is held full inside (inr neck) = elim (has.nested m (slice_index owners i) a is) [
  | inl own ↦ inl (record { full = full; holds = held; own = own; greatest = λ j in_a. neck.greatest j (own j in_a) })
  | inr (inl all) ↦ inr (record { full = full; all = all; greatest = neck.greatest; richest = λ v in_a. neck.richest v (λ j own. inside j (in_a j own)) })
  | inr (inr apart) ↦ absurd (apart i held (own_leaf owners i low))
]

pub deepest-backed : (t : LimitTree) (users : ℕ) (owners g : List ℕ) (c d : List (Option ℕ)) → LaterIsInside t → HasUsers t users owners → length g ≡ length t.wants → IsBackedByUsers t owners g c → length d ≡ length t.wants → AreDeepestEntries t g d → IsBackedByUsers t owners g d
deepest-backed t users owners g c d later has size backed leaves deepest = record {
  leaves = leaves;
  backed = λ i low unmet. go i low unmet (deepest i low unmet).0 (deepest i low unmet).1 (deepest i low unmet).2;
}
  where
    held_by : (i : ℕ) (b : Branch) → i < length owners → IsInnerNeck t owners b g i ⊎ IsOuterNeck t owners b g i → IsTrue (b.holds i) × IsFull b g
    held_by i b low (inl neck) = (neck.holds, neck.full)
    held_by i b low (inr neck) = (neck.all i (own_leaf owners i low), neck.full)

    go : (i : ℕ) → i < length g → IsUnmet t g i → (e : Option ℕ) → slice_get d i ≡ Some e → IsDeepestFull t g i e → (k : ℕ) × (b : Branch) × (slice_get d i ≡ Some (Some k)) × IsBranch t k b × (IsInnerNeck t owners b g i ⊎ IsOuterNeck t owners b g i)
    go i low unmet None at none =
        let was = backed.backed i low unmet in
        let held = held_by i was.1 (omega (arith, has.each, size)) was.4 in
        absurd (none was.0 (was.1, was.3, held.0, held.1))
    go i low unmet (Some m) at deep =
        let was = backed.backed i low unmet in
        let inside : i < length owners = omega (arith, has.each, size) in
        let held = held_by i was.1 inside was.4 in
        let above = deep.0 in
        let le = deep.1 was.0 (was.1, was.3, held.0, held.1) in (
          m,
          above.0,
          at,
          above.1,
          lower_neck t users owners g i m above.0 was.1 has inside above.1 above.2 above.3
              (later was.0 m i was.1 above.0 was.3 above.1 le held.0 above.2) was.4,
        )
