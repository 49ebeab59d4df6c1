-- Giving one octet at a time, from the floors on, to a leaf with room that has the least.
use Rattle.std.proofs.Common.{◌≡◌, ℕ, ◌+◌, ◌-◌, ◌<◌, ◌≤◌, Bool, false, List, length, refl, sym, ap, ◌∙◌, subst, arith, sum, ◌⊎◌, inl, inr, Some, get_or-set_other, get_or-set_same}
use Rattle.std.specs.Prelude.{IsTrue, slice_index}
use Rattle.std.proofs.Math.ListN.{length-set}
use Rattle.std.proofs.lemmas.Bool.{cases_eq, cases_Bool, false≢true, false_from_ne_true}
use Rattle.std.proofs.lemmas.List.Sums.{sum_by-set}
use Rattle.limit_tree.specs.Sharing.{Branch, LimitTree, HasNestedBranches, IsLimitTree, IsBranch, IsWanted, IsWithin, IsFull, IsUnmet, HasRoom, IsNotTooGreat, IsBottleneck, sum_over}
use Rattle.limit_tree.proofs.Sums.{sum-wanted, sum_over-set_inside, sum_over-set_outside}
use Rattle.round_allocator.specs.Rounds.{IsExhausted, HasBottlenecks}
use Rattle.test_allotment.specs.Rule.{give}
use Rattle.test_allotment.proofs.Rooms.{room_or_full}

pub give-same : (g : List ℕ) (k : ℕ) → k < length g → slice_index (give g k) k ≡ slice_index g k + 1
give-same g k inside = rw get_or-set_same

pub give-other : (g : List ℕ) (k i : ℕ) → (i ≡ k → ⊥) → slice_index (give g k) i ≡ slice_index g i
give-other g k i ne = rw get_or-set_other

pub give-le : (g : List ℕ) (k i : ℕ) → k < length g → slice_index g i ≤ slice_index (give g k) i
give-le g k i inside = elim (cases_eq i k) [
  | inl e ↦ subst (λ (j : ℕ). slice_index g j ≤ slice_index (give g k) j) (sym e) (omega (arith, give-same g k inside))
  | inr ne ↦ omega (arith, give-other g k i ne)
]

-- a set that holds k has one octet more
pub sum_over-give : (leaves : ℕ → Bool) (g : List ℕ) (k : ℕ) → k < length g → IsTrue (leaves k) → sum_over leaves (give g k) ≡ sum_over leaves g + 1
sum_over-give leaves g k inside held = omega (arith, sum_over-set_inside leaves g k (slice_index g k + 1) inside held)

pub sum-give : (g : List ℕ) (k : ℕ) → k < length g → sum (give g k) ≡ sum g + 1
sum-give g k inside = omega (arith, sum_by-set (λ x. x) g k (slice_index g k + 1) 0 inside)

-- each step leaves less to give
pub give-smaller : (t : LimitTree) (g : List ℕ) (k : ℕ) → IsWanted t (give g k) → k < length g → sum t.wants - sum (give g k) < sum t.wants - sum g
give-smaller t g k wanted inside = omega (arith, sum-wanted t (give g k) wanted, sum-give g k inside)

-- a branch that does not hold k stays full
full_outside : (b : Branch) (g : List ℕ) (k : ℕ) → b.holds k ≡ false → IsFull b g → IsFull b (give g k)
full_outside b g k out full = full ∙ ap Some (sym (sum_over-set_outside b.holds g k _ out))

-- a full branch does not hold a leaf with room
room_outside : (t : LimitTree) (g : List ℕ) (k n : ℕ) (b : Branch) → HasRoom t g k → IsBranch t n b → IsFull b g → b.holds k ≡ false
room_outside t g k n b room is full = false_from_ne_true (b.holds k) (λ held. room.1 n (b, is, held, full))

-- What holds while octets are given one at a time: the grants are within, beside a leaf with room none is
-- too great, and an unmet leaf has room or a bottleneck.
pub record IsEven (t : LimitTree) (g : List ℕ) : Type 0 where
  pub within : IsWithin t g
  pub even : (i j : ℕ) → HasRoom t g i → IsNotTooGreat t g i j
  pub settled : (i : ℕ) → IsUnmet t g i → HasRoom t g i ⊎ ((k : ℕ) × (b : Branch) × IsBranch t k b × IsBottleneck t b g i)

-- beside a leaf that no grant is too great beside, a full branch is a bottleneck
settle : (t : LimitTree) (g : List ℕ) (i : ℕ) → HasNestedBranches t → IsUnmet t g i → ((j : ℕ) → IsNotTooGreat t g i j) → HasRoom t g i ⊎ ((k : ℕ) × (b : Branch) × IsBranch t k b × IsBottleneck t b g i)
settle t g i tree unmet greatest = elim (room_or_full t g i tree unmet) [
  | inl room ↦ inl room
  | inr found ↦ let full = found.1 in inr (found.0, full.0, full.1, record { full = full.3; holds = full.2; greatest = λ j held. greatest j })
]

-- grants that are the floors are even
pub even-start : (t : LimitTree) (g : List ℕ) → HasNestedBranches t → IsWithin t g → ((j : ℕ) → slice_index g j ≡ slice_index t.floors j) → IsEven t g
even-start t g tree within floors = record {
  within = within;
  even = λ i j room. inr (floors j);
  settled = λ i unmet. settle t g i tree unmet (λ j. inr (floors j));
}

pub floors-even : (t : LimitTree) → IsLimitTree t → IsEven t t.floors
floors-even t tree = even-start t t.floors tree.branches tree.floors (λ j. refl)

-- room after a step was there before
room_before : (t : LimitTree) (g : List ℕ) (k i : ℕ) → HasRoom t g k → k < length g → HasRoom t (give g k) i → HasRoom t g i
room_before t g k i room inside after = (
  omega (arith, give-le g k i inside, after.0),
  λ n full. after.1 n (full.0, full.1, full.2, full_outside full.0 g k (room_outside t g k n full.0 room full.1 full.3) full.3),
)

within-step : (t : LimitTree) (g : List ℕ) (k : ℕ) → IsWithin t g → HasRoom t g k → k < length g → IsWithin t (give g k)
within-step t g k within room inside = record {
  wanted = record {
    leaves = length-set g k _ ∙ within.wanted.leaves;
    wants = λ i l. elim (cases_eq i k) [
      | inl e ↦ subst (λ (j : ℕ). slice_index (give g k) j ≤ slice_index t.wants j) (sym e) (omega (arith, give-same g k inside, room.0))
      | inr ne ↦ omega (arith, give-other g k i ne, within.wanted.wants i (omega (arith, length-set g k (slice_index g k + 1))))
    ];
  };
  floors = λ i l. omega (arith, give-le g k i inside, within.floors i (omega (arith, length-set g k (slice_index g k + 1))));
  limits = λ n most b is limit.
      let old : sum_over b.holds g ≤ most = within.limits n most b is limit in
      elim (cases_Bool (b.holds k)) [
        | inl held ↦ elim (cases_eq (sum_over b.holds g) most) [
          | inl e ↦ absurd (room.1 n (b, is, held, limit ∙ ap Some (sym e)))
          | inr ne ↦ omega (arith, sum_over-give b.holds g k inside held)
        ]
        | inr out ↦ omega (arith, sum_over-set_outside b.holds g k (slice_index g k + 1) out)
      ];
}

-- a grant that gets nothing more stays not too great
keep_other : (t : LimitTree) (g : List ℕ) (k i j : ℕ) → k < length g → (j ≡ k → ⊥) → IsNotTooGreat t g i j → IsNotTooGreat t (give g k) i j
keep_other t g k i j inside ne (inl less) = inl (omega (arith, give-other g k j ne, give-le g k i inside))
keep_other t g k i j inside ne (inr floored) = inr (give-other g k j ne ∙ floored)

-- and so does every grant beside a leaf that has no less than k
keep_each : (t : LimitTree) (g : List ℕ) (k i j : ℕ) → k < length g → slice_index g k ≤ slice_index g i → IsNotTooGreat t g i j → IsNotTooGreat t (give g k) i j
keep_each t g k i j inside least old = elim (cases_eq j k) [
  | inl e ↦ subst (λ (m : ℕ). IsNotTooGreat t (give g k) i m) (sym e) (inl (omega (arith, give-same g k inside, give-le g k i inside)))
  | inr ne ↦ keep_other t g k i j inside ne old
]

-- a bottleneck is full, so that it does not hold a leaf with room, and stays a bottleneck
bottleneck-step : (t : LimitTree) (g : List ℕ) (k i n : ℕ) (b : Branch) → HasRoom t g k → k < length g → IsBranch t n b → IsBottleneck t b g i → IsBottleneck t b (give g k) i
bottleneck-step t g k i n b room inside is bottle =
    let out = room_outside t g k n b room is bottle.full in
    record {
      full = full_outside b g k out bottle.full;
      holds = bottle.holds;
      greatest = λ j held. keep_other t g k i j inside (λ e. false≢true (sym out ∙ subst (λ (m : ℕ). IsTrue (b.holds m)) e held)) (bottle.greatest j held);
    }

-- a step to a leaf with room that has the least keeps the grants even
pub even-step : (t : LimitTree) (g : List ℕ) (k : ℕ) → HasNestedBranches t → IsEven t g → HasRoom t g k → k < length g → ((i : ℕ) → HasRoom t g i → slice_index g k ≤ slice_index g i) → IsEven t (give g k)
even-step t g k tree even room inside least = record {
  within = within-step t g k even.within room inside;
  even = λ i j after.
      let before = room_before t g k i room inside after in
      keep_each t g k i j inside (least i before) (even.even i j before);
  settled = λ i unmet. elim (even.settled i (omega (arith, give-le g k i inside))) [
    | inl before ↦ settle t (give g k) i tree unmet (λ j. keep_each t g k i j inside (least i before) (even.even i j before))
    | inr at ↦ inr (at.0, at.1, at.2, bottleneck-step t g k i at.0 at.1 room inside at.2 at.3)
  ];
}

-- where no leaf has room, each unmet leaf has a bottleneck
pub even-end : (t : LimitTree) (g : List ℕ) → IsEven t g → IsExhausted t g → HasBottlenecks t g
even-end t g even none i unmet = elim (even.settled i unmet) [ inl room ↦ absurd (none i room) | inr bottle ↦ bottle ]
