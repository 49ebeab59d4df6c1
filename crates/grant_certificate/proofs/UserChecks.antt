-- What the checks of grants among users tell.
use Rattle.std.proofs.Common.{◌≡◌, ℕ, ◌+◌, ◌<◌, ◌≤◌, Bool, true, false, List, length, refl, sym, ◌∙◌, arith, ◌⊎◌, inl, inr, Option}
use Rattle.std.specs.Prelude.{◌↔◌, IsTrue, slice_index}
use Rattle.std.specs.Bool.{MatchBool}
use Rattle.std.proofs.lemmas.Bool.{false≢true}
use Rattle.limit_tree.specs.Sharing.{LimitTree, IsUnmet, IsWithin}
use Rattle.limit_tree.specs.Outline.{leaf_range}
use Rattle.limit_tree.proofs.Nested.{in_range}
use Rattle.limit_tree.proofs.RangeSums.{leaf_range-inside}
use Rattle.grant_certificate.specs.Flaws.{HasLengths, IsVerdict}
use Rattle.grant_certificate.specs.Ranges.{IsGreater, IsNear, IsNoneGreater}
use Rattle.grant_certificate.specs.UserRanges.{AreUserTotals, IsInnerRange, IsOuterRange, tells_within}
use Rattle.grant_certificate.specs.Users.{total_of, HasUserNeck, IsBackedByUsers}
use Rattle.grant_certificate.specs.declared.flaw.Verdict.{Verdict}
use Rattle.grant_certificate.specs.declared.flaw.Verdict.TheVariants.{Yes, No}
use Rattle.grant_certificate.specs.declared.flaw.Flaw.TheVariants.{WrongLength, OverWant, OverLimit, NoNode, NotAbove, NotFull, TooGreat, UnderFloor}

pub greater-near : (g floors : List ℕ) (grant j : ℕ) → IsGreater g floors grant j → IsNear g floors grant j → ⊥
greater-near g floors grant j greater (inl small) = absurd (omega (arith, greater.0, small))
greater-near g floors grant j greater (inr floored) = greater.1 floored

pub exact-none : (b : Bool) (first leaves : ℕ) (g floors : List ℕ) (grant : ℕ) → MatchBool b (IsNoneGreater first leaves g floors grant) ((j : ℕ) × IsTrue (leaf_range first leaves j) × IsGreater g floors grant j) → IsTrue b ↔ IsNoneGreater first leaves g floors grant
exact-none true first leaves g floors grant h = (λ e. h, λ none. refl)
exact-none false first leaves g floors grant h = (λ e. absurd (false≢true e), λ none. absurd (greater-near g floors grant h.0 h.2 (none h.0 h.1)))

-- of a range of leaves of one user
pub inner-exact : (owners g floors : List ℕ) (first leaves i : ℕ) → i < length owners → first + leaves ≤ length owners → ((j : ℕ) → first ≤ j → j < first + leaves → slice_index owners j ≡ slice_index owners i) → (IsTrue (leaf_range first leaves i) × IsNoneGreater first leaves g floors (slice_index g i)) ↔ (IsInnerRange owners g floors first leaves i ⊎ IsOuterRange owners g floors first leaves i)
inner-exact owners g floors first leaves i low fits own = (
  λ both. let at = in_range first leaves i both.0 in inl (record { low = at.0; high = at.1; own = own; greatest = both.1 }),
  λ back. elim back [
    | inl inner ↦ (leaf_range-inside first leaves i inner.low inner.high, inner.greatest)
    | inr outer ↦
        let at = outer.all i low refl in (
          leaf_range-inside first leaves i at.0 at.1,
          λ j held. let here = in_range first leaves j held in outer.greatest j (omega (arith, here.1, fits)) (own j here.0 here.1),
        )
  ],
)

-- of a range with leaves of others
pub outer-exact : (owners g floors : List ℕ) (first leaves i : ℕ) → ((j : ℕ) × (first ≤ j) × (j < first + leaves) × (slice_index owners j ≡ slice_index owners i → ⊥)) → IsOuterRange owners g floors first leaves i ↔ (IsInnerRange owners g floors first leaves i ⊎ IsOuterRange owners g floors first leaves i)
outer-exact owners g floors first leaves i other = (
  λ outer. inr outer,
  λ back. elim back [ inl inner ↦ absurd (other.3 (inner.own other.0 other.1 other.2)) | inr outer ↦ outer ],
)

-- of the totals in a table
pub rich-exact : (owners g floors table floor_table : List ℕ) (first leaves i : ℕ) → i < length owners → first + leaves ≤ length owners → AreUserTotals owners g table → AreUserTotals owners floors floor_table → IsNoneGreater first leaves table floor_table (slice_index table i) ↔ ((j : ℕ) → first ≤ j → j < first + leaves → (total_of owners g (slice_index owners j) < total_of owners g (slice_index owners i) + 2) ⊎ (total_of owners g (slice_index owners j) ≡ total_of owners floors (slice_index owners j)))
rich-exact owners g floors table floor_table first leaves i low fits totals floored = (
  λ none j a b. to j (omega (arith, b, fits)) (none j (leaf_range-inside first leaves j a b)),
  λ rich j held. let at = in_range first leaves j held in from j (omega (arith, at.1, fits)) (rich j at.0 at.1),
)
  where
    to : (j : ℕ) → j < length owners → IsNear table floor_table (slice_index table i) j → (total_of owners g (slice_index owners j) < total_of owners g (slice_index owners i) + 2) ⊎ (total_of owners g (slice_index owners j) ≡ total_of owners floors (slice_index owners j))
    to j l (inl small) = inl (omega (arith, small, totals j l, totals i low))
    to j l (inr same) = inr (sym (totals j l) ∙ (same ∙ floored j l))

    from : (j : ℕ) → j < length owners → (total_of owners g (slice_index owners j) < total_of owners g (slice_index owners i) + 2) ⊎ (total_of owners g (slice_index owners j) ≡ total_of owners floors (slice_index owners j)) → IsNear table floor_table (slice_index table i) j
    from j l (inl small) = inl (omega (arith, small, totals j l, totals i low))
    from j l (inr same) = inr (totals j l ∙ (same ∙ sym (floored j l)))

-- of all leaves
pub backed-exact : (t : LimitTree) (owners g : List ℕ) (c : List (Option ℕ)) (b : Bool) → length c ≡ length t.wants → MatchBool b ((i : ℕ) → i < length g → IsUnmet t g i → HasUserNeck t owners g c i) ((i : ℕ) × (i < length g) × IsUnmet t g i × (HasUserNeck t owners g c i → ⊥)) → IsTrue b ↔ IsBackedByUsers t owners g c
backed-exact t owners g c true size h = (λ e. record { leaves = size; backed = λ i l unmet. h i l unmet }, λ backed. refl)
backed-exact t owners g c false size h = (λ e. absurd (false≢true e), λ backed. absurd (h.3 (backed.backed h.0 h.1 h.2)))

-- of the limits
pub verdict-within : (t : LimitTree) (g : List ℕ) (c : List (Option ℕ)) (v : Verdict) → IsVerdict t g c v → IsTrue (tells_within v) ↔ (HasLengths t g c × IsWithin t g)
verdict-within t g c Yes h = (λ e. ((h.0.wanted.leaves, h.1.leaves), h.0), λ both. refl)
verdict-within t g c (No WrongLength) h = (λ e. absurd (false≢true e), λ both. absurd (h both.0))
verdict-within t g c (No (OverWant leaf)) h = (λ e. absurd (false≢true e), λ both. absurd (omega (arith, h.2, both.1.wanted.wants leaf h.1)))
verdict-within t g c (No (UnderFloor leaf)) h = (λ e. absurd (false≢true e), λ both. absurd (omega (arith, h.3, both.1.floors leaf h.2)))
verdict-within t g c (No (OverLimit node)) h =
    let over = h.3 in
    (λ e. absurd (false≢true e), λ both. absurd (omega (arith, over.4, both.1.limits node over.1 over.0 over.2 over.3)))
verdict-within t g c (No (NoNode leaf)) h = (λ e. (h.0, h.1), λ both. refl)
verdict-within t g c (No (NotAbove leaf node)) h = (λ e. (h.0, h.1), λ both. refl)
verdict-within t g c (No (NotFull leaf node)) h = (λ e. (h.0, h.1), λ both. refl)
verdict-within t g c (No (TooGreat leaf other)) h = (λ e. (h.0, h.1), λ both. refl)
