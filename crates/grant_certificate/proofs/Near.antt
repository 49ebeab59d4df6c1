-- An octet moved from a leaf to an equal that has two less makes grants greater.
use Rattle.std.proofs.Common.{◌≡◌, ℕ, zero, suc, ◌+◌, ◌-◌, ◌<◌, ◌≤◌, Bool, true, false, List, [], ◌∷◌, length, refl, sym, ap, ◌∙◌, subst, arith, sum_by, min, ◌⊎◌, inl, inr, Some, get_or-set_other, get_or-set_same}
use Rattle.std.specs.Prelude.{slice_index, IsTrue, if◌then◌else◌}
use Rattle.std.proofs.Math.ListN.{set, length-set}
use Rattle.std.proofs.lemmas.Bool.{cases_eq, cases_lt, cases_Bool, false≢true}
use Rattle.std.proofs.lemmas.List.Sorted.{length_permutation, sum_by-IsPermutation}
use Rattle.limit_tree.specs.Sharing.{Branch, LimitTree, LeafSet, IsBranch, IsWithin, IsUnmet, IsAscending, IsGreater, IsBest, sum_below, sum_over}
use Rattle.limit_tree.proofs.Sums.{sum_below-change, sum_over-set_inside, sum_over-set_outside}
use Rattle.grant_certificate.specs.Equals.{HoldsOne, AreEquals}
use Rattle.grant_certificate.proofs.Levels.{up_to, up_to-sum}
use Rattle.grant_certificate.proofs.Order.{larger_sum, ascending-exists}

-- one list is the other, or greater, or less
compare : (a b : List ℕ) → length b ≡ length a → (a ≡ b) ⊎ (IsGreater a b ⊎ IsGreater b a)
compare [] [] e = inl refl
compare [] (y ∷ b) e = absurd (omega arith)
compare (x ∷ a) [] e = absurd (omega arith)
compare (x ∷ a) (y ∷ b) e = elim (cases_lt x y) [
  | inl l ↦ inr (inl (record { lengths = e; place = 0; within = omega arith; before = λ j l. absurd (omega arith); larger = l }))
  | inr r ↦ elim (cases_lt y x) [
    | inl l ↦ inr (inr (record { lengths = sym e; place = 0; within = omega arith; before = λ j l. absurd (omega arith); larger = l }))
    | inr s ↦ let same : x ≡ y = omega arith in elim (compare a b (omega arith)) [
      | inl is ↦ inl (ap (λ (z : ℕ). z ∷ a) same ∙ ap (λ (c : List ℕ). y ∷ c) is)
      | inr (inl more) ↦ inr (inl (further x y a b same e more))
      | inr (inr less) ↦ inr (inr (further y x b a (sym same) (sym e) less))
    ]
  ]
]
  where
    further : (x y : ℕ) (a b : List ℕ) → x ≡ y → length (y ∷ b) ≡ length (x ∷ a) → IsGreater a b → IsGreater (x ∷ a) (y ∷ b)
    further x y a b same e more = record {
      lengths = e;
      place = suc more.place;
      within = omega (arith, more.within);
      before = λ j l. before x y a b same more.place more.before j l;
      larger = more.larger;
    }
      where
        before : (x y : ℕ) (a b : List ℕ) → x ≡ y → (n : ℕ) → ((j : ℕ) → j < n → slice_index b j ≡ slice_index a j) → (j : ℕ) → j < suc n → slice_index (y ∷ b) j ≡ slice_index (x ∷ a) j
        before x y a b same n rest zero l = sym same
        before x y a b same n rest (suc j) l = rest j (omega arith)

-- an octet of leaf i moved to leaf j
abbrev pub moved : List ℕ → ℕ → ℕ → List ℕ
moved g i j = set (set g i (slice_index g i - 1)) j (slice_index g j + 1)

-- the numbers that change
pub record Moves (g : List ℕ) (i j : ℕ) : Type 0 where
  pub one : i < length g
  pub other : j < length g
  pub apart : i ≡ j → ⊥
  pub less : slice_index g j + 2 ≤ slice_index g i

moved-length : (g : List ℕ) (i j : ℕ) → length (moved g i j) ≡ length g
moved-length g i j = length-set (set g i (slice_index g i - 1)) j (slice_index g j + 1) ∙ length-set g i (slice_index g i - 1)

moved-one : (g : List ℕ) (i j : ℕ) → Moves g i j → slice_index (moved g i j) i ≡ slice_index g i - 1
moved-one g i j m =
    get_or-set_other (set g i (slice_index g i - 1)) j i (slice_index g j + 1) 0 (λ e. m.apart e)
    ∙ get_or-set_same g i (slice_index g i - 1) 0 m.one

moved-other : (g : List ℕ) (i j : ℕ) → Moves g i j → slice_index (moved g i j) j ≡ slice_index g j + 1
moved-other g i j m =
    let e = length-set g i (slice_index g i - 1) in
    get_or-set_same (set g i (slice_index g i - 1)) j (slice_index g j + 1) 0 (omega (arith, e, m.other))

moved-rest : (g : List ℕ) (i j k : ℕ) → (k ≡ i → ⊥) → (k ≡ j → ⊥) → slice_index (moved g i j) k ≡ slice_index g k
moved-rest g i j k not_i not_j =
    get_or-set_other (set g i (slice_index g i - 1)) j k (slice_index g j + 1) 0 (λ e. not_j e)
    ∙ get_or-set_other g i k (slice_index g i - 1) 0 (λ e. not_i e)

mid-other : (g : List ℕ) (i j : ℕ) → Moves g i j → slice_index (set g i (slice_index g i - 1)) j ≡ slice_index g j
mid-other g i j m = get_or-set_other g i j (slice_index g i - 1) 0 (λ e. m.apart (sym e))

-- up to a level
moved-up : (g : List ℕ) (i j level : ℕ) → Moves g i j → sum_by (λ x. min x level) (moved g i j) + min (slice_index g i) level + min (slice_index g j) level
    ≡ sum_by (λ x. min x level) g + min (slice_index g i - 1) level + min (slice_index g j + 1) level
moved-up g i j level m =
    let mid = set g i (slice_index g i - 1) in
    let size : length mid ≡ length g = length-set g i (slice_index g i - 1) in
    let first = sum_below-change (length g) (up_to level mid) (up_to level g) i
    (λ k not. ap (λ (x : ℕ). min x level) (get_or-set_other g i k (slice_index g i - 1) 0 (λ e. not e))) m.one in
    let second = sum_below-change (length g) (up_to level (moved g i j)) (up_to level mid) j
    (λ k not. ap (λ (x : ℕ). min x level) (get_or-set_other mid j k (slice_index g j + 1) 0 (λ e. not e))) m.other in
    omega (
      arith,
      first,
      second,
      get_or-set_same g i (slice_index g i - 1) 0 m.one,
      mid-other g i j m,
      moved-other g i j m,
      up_to-sum g level (length g) refl,
      up_to-sum mid level (length g) size,
      up_to-sum (moved g i j) level (length g) (moved-length g i j),
    )

-- no level has less, and one has more
moved-greater : (g a b : List ℕ) (i j : ℕ) → Moves g i j → IsAscending g a → IsAscending (moved g i j) b → IsGreater a b
moved-greater g a b i j m up_g up_h =
    let h = moved g i j in
    let size : length b ≡ length a = length_permutation h b up_h.0 ∙ (moved-length g i j ∙ sym (length_permutation g a up_g.0)) in
    elim (compare a b size) [
      | inl same ↦
          let level : ℕ = slice_index g j + 1 in
          let equal : sum_by (λ x. min x level) a ≡ sum_by (λ x. min x level) b = ap (sum_by (λ x. min x level)) same in
          absurd (omega (arith, equal, moved-up g i j level m, m.less, sum_by-IsPermutation (λ x. min x level) g a up_g.0, sum_by-IsPermutation (λ x. min x level) h b up_h.0))
      | inr (inl more) ↦ more
      | inr (inr less) ↦
          let level : ℕ = slice_index a less.place + 1 in
          absurd (omega (arith, larger_sum b a less up_g.1, moved-up g i j (slice_index b less.place + 1) m, m.less, sum_by-IsPermutation (λ x. min x (slice_index b less.place + 1)) g a up_g.0, sum_by-IsPermutation (λ x. min x (slice_index b less.place + 1)) h b up_h.0))
    ]

-- a leaf has no more than a branch that holds it
alone_le : (n : ℕ) (holds : LeafSet) (g : List ℕ) (i : ℕ) → i < n → IsTrue (holds i) → slice_index g i ≤ sum_below n (λ k. if holds k then slice_index g k else 0)
alone_le zero holds g i l held = absurd (omega arith)
alone_le (suc n) holds g i l held = elim (cases_eq i n) [
  | inl same ↦
      let here : (if holds n then slice_index g n else 0) ≡ slice_index g n = ap (λ (b : Bool). if b then slice_index g n else 0) (subst (λ (k : ℕ). holds k ≡ true) same held) in
      omega (arith, here, ap (slice_index g) same)
  | inr other ↦ omega (arith, alone_le n holds g i (omega arith) held)
]

-- a branch that holds one leaf has what that leaf has
only : (n : ℕ) (b : Branch) (g : List ℕ) (i : ℕ) → HoldsOne b → IsTrue (b.holds i) → sum_below n (λ k. if b.holds k then slice_index g k else 0) ≤ slice_index g i
only zero b g i one held = omega arith
only (suc n) b g i one held = elim (cases_eq i n) [
  | inl same ↦
      let nothing : sum_below n (λ k. if b.holds k then slice_index g k else 0) ≤ 0 = none n (omega arith) in
      let here : (if b.holds n then slice_index g n else 0) ≤ slice_index g n = at_most (b.holds n) in
      omega (arith, here, ap (slice_index g) same)
  | inr other ↦
      let last : (if b.holds n then slice_index g n else 0) ≡ 0 = out (slice_index g n) (b.holds n) (λ h. other (one i n held h)) in
      omega (arith, last, only n b g i one held)
]
  where
    at_most : (x : Bool) → (if x then slice_index g n else 0) ≤ slice_index g n
    at_most true = omega arith
    at_most false = omega arith

    out : (m : ℕ) (x : Bool) → (IsTrue x → ⊥) → (if x then m else 0) ≡ 0
    out m true fails = absurd (fails refl)
    out m false fails = refl

    none : (m : ℕ) → m ≤ i → sum_below m (λ k. if b.holds k then slice_index g k else 0) ≤ 0
    none zero l = omega arith
    none (suc m) l =
        let last : (if b.holds m then slice_index g m else 0) ≡ 0 = out (slice_index g m) (b.holds m) (λ h. (let e : i ≡ m = one i m held h in omega arith)) in
        omega (arith, last, none m (omega arith))

-- the grants stay within the limits
moved-within : (t : LimitTree) (g : List ℕ) (i j : ℕ) → IsWithin t g → Moves g i j → AreEquals t i j → IsUnmet t g j → slice_index t.floors i < slice_index g i → IsWithin t (moved g i j)
moved-within t g i j within m equals unmet above = record {
  wanted = record { leaves = moved-length g i j ∙ within.wanted.leaves; wants = λ k l. wants k (omega (arith, l, moved-length g i j)) };
  floors = λ k l. floors k (omega (arith, l, moved-length g i j));
  limits = limits;
}
  where
    wants : (k : ℕ) → k < length g → slice_index (moved g i j) k ≤ slice_index t.wants k
    wants k l = elim (cases_eq k i) [
      | inl is ↦ omega (arith, ap (slice_index (moved g i j)) is, ap (slice_index t.wants) is, moved-one g i j m, within.wanted.wants i m.one)
      | inr not_i ↦ elim (cases_eq k j) [
        | inl is ↦ omega (arith, ap (slice_index (moved g i j)) is, ap (slice_index t.wants) is, moved-other g i j m, unmet)
        | inr not_j ↦ omega (arith, moved-rest g i j k not_i not_j, within.wanted.wants k l)
      ]
    ]

    floors : (k : ℕ) → k < length g → slice_index t.floors k ≤ slice_index (moved g i j) k
    floors k l = elim (cases_eq k i) [
      | inl is ↦ omega (arith, ap (slice_index (moved g i j)) is, ap (slice_index t.floors) is, moved-one g i j m, above)
      | inr not_i ↦ elim (cases_eq k j) [
        | inl is ↦ omega (arith, ap (slice_index (moved g i j)) is, ap (slice_index t.floors) is, moved-other g i j m, within.floors j m.other)
        | inr not_j ↦ omega (arith, moved-rest g i j k not_i not_j, within.floors k l)
      ]
    ]

    mid : List ℕ
    mid = set g i (slice_index g i - 1)

    limits : (k most : ℕ) (b : Branch) → IsBranch t k b → b.limit ≡ Some most → sum_over b.holds (moved g i j) ≤ most
    limits k most b is limit =
        let fits : sum_over b.holds g ≤ most = within.limits k most b is limit in
        let size : length mid ≡ length g = length-set g i (slice_index g i - 1) in
        elim (cases_Bool (b.holds i)) [
          | inl has_i ↦
              let took = sum_over-set_inside b.holds g i (slice_index g i - 1) m.one has_i in
              elim (cases_Bool (b.holds j)) [
                | inl has_j ↦ omega (arith, fits, took, m.less, sum_over-set_inside b.holds mid j (slice_index g j + 1) (omega (arith, size, m.other)) has_j, mid-other g i j m)
                | inr not_j ↦ omega (arith, fits, took, m.less, sum_over-set_outside b.holds mid j (slice_index g j + 1) not_j)
              ]
          | inr not_i ↦
              let took = sum_over-set_outside b.holds g i (slice_index g i - 1) not_i in
              elim (cases_Bool (b.holds j)) [
                | inl has_j ↦
                    let twin = equals.one k most b is limit has_j not_i in
                    let bound : slice_index g i ≤ most = omega (arith, alone_le (length g) twin.1.holds g i m.one twin.4, within.limits twin.0 most twin.1 twin.2 twin.3) in
                    let one : HoldsOne b = elim (equals.beside k b is) [ inl same ↦ absurd (false≢true (sym not_i ∙ (same ∙ has_j))) | inr one ↦ one ] in
                    let all = only (length g) b g j one has_j in
                    omega (arith, bound, all, took, m.less, sum_over-set_inside b.holds mid j (slice_index g j + 1) (omega (arith, size, m.other)) has_j, mid-other g i j m)
                | inr not_j ↦ omega (arith, fits, took, sum_over-set_outside b.holds mid j (slice_index g j + 1) not_j)
              ]
        ]

-- so best grants of equals are near
pub equals-near : (t : LimitTree) (g : List ℕ) (i j : ℕ) → IsBest t g → i < length g → j < length g → AreEquals t i j → IsUnmet t g j → (slice_index g i ≤ slice_index g j + 1) ⊎ (slice_index g i ≤ slice_index t.floors i)
equals-near t g i j best in_i in_j equals unmet = elim (cases_lt (slice_index g i) (slice_index g j + 2)) [
  | inl near ↦ inl (omega arith)
  | inr far ↦ elim (cases_lt (slice_index t.floors i) (slice_index g i)) [
    | inr low ↦ inr low
    | inl above ↦
        let m : Moves g i j = record { one = in_i; other = in_j; apart = λ e. (let same = ap (slice_index g) e in omega arith); less = far } in
        let a = ascending-exists g in
        let b = ascending-exists (moved g i j) in
        absurd (best.greatest (moved g i j) a.0 b.0 (moved-within t g i j best.within m equals unmet above) a.1 b.1 (moved-greater g a.0 b.0 i j m a.1 b.1))
  ]
]
