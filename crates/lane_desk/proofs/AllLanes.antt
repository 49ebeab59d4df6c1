-- All lanes of a desk, closed one after the other.
use Rattle.std.proofs.Common.{◌≡◌, ◌≢◌, ℕ, zero, suc, ◌+◌, ◌<◌, ◌≤◌, ◌⊎◌, inl, inr, ⊎_elim, List, [], ◌∷◌, ◌++◌, length, get_or, set, sum, sym, refl, ap, ◌∙◌, subst, arith, length-append, get_or-set_other}
use Rattle.std.specs.Prelude.{Option, Some, None, slice_get}
use Rattle.std.proofs.lemmas.List.Sums.{sum_by-append}
use Rattle.grant_ledger.specs.Books.{capped}
use Rattle.atomic_table.specs.Seated.{TableId}
use Rattle.desk_rule.specs.declared.view.LaneView.{LaneView}
use Rattle.desk_rule.specs.declared.view.TraceView.{TraceView}
use Rattle.lane_desk.specs.declared.seat.LaneSeat.{LaneSeat}
use Rattle.desk_rule.specs.Lanes.{fresh, untraced, posted_in}
use Rattle.lane_desk.specs.Seats.{seat_view}
use Rattle.lane_desk.specs.Close.{Closes, AllSettled}
use Rattle.lane_desk.specs.AllLanes.{AreSeats, AllClosed, taken_in_all, taken_by_all}

pub value_or : {A : Type 0} → A → Option A → A
value_or d None = d
value_or d (Some y) = y

pub some_is : {A : Type 0} (x y : A) → Some x ≡ Some y → x ≡ y
unfolding value_or
some_is x y e = ap (λ o. value_or x o) e

get_end : {A : Type 0} (l : List A) (a b : A) (j : ℕ) → slice_get (l ++ a ∷ []) j ≡ Some b → ((j < length l) × (slice_get l j ≡ Some b)) ⊎ ((j ≡ length l) × (a ≡ b))
get_end [] a b zero e = inr (refl, some_is a b e)
get_end [] a b (suc j) e = absurd (cc)
get_end (x ∷ xs) a b zero e = inl ((omega arith), e)
get_end (x ∷ xs) a b (suc j) e = ⊎_elim (λ (t : (j < length xs) × (slice_get xs j ≡ Some b)). let h = t.0 in inl ((omega arith), t.1)) (λ (t : (j ≡ length xs) × (a ≡ b)). inr (ap suc t.0, t.1)) (get_end xs a b j e)

get_some : {A : Type 0} (l : List A) (i : ℕ) → i < length l → (a : A) × (slice_get l i ≡ Some a)
get_some [] i h = absurd (omega arith)
get_some (x ∷ xs) zero h = (x, refl)
get_some (x ∷ xs) (suc i) h = get_some xs i (omega arith)

pub get_middle : {A : Type 0} (l : List A) (a : A) (r : List A) → slice_get (l ++ a ∷ r) (length l) ≡ Some a
get_middle [] a r = refl
get_middle (x ∷ xs) a r = get_middle xs a r

pub get_front : {A : Type 0} (l r : List A) (i : ℕ) (d : A) → i < length l → get_or (l ++ r) i d ≡ get_or l i d
get_front [] r i d h = absurd (omega arith)
get_front (x ∷ xs) r zero d h = refl
get_front (x ∷ xs) r (suc i) d h = get_front xs r i d (omega arith)

pub get_last : {A : Type 0} (l : List A) (x d : A) → get_or (l ++ x ∷ []) (length l) d ≡ x
get_last [] x d = refl
get_last (y ∷ l) x d = get_last l x d

-- the turns of the lanes that are not yet closed
abbrev pub Untouched : ℕ → List TraceView → List TraceView → Type 0
Untouched n ts ts' = (i : ℕ) → n ≤ i → get_or ts' i untraced ≡ get_or ts i untraced

module _ {N : Type 0} where
  pub all_more : (ts0 ts1 ts2 : List TraceView) (ys : List (LaneSeat N)) (s : (LaneSeat N)) (xs1 xs2 : List LaneView) (n : ℕ) → AllClosed ts0 ys ts1 xs1 → Untouched (length ys) ts0 ts1 → s.lane ≡ length ys → ts2 ≡ set ts1 s.lane (get_or ts2 s.lane untraced)
      → (b : (x : LaneView) × (xs2 ≡ xs1 ++ x ∷ []) × Closes (get_or ts1 s.lane untraced) (seat_view s) (get_or ts2 s.lane untraced) x n) → AllClosed ts0 (ys ++ s ∷ []) ts2 xs2 × Untouched (length (ys ++ s ∷ [])) ts0 ts2
  all_more ts0 ts1 ts2 ys s xs1 xs2 n all rest is moved b =
      let still : (i : ℕ) → i ≢ length ys → get_or ts2 i untraced ≡ get_or ts1 i untraced = λ i ne. ap (λ (l : List TraceView). get_or l i untraced) moved ∙ get_or-set_other ts1 s.lane i (get_or ts2 s.lane untraced) untraced (λ e. ne (e ∙ is)) in (
        (
          ap length b.1 ∙ length-append xs1 (b.0 ∷ []) ∙ ap (λ (z : ℕ). z + 1) all.0 ∙ sym (length-append ys (s ∷ [])),
          λ i t e. ⊎_elim
              (λ (o : (i < length ys) × (slice_get ys i ≡ Some t)). let k = all.1 i t o.1 in let h : i < length ys = o.0 in
              (k.0, subst (λ (z : TraceView × LaneView). Closes (get_or ts0 i untraced) (seat_view t) z.0 z.1 k.0) (λ q. (sym (still i (λ f. omega arith)) q, sym (ap (λ (l : List LaneView). get_or l i fresh) b.1 ∙ get_front xs1 (b.0 ∷ []) i fresh (omega (arith, all.0, h))) q)) k.1))
              (λ (o : (i ≡ length ys) × (s ≡ t)). (
                n,
                subst (λ (u : (LaneSeat N)). Closes (get_or ts0 i untraced) (seat_view u) (get_or ts2 i untraced) (get_or xs2 i fresh) n) o.1
                    (subst (λ (z : TraceView × TraceView × LaneView). Closes z.0 (seat_view s) z.1 z.2 n)
                    (λ q. ((ap (λ (m : ℕ). get_or ts1 m untraced) (is ∙ sym o.0) ∙ rest i (omega (arith, o.0))) q, ap (λ (m : ℕ). get_or ts2 m untraced) (is ∙ sym o.0) q, sym (ap (λ (l : List LaneView). get_or l i fresh) b.1 ∙ ap (λ (m : ℕ). get_or (xs1 ++ b.0 ∷ []) m fresh) (o.0 ∙ sym all.0) ∙ get_last xs1 b.0 fresh) q)) b.2),
              ))
              (get_end ys s t i e),
        ),
        λ i far. let h : length ys + 1 ≤ i = omega (arith, far, length-append ys (s ∷ [])) in still i (λ e. omega arith) ∙ rest i (omega arith),
      )

  pub all_settled : (ts0 ts1 : List TraceView) (ys : List (LaneSeat N)) (xs : List LaneView) → AllClosed ts0 ys ts1 xs → AllSettled ts1 xs
  all_settled ts0 ts1 ys xs all i near = let g = get_some ys i (omega (arith, all.0, near)) in (all.1 i g.0 g.1).1.1

-- what was taken on the settled lanes was posted
pub taken_most : (ts : List TraceView) (xs : List LaneView) → length xs ≤ length ts → AllSettled ts xs → taken_in_all xs ≤ posted_in ts
taken_most ts [] long all = omega arith
taken_most [] (x ∷ xs) long all = absurd (omega arith)
taken_most (t ∷ ts) (x ∷ xs) long all =
    let same : sum t.posted ≡ sum x.taken = ap sum (all 0 (omega arith)).1 in
    let whole : taken_in_all (x ∷ xs) ≡ sum x.taken + taken_in_all xs = (let e = sum_by-append (λ (y : LaneView). sum y.taken) (x ∷ []) xs in omega arith) in
    let more : taken_in_all xs ≤ posted_in ts = taken_most ts xs (omega arith) (λ i near. all (suc i) (omega arith)) in
    omega arith

module _ {N : Type 0} where
  pub taken_more : (ys : List (LaneSeat N)) (s : (LaneSeat N)) (t t' : TraceView) (xs1 xs2 : List LaneView) (m n : ℕ) → taken_in_all xs1 ≡ taken_by_all ys + m → (b : (x : LaneView) × (xs2 ≡ xs1 ++ x ∷ []) × Closes t (seat_view s) t' x n) → taken_in_all xs2 ≡ taken_by_all (ys ++ s ∷ []) + (m + n)
  taken_more ys s t t' xs1 xs2 m n is b =
      let c = b.2.2 in
      let one : sum b.0.taken ≡ sum (seat_view s).taken + n = ap sum c.1 ∙ sum_by-append (λ (x : ℕ). x) (seat_view s).taken c.0 ∙ ap (λ (z : ℕ). sum (seat_view s).taken + z) c.3 in
      omega (arith, is, one, ap taken_in_all b.1, sum_by-append (λ (x : LaneView). sum x.taken) xs1 (b.0 ∷ []), sum_by-append (λ (x : (LaneSeat N)). sum (seat_view x).taken) ys (s ∷ []))

  -- the seat whose turn it is
  pub next_seat : (z : TableId) (n : ℕ) (seats ys r : List (LaneSeat N)) (s : (LaneSeat N)) → AreSeats z n seats → ys ++ s ∷ r ≡ seats → (s.seat.table_id ≡ z) × (s.lane < n) × (s.lane ≡ length ys)
  next_seat z n seats ys r s are is =
      let k = are.1 (length ys) s (ap (λ l. slice_get l (length ys)) (sym is) ∙ get_middle ys s r) in
      (k.1, omega (arith, k.0, are.0, ap length is, length-append ys (s ∷ r)), k.0)

pub empty_of : {A : Type 0} (l : List A) → length l ≡ 0 → l ≡ []
empty_of [] e = refl
empty_of (x ∷ xs) e = absurd (omega arith)

pub none_at : {A : Type 0} (l : List A) (i : ℕ) (a : A) → length l ≡ 0 → slice_get l i ≡ Some a → ⊥
none_at [] zero a h e = cc
none_at [] (suc i) a h e = cc
none_at (x ∷ xs) i a h e = omega (arith, h)

pub capped_more : (a m n : ℕ) → capped (capped a m) n ≡ capped a (m + n)
capped_more a m n = omega arith

pub capped_none : (a : ℕ) → a < 18446744073709551616 → a ≡ capped a 0
capped_none a h = omega (arith, h)
