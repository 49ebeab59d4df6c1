-- The asks of a plan's leaves, found by their lanes.
use Rattle.std.proofs.Common.{◌≡◌, ℕ, zero, suc, ◌+◌, ◌<◌, ◌≤◌, cond, nat_eq, eq-eqb, ne_eqb, Bool, false, List, [], ◌∷◌, ◌++◌, map, take, length, get_or, sum_by, sym, refl, ap, ◌∙◌, subst, arith, Option, Some, IsPermutation}
use Rattle.std.specs.List.{All, cons_option}
use Rattle.std.proofs.lemmas.List.{take_more}
use Rattle.std.proofs.lemmas.List.Elements.{filter_map-append}
use Rattle.std.proofs.lemmas.List.Sorted.{All-permutation}
use Rattle.limit_tree.specs.Sharing.{LimitTree}
use Rattle.line_rates.specs.declared.ask.Ask.{Ask}
use Rattle.line_rates.specs.Rates.{Rates}
use Rattle.line_rates.specs.TickTree.{Asker, ask_in, lane_in, IsPlan}
use Rattle.fair_shares.specs.Asked.{ask_on, asks_on, AreApart, IsAskedPlan}
use Rattle.std.proofs.lemmas.List.Sums.{sum_by-cons}

-- 1 where the ask is of the lane
unfoldable pub is_at : ℕ → Asker → ℕ
is_at k x = cond (nat_eq x.0 k) 1 0

-- how many of the asks are of the lane
unfoldable pub many : ℕ → List Asker → ℕ
many k [] = 0
many k (x ∷ xs) = is_at k x + many k xs

pub is_same : (k : ℕ) (x : Asker) → x.0 ≡ k → is_at k x ≡ 1
unfolding is_at
is_same k x e = ap (λ (b : Bool). cond b 1 0) (eq-eqb x.0 k e)

pub many_sum : (k : ℕ) (xs : List Asker) → many k xs ≡ sum_by (is_at k) xs
unfolding many
many_sum k [] = refl
many_sum k (x ∷ xs) = ap (λ (n : ℕ). is_at k x + n) (many_sum k xs) ∙ sym (sum_by-cons (is_at k) x xs)

abbrev Finds : List Asker → Asker → Type 0
Finds xs x = ask_on xs (lane_in x) ≡ Some (ask_in x)

member_many : (xs : List Asker) (k : ℕ) (d : Asker) → k < length xs → 1 ≤ many (get_or xs k d).0 xs
unfolding many
member_many [] k d lt = absurd (omega arith)
member_many (x ∷ xs) zero d lt = omega (arith, is_same x.0 x refl)
member_many (x ∷ xs) (suc k) d lt = let more = member_many xs k d (omega arith) in omega (arith, more)

finds_all : (xs : List Asker) → ((k : ℕ) → many k xs ≤ 1) → All (Finds xs) xs
unfolding many
finds_all [] few k d lt = absurd (omega arith)
finds_all (x ∷ xs) few zero d lt = ap (λ (b : Bool). cond b (Some x.1) (ask_on xs x.0)) (eq-eqb x.0 x.0 refl)
finds_all (x ∷ xs) few (suc k) d lt =
    let y : Asker = get_or xs k d in
    let more = member_many xs k d (omega arith) in
    let other : nat_eq x.0 y.0 ≡ false = ne_eqb x.0 y.0 (λ e. absurd (omega (arith, few y.0, more, is_same y.0 x e))) in
    ap (λ (b : Bool). cond b (Some x.1) (ask_on xs y.0)) other ∙ finds_all xs (λ j. omega (arith, few j)) k d (omega arith)

finds_each : (xs ys : List Asker) → All (Finds xs) ys → asks_on xs (map lane_in ys) ≡ map ask_in ys
finds_each xs [] h = refl
finds_each xs (y ∷ ys) h =
    ap (λ (o : Option Ask). cons_option o (asks_on xs (map lane_in ys))) (h 0 y (omega arith))
    ∙ ap (λ (l : List Ask). ask_in y ∷ l) (finds_each xs ys (λ k d lt. h (suc k) d (omega arith)))

apart_many : (xs : List Asker) → AreApart xs → (k : ℕ) → many k xs ≤ 1
unfolding is_at
apart_many xs apart k = subst (λ (n : ℕ). n ≤ 1) (sym (many_sum k xs)) (apart k)

-- a plan with the asks of its lanes
pub asked_plan : (rates : Rates) (tick : ℕ) (xs : List Asker) (t : LimitTree) (lanes : List ℕ) (own : List Ask) → AreApart xs → IsPlan rates tick xs t lanes → own ≡ asks_on xs lanes → IsAskedPlan rates tick xs t lanes own
asked_plan rates tick xs t lanes own apart p e = record {
  plan = p;
  asks_are = e ∙ ap (asks_on xs) p.lanes_are
      ∙ finds_each xs p.order (All-permutation (Finds xs) xs p.order p.all (finds_all xs (apart_many xs apart)));
}

-- the asks of lanes in the order of a plan
pub asked_order : (xs order : List Asker) (lanes : List ℕ) (own : List Ask) → AreApart xs → IsPermutation xs order → lanes ≡ map lane_in order → own ≡ asks_on xs lanes → own ≡ map ask_in order
asked_order xs order lanes own apart moved are e =
    e ∙ ap (asks_on xs) are ∙ finds_each xs order (All-permutation (Finds xs) xs order moved (finds_all xs (apart_many xs apart)))

-- one lane more
pub asked_more : (xs : List Asker) (lanes : List ℕ) (i d : ℕ) (o : Option Ask) (found now : List Ask) → i < length lanes → found ≡ asks_on xs (take i lanes) → o ≡ ask_on xs (get_or lanes i d) → now ≡ found ++ cons_option o [] → now ≡ asks_on xs (take (i + 1) lanes)
asked_more xs lanes i d o found now lt is e new =
    new ∙ ap (λ (l : List Ask). l ++ cons_option o []) is
    ∙ ap (λ (q : Option Ask). asks_on xs (take i lanes) ++ cons_option q []) e
    ∙ sym (filter_map-append (ask_on xs) (take i lanes) (get_or lanes i d ∷ []))
    ∙ sym (ap (asks_on xs) (take_more lanes i d lt))
