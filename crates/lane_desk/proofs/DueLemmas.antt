-- The lanes of a plan are those of the asks, each once.
use Rattle.std.proofs.Common.{◌≡◌, ◌≢◌, ℕ, zero, suc, ◌+◌, ◌<◌, ◌≤◌, cond, nat_eq, eq-eqb, ne_eqb, Bool, true, List, [], ◌∷◌, map, length, get_or, sum_by, sym, refl, ap, ◌∙◌, arith, Option, Some, None, IsPermutation}
use mathlib.Core.Logic.{dite}
use native.Mathlib.Decide.{ℕ_discrete}
use Rattle.std.proofs.lemmas.List.Sums.{sum_by-cons}
use Rattle.std.proofs.lemmas.List.Sorted.{sum_by-IsPermutation}
use Rattle.line_rates.specs.declared.ask.Ask.{Ask}
use Rattle.line_rates.specs.TickTree.{Asker, lane_in}
use Rattle.grant_ledger.specs.Books.{NamesNot}
use Rattle.desk_rule.specs.declared.view.TraceView.{TraceView}
use Rattle.desk_rule.specs.Lanes.{is_due}
use Rattle.lane_desk.proofs.RoundCalls.{collected_due}
use Rattle.lane_desk.specs.Tried.{tried_by, tried, asks_from, mark_of}
use Rattle.lane_desk.specs.Posted.{trace_at, AreDue}
use Rattle.lane_desk.specs.Posted.{AllAnswered}
use Rattle.lane_desk.proofs.TriedLemmas.{tried_at, length-tried}

abbrev Find : Type 0
Find = Option Ask

-- 1 where the ask is of the lane
unfoldable pub is_at : ℕ → Asker → ℕ
is_at k x = cond (nat_eq x.0 k) 1 0

-- how many of the asks are of the lane
unfoldable pub many : ℕ → List Asker → ℕ
many k [] = 0
many k (x ∷ xs) = is_at k x + many k xs

pub is_same : (k : ℕ) (x : Asker) → x.0 ≡ k → is_at k x ≡ 1
unfolding is_at
is_same k x e = ap (λ (b : Bool). cond b 1 0) (eq-eqb x.0 k e)

is_other : (k : ℕ) (x : Asker) → x.0 ≢ k → is_at k x ≡ 0
unfolding is_at
is_other k x e = ap (λ (b : Bool). cond b 1 0) (ne_eqb x.0 k e)

pub many_sum : (k : ℕ) (xs : List Asker) → many k xs ≡ sum_by (is_at k) xs
unfolding many
many_sum k [] = refl
many_sum k (x ∷ xs) = ap (λ (n : ℕ). is_at k x + n) (many_sum k xs) ∙ sym (sum_by-cons (is_at k) x xs)

pub many_moved : (k : ℕ) (xs ys : List Asker) → IsPermutation xs ys → many k ys ≡ many k xs
many_moved k xs ys p = many_sum k ys ∙ sum_by-IsPermutation (is_at k) xs ys p ∙ sym (many_sum k xs)

many_below : (fs : List Find) (j k : ℕ) → k < j → many k (asks_from j fs) ≡ 0
unfolding many
many_below [] j k h = refl
many_below (None ∷ fs) j k h = many_below fs (j + 1) k (omega (arith, h))
many_below (Some a ∷ fs) j k h = omega (arith, is_other k (j, a) (λ e. omega (arith, e, h)), many_below fs (j + 1) k (omega (arith, h)))

many_from : (fs : List Find) (j i : ℕ) → many (j + i) (asks_from j fs) ≡ mark_of (get_or fs i None)
unfolding many
many_from [] j zero = refl
many_from [] j (suc i) = refl
many_from (None ∷ fs) j zero = many_below fs (j + 1) (j + 0) (omega arith)
many_from (None ∷ fs) j (suc i) = let e : j + suc i ≡ j + 1 + i = omega arith in ap (λ (n : ℕ). many n (asks_from (j + 1) fs)) e ∙ many_from fs (j + 1) i
many_from (Some a ∷ fs) j zero = omega (arith, is_same (j + 0) (j, a) (omega arith), many_below fs (j + 1) (j + 0) (omega arith))
many_from (Some a ∷ fs) j (suc i) =
    let e : j + suc i ≡ j + 1 + i = omega arith in
    let r : many (j + suc i) (asks_from (j + 1) fs) ≡ mark_of (get_or fs i None) = ap (λ (n : ℕ). many n (asks_from (j + 1) fs)) e ∙ many_from fs (j + 1) i in
    omega (arith, is_other (j + suc i) (j, a) (λ q. omega (arith, q)), r)

pub many_at : (fs : List Find) (i : ℕ) → many i (asks_from 0 fs) ≡ mark_of (get_or fs i None)
many_at fs i = let e : i ≡ 0 + i = omega arith in ap (λ (n : ℕ). many n (asks_from 0 fs)) e ∙ many_from fs 0 i

pub names_not : (k : ℕ) (xs : List Asker) → many k xs ≡ 0 → NamesNot k (map lane_in xs)
unfolding many
names_not k [] e = tt
names_not k (x ∷ xs) e = ((λ q. omega (arith, e, is_same k x (sym q))), names_not k xs (omega (arith, e)))

-- the place of a lane that is named
pub place_of : (k : ℕ) (xs : List Asker) → many k xs ≡ 1 → (j : ℕ) × (j < length (map lane_in xs)) × (get_or (map lane_in xs) j 0 ≡ k)
unfolding many
place_of k [] e = absurd (omega (arith, e))
place_of k (x ∷ xs) e = dite (ℕ_discrete x.0 k)
    (λ same. (0, omega arith, same))
    (λ ne. let r = place_of k xs (omega (arith, e, is_other k x ne)) in (suc r.0, (let h = r.1 in omega (arith, h)), r.2))

-- each lane is named at most once, and those that are named are due
pub all_due : (xs : List Asker) (ts : List TraceView) → ((k : ℕ) → many k xs ≤ 1) → ((k : ℕ) → many k xs ≡ 1 → (k < length ts) × (is_due (trace_at ts k) ≡ true)) → AreDue (map lane_in xs) ts
unfolding many
all_due [] ts few due = tt
all_due (x ∷ xs) ts few due =
    let one : is_at x.0 x ≡ 1 = is_same x.0 x refl in
    let none : many x.0 xs ≡ 0 = omega (arith, one, few x.0) in
    let d = due x.0 (omega (arith, one, none)) in
    (d.0, d.1, names_not x.0 xs none, all_due xs ts (λ k. omega (arith, few k)) (λ k e. due k (omega (arith, few k, e))))

pub at_most_one : (f : Find) → mark_of f ≤ 1
at_most_one None = omega arith
at_most_one (Some a) = omega arith

found_due : (given : Bool) (f : Find) (t : TraceView) → mark_of f ≡ 1 → length t.collected ≡ length t.posted → is_due (tried_by given f t) ≡ true
found_due given None t m e = absurd (omega (arith, m))
found_due given (Some a) t m e = collected_due a t e

found_within : (fs : List Find) (k : ℕ) → mark_of (get_or fs k None) ≡ 1 → k < length fs
found_within [] zero m = absurd (omega (arith, m))
found_within [] (suc k) m = absurd (omega (arith, m))
found_within (f ∷ fs) zero m = omega arith
found_within (f ∷ fs) (suc k) m = let h = found_within fs k m in omega (arith, h)

-- what was collected is due on each lane that any order of the asks names
pub due_of : (given : ℕ → Bool) (fs : List Find) (ts : List TraceView) (order : List Asker) → length fs ≡ length ts → AllAnswered ts → IsPermutation (asks_from 0 fs) order → AreDue (map lane_in order) (tried given fs ts)
due_of given fs ts order wide old p =
    let marks : (k : ℕ) → many k order ≡ mark_of (get_or fs k None) = λ k. many_moved k (asks_from 0 fs) order p ∙ many_at fs k in
    all_due order (tried given fs ts) (λ k. omega (arith, marks k, at_most_one (get_or fs k None)))
    (λ k e.
    let m : mark_of (get_or fs k None) ≡ 1 = sym (marks k) ∙ e in
    let near : k < length ts = omega (arith, found_within fs k m, wide) in
    (omega (arith, near, length-tried given fs ts), ap is_due (tried_at given fs ts k wide near) ∙ found_due (given k) (get_or fs k None) (trace_at ts k) m (old k near)))
