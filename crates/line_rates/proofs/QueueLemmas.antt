-- A queue that is sorted: those of one name stand side by side.
use Rattle.std.proofs.Common.{◌≡◌, ℕ, zero, suc, ◌+◌, ◌-◌, ◌<◌, ◌≤◌, false, List, [], ◌∷◌, ◌++◌, length, map, get_or, take, set, sym, refl, ap, ◌∙◌, subst, arith, Option, Some, None, All, inl, inr, IsPermutation, Ordering, Less, Equal, Greater, nat_cmp, is_lt, is_eq, get_or-set_same, get_or-set_other, IsSortedBy}
use Rattle.std.specs.Ordering.{ordering_then, ordering_reverse}
use Rattle.std.specs.Option.{option_cmp}
use Rattle.std.specs.Cmp.Lexicographic.{options_total}
use Rattle.std.specs.Cmp.{IsTotalOrder}
use Rattle.std.specs.List.{AllAdjacentBelow}
use Rattle.std.proofs.lemmas.Bool.{cases_lt}
use Rattle.std.proofs.lemmas.Cmp.{on_total, then_total, nat_cmp_total, tied_itself}
use Rattle.std.proofs.lemmas.Grind.{take-set_at}
use Rattle.std.proofs.lemmas.List.{get_or-map, length-map}
use Rattle.std.proofs.lemmas.List.Elements.{All-push, All-same}
use Rattle.std.proofs.lemmas.List.Sorted.{sorted_far, ranks_by, All-permutation, Contains-permutation, IsPermutation-sym, IsPermutation-map, IsPermutation-trans}
use Rattle.line_rates.specs.declared.ask.Name.{Name}
use Rattle.line_rates.specs.declared.queue.Queued.{Queued}
use Rattle.line_rates.specs.Queue.{asker_of, name_of, AreNamedAt, AreNumbered, IsContiguous, AreTogether}
use Rattle.line_rates.specs.Grown.{key}
use Rattle.line_rates.specs.Rates.{Rates}
use Rattle.line_rates.proofs.NameLemmas.{same_name-is}
use Rattle.line_rates.proofs.RowLemmas.{at_any}
use Rattle.line_rates.proofs.SameName.{name_cmp, names, total, matches}

-- a part that is written grows by one
pub all_put : (P : Queued → Type 0) (xs : List Queued) (i : ℕ) (y : Queued) → i < length xs → All P (take i xs) → P y → All P (take (i + 1) (set xs i y))
all_put P xs i y lt all here = All-same P (take (i + 1) (set xs i y)) (take i xs ++ y ∷ []) (take-set_at xs i (i + 1) y refl lt) (All-push P (take i xs) y all here)

-- so do neighbours
pub adjacent_put : (R : Queued → Queued → Type 0) (xs : List Queued) (i : ℕ) (y : Queued) → 1 ≤ i → i < length xs → AllAdjacentBelow R xs i → ((d : Queued) → R (get_or xs (i - 1) d) y) → AllAdjacentBelow R (set xs i y) (i + 1)
adjacent_put R xs i y from lt all here k d lt' = elim (cases_lt (k + 1) i) [
  | inl h ↦
      let below : get_or (set xs i y) k d ≡ get_or xs k d = get_or-set_other xs i k y d (λ e. absurd (omega arith)) in
      let above : get_or (set xs i y) (k + 1) d ≡ get_or xs (k + 1) d = get_or-set_other xs i (k + 1) y d (λ e. absurd (omega arith)) in
      subst (λ x. R x (get_or (set xs i y) (k + 1) d)) (sym below) (subst (R (get_or xs k d)) (sym above) (all k d h))
  | inr h ↦
      let last : i ≡ k + 1 = omega arith in
      let one : i - 1 ≡ k = omega arith in
      let below : get_or xs (i - 1) d ≡ get_or (set xs i y) k d = ap (λ n. get_or xs n d) one ∙ sym (get_or-set_other xs i k y d (λ e. absurd (omega arith))) in
      let above : y ≡ get_or (set xs i y) (k + 1) d = sym (get_or-set_same xs i y d lt) ∙ ap (λ n. get_or (set xs i y) n d) last in
      subst (λ x. R x (get_or (set xs i y) (k + 1) d)) below (subst (R (get_or xs (i - 1) d)) above (here d))
]

name_is : (n m : Option Name) → option_cmp name_cmp n m ≡ Equal → n ≡ m
name_is None None e = refl
name_is (Some n) (Some m) e = ap (λ x. Some x) (same_name-is n m (sym (names n m) ∙ matches n m ∙ ap is_eq e))
name_is None (Some m) e = absurd (cc)
name_is (Some n) None e = absurd (cc)

pub is_named : (n m : Option Name) → n ≡ m → option_cmp name_cmp n m ≡ Equal
is_named n m e = ap (λ x. option_cmp name_cmp n x) (sym e) ∙ tied_itself (options_total total) n

-- the orders by which a queue is sorted
abbrev pub by_name : Queued → Queued → Ordering
by_name x y = option_cmp name_cmp x.name y.name

abbrev pub by_first : Queued → Queued → Ordering
by_first x y = ordering_then (nat_cmp x.first y.first) (by_name x y)

by_name_total : IsTotalOrder by_name
by_name_total = on_total name_of (options_total total)

pub by_first_total : IsTotalOrder by_first
by_first_total = then_total (on_total (λ x. x.first) nat_cmp_total) by_name_total

pub not_less : (o p : Ordering) → is_lt (ordering_then o p) ≡ false → is_lt o ≡ false
not_less Less p e = e
not_less Equal p e = refl
not_less Greater p e = refl

-- what is sorted by two orders in turn is sorted by the first
pub sorted_first : (R S : Queued → Queued → Ordering) (xs : List Queued) → IsSortedBy (λ x y. is_lt (ordering_then (R x y) (S x y))) xs → IsSortedBy (λ x y. is_lt (R x y)) xs
sorted_first R S xs up k d from lt = not_less (R (get_or xs (k + 1) d) (get_or xs k d)) (S (get_or xs (k + 1) d) (get_or xs k d)) (up k d from lt)

tied : (o p : Ordering) → o ≡ ordering_reverse p → is_lt p ≡ false → is_lt o ≡ false → o ≡ Equal
tied Less p e f g = absurd (cc)
tied Equal p e f g = refl
tied Greater Less e f g = absurd (cc)
tied Greater Equal e f g = absurd (cc)
tied Greater Greater e f g = absurd (cc)

-- what stands between two that tie ties with them
between : (R : Queued → Queued → Ordering) → IsTotalOrder R → (xs : List Queued) → IsSortedBy (λ x y. is_lt (R x y)) xs → (i j k : ℕ) (d : Queued) → i ≤ j → j ≤ k → k < length xs → R (get_or xs i d) (get_or xs k d) ≡ Equal → R (get_or xs i d) (get_or xs j d) ≡ Equal
between R o xs up i j k d le more lt same =
    let low : is_lt (R (get_or xs j d) (get_or xs i d)) ≡ false = sorted_far (λ x y. is_lt (R x y)) (ranks_by o (λ x. x)) xs up i j d le (omega arith) in
    let high : is_lt (R (get_or xs k d) (get_or xs j d)) ≡ false = sorted_far (λ x y. is_lt (R x y)) (ranks_by o (λ x. x)) xs up j k d more lt in
    tied (R (get_or xs i d) (get_or xs j d)) (R (get_or xs j d) (get_or xs i d)) (o.antisymm (get_or xs i d) (get_or xs j d)) low (ap is_lt (o.congr (get_or xs i d) (get_or xs k d) (get_or xs j d) same) ∙ high)

pub sorted_contiguous : (xs : List Queued) → IsSortedBy (λ x y. is_lt (by_name x y)) xs → IsContiguous xs
sorted_contiguous xs up i j k d le more lt same =
    name_is (get_or xs i d).name (get_or xs j d).name (between by_name by_name_total xs up i j k d le more lt (is_named (get_or xs i d).name (get_or xs k d).name same))

-- the names of two queues are the same
names_at : (xs ys : List Queued) → map name_of xs ≡ map name_of ys → (i : ℕ) (d : Queued) → i < length xs → (get_or xs i d).name ≡ (get_or ys i d).name
names_at xs ys e i d lt =
    let sizes : length xs ≡ length ys = sym (length-map xs name_of) ∙ ap length e ∙ length-map ys name_of in
    sym (get_or-map name_of xs i d d.name lt) ∙ ap (λ us. get_or us i d.name) e ∙ get_or-map name_of ys i d d.name (omega arith)

askers_at : (xs ys : List Queued) → map asker_of xs ≡ map asker_of ys → (i : ℕ) (d : Queued) → i < length xs → (get_or xs i d).asker ≡ (get_or ys i d).asker
askers_at xs ys e i d lt =
    let sizes : length xs ≡ length ys = sym (length-map xs asker_of) ∙ ap length e ∙ length-map ys asker_of in
    sym (get_or-map asker_of xs i d d.asker lt) ∙ ap (λ us. get_or us i d.asker) e ∙ get_or-map asker_of ys i d d.asker (omega arith)

pub same_contiguous : (xs ys : List Queued) → map name_of ys ≡ map name_of xs → IsContiguous xs → IsContiguous ys
same_contiguous xs ys e together i j k d le more lt same =
    names_at ys xs e i d (omega arith)
    ∙ together i j k d le more (let sizes : length ys ≡ length xs = sym (length-map ys name_of) ∙ ap length e ∙ length-map xs name_of in omega arith) (sym (names_at ys xs e i d (omega arith)) ∙ same ∙ names_at ys xs e k d lt)
    ∙ sym (names_at ys xs e j d (omega arith))

-- those of one name have one first
abbrev pub HaveFirsts : List Queued → Type 0
HaveFirsts xs = (i j : ℕ) (d : Queued) → i < length xs → j < length xs → (get_or xs i d).name ≡ (get_or xs j d).name → (get_or xs i d).first ≡ (get_or xs j d).first

firsts_up : (xs : List Queued) → IsContiguous xs → AreNumbered xs → (n i : ℕ) (d : Queued) → i + n < length xs → (get_or xs i d).name ≡ (get_or xs (i + n) d).name → (get_or xs i d).first ≡ (get_or xs (i + n) d).first
firsts_up xs together numbered zero i d lt same = let e : i ≡ i + 0 = omega arith in ap (λ m. (get_or xs m d).first) e
firsts_up xs together numbered (suc n) i d lt same =
    let e : i + n + 1 ≡ i + suc n = omega arith in
    let before : (get_or xs i d).name ≡ (get_or xs (i + n) d).name = together i (i + n) (i + suc n) d (omega arith) (omega arith) lt same in
    firsts_up xs together numbered n i d (omega arith) before
    ∙ numbered (i + n) d (omega arith) (sym before ∙ same ∙ ap (λ m. (get_or xs m d).name) (sym e)) ∙ ap (λ m. (get_or xs m d).first) e

pub have_firsts : (xs : List Queued) → IsContiguous xs → AreNumbered xs → HaveFirsts xs
have_firsts xs together numbered i j d lt lt' same = elim (cases_lt i j) [
  | inl h ↦ let e : i + (j - i) ≡ j = omega arith in
      firsts_up xs together numbered (j - i) i d (omega arith) (same ∙ ap (λ m. (get_or xs m d).name) (sym e)) ∙ ap (λ m. (get_or xs m d).first) e
  | inr h ↦ let e : j + (i - j) ≡ i = omega arith in
      sym (firsts_up xs together numbered (i - j) j d (omega arith) (sym same ∙ ap (λ m. (get_or xs m d).name) (sym e)) ∙ ap (λ m. (get_or xs m d).first) e)
]

pub moved_firsts : (xs ys : List Queued) → IsPermutation xs ys → HaveFirsts xs → HaveFirsts ys
moved_firsts xs ys p have i j d lt lt' same =
    let x = Contains-permutation ys xs (get_or ys i d) (IsPermutation-sym xs ys p) (i, lt, at_any ys i (get_or ys i d) d lt) in
    let y = Contains-permutation ys xs (get_or ys j d) (IsPermutation-sym xs ys p) (j, lt', at_any ys j (get_or ys j d) d lt') in
    let x_is : get_or xs x.0 d ≡ get_or ys i d = at_any xs x.0 d (get_or ys i d) x.1 ∙ x.2 in
    let y_is : get_or xs y.0 d ≡ get_or ys j d = at_any xs y.0 d (get_or ys j d) y.1 ∙ y.2 in
    sym (ap (λ q. q.first) x_is) ∙ have x.0 y.0 d x.1 y.1 (ap name_of x_is ∙ same ∙ sym (ap name_of y_is)) ∙ ap (λ q. q.first) y_is

first_contiguous : (xs : List Queued) → IsSortedBy (λ x y. is_lt (by_first x y)) xs → HaveFirsts xs → IsContiguous xs
first_contiguous xs up have i j k d le more lt same =
    let x = get_or xs i d in
    let z = get_or xs k d in
    let firsts : nat_cmp x.first z.first ≡ Equal = ap (nat_cmp x.first) (sym (have i k d (omega arith) lt same)) ∙ tied_itself nat_cmp_total x.first in
    let tie : by_first x z ≡ Equal = ap (λ o. ordering_then o (by_name x z)) firsts ∙ is_named x.name z.name same in
    name_is x.name (get_or xs j d).name (second (nat_cmp x.first (get_or xs j d).first) (by_name x (get_or xs j d)) (between by_first by_first_total xs up i j k d le more lt tie))
  where
    second : (o p : Ordering) → ordering_then o p ≡ Equal → p ≡ Equal
    second Less p e = absurd (cc)
    second Equal p e = e
    second Greater p e = absurd (cc)

pub same_named : (r : Rates) (level : ℕ) (xs ys : List Queued) → map asker_of ys ≡ map asker_of xs → map name_of ys ≡ map name_of xs → AreNamedAt r level xs → AreNamedAt r level ys
same_named r level xs ys askers same named k d lt =
    let sizes : length ys ≡ length xs = sym (length-map ys name_of) ∙ ap length same ∙ length-map xs name_of in
    names_at ys xs same k d lt ∙ named k d (omega arith) ∙ ap (λ x. key r level x.1) (sym (askers_at ys xs askers k d lt))

-- a queue that got its names, was sorted by them, got its firsts and was sorted by these
pub arranged : (r : Rates) (level : ℕ) (named sorted numbered last : List Queued) → AreNamedAt r level named → IsPermutation named sorted
    → IsSortedBy (λ x y. is_lt (ordering_then (by_name x y) (nat_cmp x.number y.number))) sorted
    → map asker_of numbered ≡ map asker_of sorted → map name_of numbered ≡ map name_of sorted → AreNumbered numbered → IsPermutation numbered last
    → IsSortedBy (λ x y. is_lt (ordering_then (by_first x y) (nat_cmp x.number y.number))) last → AreTogether r level last
arranged r level named sorted numbered last have moved up askers names firsts again rise = record {
  named = All-permutation (λ x. x.name ≡ key r level x.asker.1) numbered last again (same_named r level sorted numbered askers names (All-permutation (λ x. x.name ≡ key r level x.asker.1) named sorted moved have));
  contiguous = first_contiguous last (sorted_first by_first (λ x y. nat_cmp x.number y.number) last rise)
      (moved_firsts numbered last again (have_firsts numbered (same_contiguous sorted numbered names (sorted_contiguous sorted (sorted_first by_name (λ x y. nat_cmp x.number y.number) sorted up))) firsts));
}

pub all_kept : (old named sorted numbered last : List Queued) → map asker_of named ≡ map asker_of old → IsPermutation named sorted → map asker_of numbered ≡ map asker_of sorted → IsPermutation numbered last → IsPermutation (map asker_of old) (map asker_of last)
all_kept old named sorted numbered last names moved firsts again =
    IsPermutation-trans (map asker_of old) (map asker_of sorted) (map asker_of last) (subst (λ us. IsPermutation us (map asker_of sorted)) names (IsPermutation-map asker_of named sorted moved))
    (subst (λ us. IsPermutation us (map asker_of last)) firsts (IsPermutation-map asker_of numbered last again))
