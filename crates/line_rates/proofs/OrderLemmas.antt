-- The order of alike asks in a queue.
use Rattle.std.proofs.Common.{◌≡◌, ◌≢◌, ℕ, zero, suc, ◌+◌, ◌-◌, ◌<◌, ◌≤◌, Bool, true, false, List, [], ◌∷◌, length, map, get_or, set, sym, refl, ap, ◌∙◌, subst, arith, Option, Some, None, All, inl, inr, IsPermutation, Ordering, Equal, nat_cmp, is_lt, get_or-set_same, get_or-set_other, IsSortedBy, count_by, cond}
use Rattle.std.specs.Prelude.{slice_get}
use Rattle.std.specs.Ordering.{ordering_then}
use Rattle.std.specs.Cmp.{IsTotalOrder}
use Rattle.std.proofs.lemmas.Bool.{cases_lt, cases_Bool, false≢true}
use Rattle.std.proofs.lemmas.Cmp.{on_total, then_total, nat_cmp_total, tied_itself}
use Rattle.std.proofs.lemmas.Map.Keys.{ge_from_not_lt}
use Rattle.std.proofs.lemmas.List.Sums.{sum_by-cons}
use Rattle.std.proofs.lemmas.List.Sorted.{sorted_far, ranks_by, All-permutation, IsPermutation-map, IsPermutation-trans, sum_by-IsPermutation}
use Rattle.line_rates.specs.declared.ask.Ask.{Ask}
use Rattle.line_rates.specs.declared.ask.Name.{Name}
use Rattle.line_rates.specs.declared.queue.Queued.{Queued}
use Rattle.line_rates.specs.Alike.{Numbered, number_in, asker_in, AreAlike, AreInOrder}
use Rattle.line_rates.specs.Grown.{key, same_name, level_of}
use Rattle.line_rates.specs.Names.{bears}
use Rattle.line_rates.specs.Queue.{asker_of, name_of, numbered_of, AreNamedAt, AreNumbered, AreAmong, IsOwnFirst, AreOwnFirst}
use Rattle.line_rates.specs.Rates.{Rates, group_of}
use Rattle.line_rates.specs.TickTree.{ask_in}
use Rattle.line_rates.proofs.NameLemmas.{same_name-is, same_name-refl, key_same, key_level, key_none}
use Rattle.line_rates.proofs.QueueLemmas.{HaveFirsts, by_name, by_first, by_first_total, sorted_contiguous, same_contiguous, have_firsts, moved_firsts, same_named, not_less, sorted_first, is_named}
use Rattle.line_rates.proofs.RowLemmas.{at_any}

-- the first places of a queue
abbrev pub IsOwnBelow : List Queued → ℕ → Type 0
IsOwnBelow queue n = (i : ℕ) (d : Queued) → i < n → i < length queue
    → ((j : ℕ) → j + 1 ≡ i → (get_or queue j d).name ≢ (get_or queue i d).name)
    → IsOwnFirst (get_or queue i d)

pub own_start : (queue : List Queued) → All IsOwnFirst queue → IsOwnBelow queue 1
own_start queue all i d lt inside differ = all i d inside

-- one place more, whose name and number stay
pub own_put : (queue : List Queued) (i : ℕ) (y : Queued) → 1 ≤ i → i < length queue → ((d : Queued) → y.name ≡ (get_or queue i d).name)
    → ((d : Queued) → ((get_or queue (i - 1) d).name ≢ y.name) → IsOwnFirst y) → IsOwnBelow queue i → IsOwnBelow (set queue i y) (i + 1)
own_put queue i y from inside named here was k d lt in_k differ =
    elim (cases_lt k i) [
      | inl below ↦
          let same : get_or (set queue i y) k d ≡ get_or queue k d = get_or-set_other queue i k y d (λ e. absurd (omega arith)) in
          let before : (j : ℕ) → j + 1 ≡ k → get_or (set queue i y) j d ≡ get_or queue j d = λ j e. get_or-set_other queue i j y d (λ f. absurd (omega arith)) in
          subst IsOwnFirst (sym same) (was k d below (omega arith) (λ j e f. differ j e (ap name_of (before j e) ∙ f ∙ sym (ap name_of same))))
      | inr last ↦
          let is : i ≡ k = omega arith in
          let same : get_or (set queue i y) k d ≡ y = ap (λ n. get_or (set queue i y) n d) (sym is) ∙ get_or-set_same queue i y d inside in
          let one : i - 1 + 1 ≡ k = omega arith in
          let before : get_or (set queue i y) (i - 1) d ≡ get_or queue (i - 1) d = get_or-set_other queue i (i - 1) y d (λ f. absurd (omega arith)) in
          subst IsOwnFirst (sym same) (here d (λ f. differ (i - 1) one (ap name_of before ∙ f ∙ sym (ap name_of same))))
    ]

-- how many asks of a queue pass a test
abbrev pub passing : (Ask → Bool) → List Queued → ℕ
passing p xs = count_by p (map ask_in (map asker_of xs))

abbrev pub weight : Bool → ℕ
weight b = cond b 1 0

pub passing-cons : (p : Ask → Bool) (x : Queued) (xs : List Queued) → passing p (x ∷ xs) ≡ weight (p x.asker.1) + passing p xs
passing-cons p x xs = sum_by-cons (λ a. cond (p a) 1 0) x.asker.1 (map ask_in (map asker_of xs))

one_of : (p : Ask → Bool) (xs : List Queued) (k : ℕ) (d : Queued) → k < length xs → p (get_or xs k d).asker.1 ≡ true → 1 ≤ passing p xs
one_of p [] k d lt is = absurd (omega arith)
one_of p (x ∷ xs) zero d lt is = let here = ap weight is in omega (arith, here, passing-cons p x xs)
one_of p (x ∷ xs) (suc k) d lt is = omega (arith, one_of p xs k d (omega arith) is, passing-cons p x xs)

two_of : (p : Ask → Bool) (xs : List Queued) (k l : ℕ) (d : Queued) → k < l → l < length xs → p (get_or xs k d).asker.1 ≡ true → p (get_or xs l d).asker.1 ≡ true → 2 ≤ passing p xs
two_of p [] k l d less lt in_k in_l = absurd (omega arith)
two_of p (x ∷ xs) k zero d less lt in_k in_l = absurd (omega arith)
two_of p (x ∷ xs) zero (suc l) d less lt in_k in_l = let here = ap weight in_k in omega (arith, here, one_of p xs l d (omega arith) in_l, passing-cons p x xs)
two_of p (x ∷ xs) (suc k) (suc l) d less lt in_k in_l = omega (arith, two_of p xs k l d (omega arith) (omega arith) in_k in_l, passing-cons p x xs)

-- an ask is the first of its name if no other of all asks has it
abbrev IsFirstAlone : Rates → List Ask → Queued → Type 0
IsFirstAlone r asks x = (n : Name) → x.name ≡ Some n → count_by (bears r n) asks ≤ 1 → x.first ≡ x.number

first_alone : (r : Rates) (level : ℕ) (asks : List Ask) (xs : List Queued) → AreNamedAt r level xs → AreOwnFirst xs → AreAmong r asks (map ask_in (map asker_of xs)) → All (IsFirstAlone r asks) xs
first_alone r level asks xs named own among i d lt n is few =
    own i d lt (λ j next same.
    let bears_i = (key_level r level n (get_or xs i d).asker.1 (sym (named i d lt) ∙ is)).0 in
    let bears_j = (key_level r level n (get_or xs j d).asker.1 (sym (named j d (omega arith)) ∙ (same ∙ is))).0 in
    absurd (omega (arith, two_of (bears r n) xs j i d (omega arith) lt bears_j bears_i, among n, few)))

-- the order of the last arrangement
abbrev by_all : Queued → Queued → Ordering
by_all x y = ordering_then (by_first x y) (nat_cmp x.number y.number)

by_all_total : IsTotalOrder by_all
by_all_total = then_total by_first_total (on_total (λ x. x.number) nat_cmp_total)

-- among those with the same name, by number
number_order : (f g a b : ℕ) (o : Ordering) → f ≡ g → o ≡ Equal → is_lt (ordering_then (ordering_then (nat_cmp f g) o) (nat_cmp a b)) ≡ false → b ≤ a
number_order f g a b o firsts names up =
    let tie : nat_cmp f g ≡ Equal = ap (nat_cmp f) (sym firsts) ∙ tied_itself nat_cmp_total f in
    ge_from_not_lt a b (sym (ap (λ (u : Ordering). is_lt (ordering_then (ordering_then u o) (nat_cmp a b))) tie ∙ ap (λ (u : Ordering). is_lt (ordering_then u (nat_cmp a b))) names) ∙ up)

first_order : (f g : ℕ) (o p : Ordering) → is_lt (ordering_then (ordering_then (nat_cmp f g) o) p) ≡ false → g ≤ f
first_order f g o p up = ge_from_not_lt f g (not_less (nat_cmp f g) o (not_less (ordering_then (nat_cmp f g) o) p up))

-- of two alike asks with other names at a level each is alone with its own
alone_at : (r : Rates) (level : ℕ) (asks : List Ask) (a b : Ask) (n m : Name) → AreAlike r asks a b → key r level a ≡ Some n → key r level b ≡ Some m → same_name n m ≡ false → (count_by (bears r n) asks ≤ 1) × (count_by (bears r m) asks ≤ 1)
alone_at r level asks a b n m alike in_a in_b other = (
  (elim (alike.names n) [
    | inr few ↦ few
    | inl same ↦
        let here = key_level r level n a in_a in
        let is : Some n ≡ Some m = sym in_a ∙ (key_same r level n a b here.0 (sym same ∙ here.0) (omega (arith, here.1)) ∙ in_b) in
        absurd (differ is)
  ]),
  (elim (alike.names m) [
    | inr few ↦ few
    | inl same ↦
        let here = key_level r level m b in_b in
        let is : Some n ≡ Some m = sym in_a ∙ (sym (key_same r level m b a here.0 (same ∙ here.0) (omega (arith, here.1))) ∙ in_b) in
        absurd (differ is)
  ]),
)
  where
    inner : Some n ≡ Some m → n ≡ m
    inner e = cc

    differ : Some n ≡ Some m → ⊥
    differ e = false≢true (sym other ∙ subst (λ x. same_name n x ≡ true) (inner e) (same_name-refl n))

-- if one ask has a name at a level, so has one whose user is in the same group
no_name : (r : Rates) (level : ℕ) (a b : Ask) (n : Name) → group_of r a.user ≡ group_of r b.user → key r level a ≡ None → key r level b ≡ Some n → ⊥
no_name r level a b n same none some =
    let here = key_level r level n b some in
    let low = key_none r level n a none in
    let level_same : level_of (group_of r a.user) n ≡ level_of (group_of r b.user) n = ap (λ g. level_of g n) same in
    omega (arith, low, here.1, level_same)

-- a queue that was arranged has alike asks in the order of their numbers
pub arranged_order : (r : Rates) (level : ℕ) (asks : List Ask) (named sorted numbered last : List Queued) → AreNamedAt r level named → All IsOwnFirst named → IsPermutation named sorted
    → IsSortedBy (λ x y. is_lt (ordering_then (by_name x y) (nat_cmp x.number y.number))) sorted
    → map asker_of numbered ≡ map asker_of sorted → map name_of numbered ≡ map name_of sorted → AreNumbered numbered → (All IsOwnFirst sorted → AreOwnFirst numbered) → IsPermutation numbered last
    → IsSortedBy (λ x y. is_lt (by_all x y)) last → AreAmong r asks (map ask_in (map asker_of named)) → AreInOrder r asks (map numbered_of last)
arranged_order r level asks named sorted numbered last have own moved up askers names firsts owns again rise among k l x y less in_x in_y alike =
    let at_x = queued_at last k x in_x in
    let at_y = queued_at last l y in_y in
    let u = at_x.0 in
    let v = at_y.0 in
    let u_here : get_or last k u ≡ u = slice_at last k u at_x.1 in
    let v_here : get_or last l u ≡ v = at_any last l u v (slice_lt last l v at_y.1) ∙ slice_at last l v at_y.1 in
    let rows = same_named r level sorted numbered askers names (All-permutation (λ z. z.name ≡ key r level z.asker.1) named sorted moved have) in
    let count_same : AreAmong r asks (map ask_in (map asker_of numbered)) = λ n. (
    let one : count_by (bears r n) (map ask_in (map asker_of numbered)) ≡ count_by (bears r n) (map ask_in (map asker_of sorted)) = ap (λ zs. count_by (bears r n) (map ask_in zs)) askers in
    let two = sum_by-IsPermutation (λ a. cond (bears r n a) 1 0) (map ask_in (map asker_of named)) (map ask_in (map asker_of sorted)) (IsPermutation-map ask_in (map asker_of named) (map asker_of sorted) (IsPermutation-map asker_of named sorted moved)) in
    omega (arith, one, two, among n)) in
    let alone = All-permutation (IsFirstAlone r asks) numbered last again (first_alone r level asks numbered rows (owns (All-permutation IsOwnFirst named sorted moved own)) count_same) in
    let have_names = All-permutation (λ z. z.name ≡ key r level z.asker.1) numbered last again rows in
    let have_all : HaveFirsts last = moved_firsts numbered last again (have_firsts numbered (same_contiguous sorted numbered names (sorted_contiguous sorted (sorted_first by_name (λ x y. nat_cmp x.number y.number) sorted up))) firsts) in
    let inside : l < length last = slice_lt last l v at_y.1 in
    let low : is_lt (by_all (get_or last l u) (get_or last k u)) ≡ false = sorted_far (λ x y. is_lt (by_all x y)) (ranks_by by_all_total (λ x. x)) last rise k l u (omega arith) inside in
    let low_here : is_lt (by_all v u) ≡ false = sym (ap (λ z. is_lt (by_all z (get_or last k u))) v_here ∙ ap (λ z. is_lt (by_all v z)) u_here) ∙ low in
    let key_u : u.name ≡ key r level u.asker.1 = subst (λ z. z.name ≡ key r level z.asker.1) u_here (have_names k u (omega arith)) in
    let key_v : v.name ≡ key r level v.asker.1 = subst (λ z. z.name ≡ key r level z.asker.1) v_here (have_names l u inside) in
    let alone_u : IsFirstAlone r asks u = subst (IsFirstAlone r asks) u_here (alone k u (omega arith)) in
    let alone_v : IsFirstAlone r asks v = subst (IsFirstAlone r asks) v_here (alone l u inside) in
    let alike_here : AreAlike r asks u.asker.1 v.asker.1 = subst (λ z. AreAlike r asks u.asker.1 (ask_in (asker_in z))) (sym at_y.2) (subst (λ z. AreAlike r asks (ask_in (asker_in z)) (ask_in (asker_in y))) (sym at_x.2) alike) in
    let same_firsts : u.name ≡ v.name → u.first ≡ v.first = λ e. ap (λ z. z.first) (sym u_here) ∙ have_all k l u (omega arith) inside (ap name_of u_here ∙ e ∙ sym (ap name_of v_here)) ∙ ap (λ z. z.first) v_here in
    let result : u.number ≤ v.number = by_names u v key_u key_v alone_u alone_v alike_here same_firsts low_here u.name v.name refl refl in
    omega (arith, result, ap number_in at_x.2, ap number_in at_y.2)
  where
    queued_at : (xs : List Queued) (k : ℕ) (x : Numbered) → slice_get (map numbered_of xs) k ≡ Some x → (u : Queued) × (slice_get xs k ≡ Some u) × (numbered_of u ≡ x)
    queued_at [] k x e = absurd (cc)
    queued_at (u ∷ xs) zero x e = (u, refl, inner e)
      where
        inner : Some (numbered_of u) ≡ Some x → numbered_of u ≡ x
        inner e = cc
    queued_at (u ∷ xs) (suc k) x e = queued_at xs k x e

    slice_lt : (xs : List Queued) (k : ℕ) (u : Queued) → slice_get xs k ≡ Some u → k < length xs
    slice_lt [] k u e = absurd (cc)
    slice_lt (z ∷ xs) zero u e = omega arith
    slice_lt (z ∷ xs) (suc k) u e = omega (arith, slice_lt xs k u e)

    slice_at : (xs : List Queued) (k : ℕ) (u : Queued) → slice_get xs k ≡ Some u → get_or xs k u ≡ u
    slice_at [] k u e = refl
    slice_at (z ∷ xs) zero u e = inner e
      where
        inner : Some z ≡ Some u → z ≡ u
        inner e = cc
    slice_at (z ∷ xs) (suc k) u e = slice_at xs k u e

    same_names : (u v : Queued) → (u.name ≡ v.name → u.first ≡ v.first) → is_lt (by_all v u) ≡ false → u.name ≡ v.name → u.number ≤ v.number
    same_names u v firsts low e = number_order v.first u.first v.number u.number (by_name v u) (sym (firsts e)) (is_named v.name u.name (sym e)) low

    by_names : (u v : Queued) → u.name ≡ key r level u.asker.1 → v.name ≡ key r level v.asker.1 → IsFirstAlone r asks u → IsFirstAlone r asks v → AreAlike r asks u.asker.1 v.asker.1 → (u.name ≡ v.name → u.first ≡ v.first) → is_lt (by_all v u) ≡ false
        → (n m : Option Name) → u.name ≡ n → v.name ≡ m → u.number ≤ v.number
    by_names u v key_u key_v alone_u alone_v alike firsts low None None in_u in_v = same_names u v firsts low (in_u ∙ sym in_v)
    by_names u v key_u key_v alone_u alone_v alike firsts low None (Some m) in_u in_v = absurd (no_name r level u.asker.1 v.asker.1 m alike.group (sym key_u ∙ in_u) (sym key_v ∙ in_v))
    by_names u v key_u key_v alone_u alone_v alike firsts low (Some n) None in_u in_v = absurd (no_name r level v.asker.1 u.asker.1 n (sym alike.group) (sym key_v ∙ in_v) (sym key_u ∙ in_u))
    by_names u v key_u key_v alone_u alone_v alike firsts low (Some n) (Some m) in_u in_v = elim (cases_Bool (same_name n m)) [
      | inl same ↦ same_names u v firsts low (in_u ∙ ap (λ z. Some z) (same_name-is n m same) ∙ sym in_v)
      | inr other ↦
          let each = alone_at r level asks u.asker.1 v.asker.1 n m alike (sym key_u ∙ in_u) (sym key_v ∙ in_v) other in
          omega (arith, first_order v.first u.first (by_name v u) (nat_cmp v.number u.number) low, alone_u n in_u each.0, alone_v m in_v each.1)
    ]

-- the numbers stay with their asks
pub numbers_kept : (old named sorted numbered last : List Queued) → map numbered_of named ≡ map numbered_of old → IsPermutation named sorted → map numbered_of numbered ≡ map numbered_of sorted → IsPermutation numbered last → IsPermutation (map numbered_of old) (map numbered_of last)
numbers_kept old named sorted numbered last names moved firsts again =
    IsPermutation-trans (map numbered_of old) (map numbered_of sorted) (map numbered_of last) (subst (λ us. IsPermutation us (map numbered_of sorted)) names (IsPermutation-map numbered_of named sorted moved))
    (subst (λ us. IsPermutation us (map numbered_of last)) firsts (IsPermutation-map numbered_of numbered last again))
