-- Grown trees side by side, and under a branch.
use Rattle.std.proofs.Common.{◌≡◌, ℕ, zero, suc, ◌+◌, ◌<◌, Bool, true, false, ◌||◌, cond, List, [], ◌∷◌, ◌++◌, length, map, sym, refl, ap, ◌∙◌, arith, Option, Some, None}
use Rattle.std.specs.Prelude.{nat_le, nat_lt, count_by}
use Rattle.std.specs.List.{AllByRecursion, list_any}
use Rattle.std.proofs.lemmas.Bool.{and_parts, and_from, or_parts, leb-true, ltb-true, le-leb, lt-ltb}
use Rattle.std.proofs.lemmas.List.{map-append, length-map}
use Rattle.std.proofs.lemmas.List.Sums.{sum_by-cons, sum_by-append}
use Rattle.std.proofs.lemmas.List.Elements.{filter_map-append}
use Rattle.limit_tree.specs.Outline.{leaf_want, leaf_floor, leaf_range, leaf_count, behind, deeper, branch_over, leaf_alone}
use Rattle.limit_tree.specs.declared.place.Place.{Place}
use Rattle.limit_tree.proofs.Leaves.{wants_in, floors_in, floors_in-behind, floors_in-deeper, length-wants_in}
use Rattle.line_rates.specs.declared.ask.Ask.{Ask}
use Rattle.line_rates.specs.declared.ask.Name.{Name}
use Rattle.line_rates.specs.Names.{bears, want_of, floor_of}
use Rattle.line_rates.specs.Rates.{Rates, rate_of}
use Rattle.line_rates.specs.Ticks.{rate_limit}
use Rattle.line_rates.specs.TickTree.{bears_at}
use Rattle.line_rates.specs.Grown.{same_name, Mark, place_in, is_marked, IsMarkBy, IsMark, IsGrown}
use Rattle.limit_tree.proofs.Absorbs.{wants_in-behind, wants_in-deeper}

pub bool_same : (x y : Bool) → (x ≡ true → y ≡ true) → (y ≡ true → x ≡ true) → x ≡ y
bool_same true true f g = refl
bool_same false false f g = refl
bool_same true false f g = sym (f refl)
bool_same false true f g = g refl

all_append : {X : Type 0} (P : X → Type 0) (xs ys : List X) → AllByRecursion P xs → AllByRecursion P ys → AllByRecursion P (xs ++ ys)
all_append P [] ys h k = k
all_append P (x ∷ xs) ys h k = (h.0, all_append P xs ys h.1 k)

all_map : {X Y : Type 0} (P : X → Type 0) (Q : Y → Type 0) (f : X → Y) (xs : List X) → ((x : X) → P x → Q (f x)) → AllByRecursion P xs → AllByRecursion Q (map f xs)
all_map P Q f [] g h = tt
all_map P Q f (x ∷ xs) g h = (g x h.0, all_map P Q f xs g h.1)

all_weaker : {X : Type 0} (P Q : X → Type 0) (xs : List X) → ((x : X) → P x → Q x) → AllByRecursion P xs → AllByRecursion Q xs
all_weaker P Q [] g h = tt
all_weaker P Q (x ∷ xs) g h = (g x h.0, all_weaker P Q xs g h.1)

-- ranges of leaves
range_shift : (n f k i : ℕ) → leaf_range (n + f) k (n + i) ≡ leaf_range f k i
range_shift n f k i = bool_same (leaf_range (n + f) k (n + i)) (leaf_range f k i)
    (λ h. let p = and_parts (nat_le (n + f) (n + i)) (nat_lt (n + i) (n + f + k)) h in and_from (nat_le f i) (nat_lt i (f + k)) (le-leb f i (let l = leb-true (n + f) (n + i) p.0 in omega arith)) (lt-ltb i (f + k) (let l = ltb-true (n + i) (n + f + k) p.1 in omega arith)))
    (λ h. let p = and_parts (nat_le f i) (nat_lt i (f + k)) h in and_from (nat_le (n + f) (n + i)) (nat_lt (n + i) (n + f + k)) (le-leb (n + f) (n + i) (let l = leb-true f i p.0 in omega arith)) (lt-ltb (n + i) (n + f + k) (let l = ltb-true i (f + k) p.1 in omega arith)))

range_before : (n f k i : ℕ) → i < n → leaf_range (n + f) k i ≡ false
range_before n f k i less = bool_same (leaf_range (n + f) k i) false (λ h. let p = and_parts (nat_le (n + f) i) (nat_lt i (n + f + k)) h in let l = leb-true (n + f) i p.0 in absurd (omega arith)) (λ h. absurd (cc))

range_all : (k i : ℕ) → leaf_range 0 k i ≡ nat_lt i k
range_all k i = bool_same (leaf_range 0 k i) (nat_lt i k)
    (λ h. let p = and_parts (nat_le 0 i) (nat_lt i (0 + k)) h in lt-ltb i k (let l = ltb-true i (0 + k) p.1 in omega arith))
    (λ h. and_from (nat_le 0 i) (nat_lt i (0 + k)) (le-leb 0 i (omega arith)) (lt-ltb i (0 + k) (let l = ltb-true i k h in omega arith)))

-- where no ask bears the name, no leaf does
none_at : (r : Rates) (n : Name) (asks : List Ask) (i : ℕ) → list_any (bears r n) asks ≡ false → bears_at r n asks i ≡ false
none_at r n [] i h = refl
none_at r n (a ∷ asks) zero h = (or_parts (bears r n a) (list_any (bears r n) asks) h).0
none_at r n (a ∷ asks) (suc i) h = none_at r n asks i (or_parts (bears r n a) (list_any (bears r n) asks) h).1

left_at : (r : Rates) (n : Name) (xs ys : List Ask) (i : ℕ) → list_any (bears r n) ys ≡ false → bears_at r n (xs ++ ys) i ≡ bears_at r n xs i
left_at r n [] ys i h = none_at r n ys i h
left_at r n (x ∷ xs) ys zero h = refl
left_at r n (x ∷ xs) ys (suc i) h = left_at r n xs ys i h

-- the leaves of a name that only the second asks bear
right_at : (r : Rates) (n : Name) (xs ys : List Ask) (f k : ℕ) → list_any (bears r n) xs ≡ false → ((j : ℕ) → leaf_range f k j ≡ bears_at r n ys j) → (i : ℕ) → leaf_range (length xs + f) k i ≡ bears_at r n (xs ++ ys) i
right_at r n [] ys f k h same i = let e : 0 + f ≡ f = omega arith in ap (λ (m : ℕ). leaf_range m k i) e ∙ same i
right_at r n (x ∷ xs) ys f k h same zero = range_before (length (x ∷ xs)) f k 0 (omega arith) ∙ sym ((or_parts (bears r n x) (list_any (bears r n) xs) h).0)
right_at r n (x ∷ xs) ys f k h same (suc i) =
    let first : length (x ∷ xs) + f ≡ 1 + (length xs + f) = omega arith in
    let at : suc i ≡ 1 + i = omega arith in
    ap (λ (m : ℕ). leaf_range m k (suc i)) first ∙ ap (λ (m : ℕ). leaf_range (1 + (length xs + f)) k m) at ∙ range_shift 1 (length xs + f) k i ∙ right_at r n xs ys f k (or_parts (bears r n x) (list_any (bears r n) xs) h).1 same i

-- every leaf bears the name
all_at : (r : Rates) (n : Name) (asks : List Ask) → AllByRecursion (λ a. bears r n a ≡ true) asks → (i : ℕ) → nat_lt i (length asks) ≡ bears_at r n asks i
all_at r n [] h i = bool_same (nat_lt i 0) false (λ e. let l = ltb-true i 0 e in absurd (omega arith)) (λ e. absurd (cc))
all_at r n (a ∷ asks) h zero = lt-ltb 0 (length (a ∷ asks)) (omega arith) ∙ sym h.0
all_at r n (a ∷ asks) h (suc i) =
    bool_same (nat_lt (suc i) (length (a ∷ asks))) (nat_lt i (length asks)) (λ e. lt-ltb i (length asks) (let l = ltb-true (suc i) (length (a ∷ asks)) e in omega arith)) (λ e. lt-ltb (suc i) (length (a ∷ asks)) (let l = ltb-true i (length asks) e in omega arith))
    ∙ all_at r n asks h.1 i

-- marks further right, and deeper
abbrev mark_behind : ℕ → Mark → Mark
mark_behind n m = record { place = behind n m.place; name = m.name }

abbrev mark_deeper : Mark → Mark
mark_deeper m = record { place = deeper m.place; name = m.name }

places-behind : (n : ℕ) (ms : List Mark) → map place_in (map (mark_behind n) ms) ≡ map (behind n) (map place_in ms)
places-behind n [] = refl
places-behind n (m ∷ ms) = ap (λ ps. behind n m.place ∷ ps) (places-behind n ms)

places-deeper : (ms : List Mark) → map place_in (map mark_deeper ms) ≡ map deeper (map place_in ms)
places-deeper [] = refl
places-deeper (m ∷ ms) = ap (λ ps. deeper m.place ∷ ps) (places-deeper ms)

abbrev mark_count : Name → Mark → ℕ
mark_count n m = cond (is_marked n m) 1 0

count-behind : (n : Name) (k : ℕ) (ms : List Mark) → count_by (is_marked n) (map (mark_behind k) ms) ≡ count_by (is_marked n) ms
count-behind n k [] = refl
count-behind n k (m ∷ ms) = omega (arith, count-behind n k ms, sum_by-cons (mark_count n) m ms, sum_by-cons (mark_count n) (mark_behind k m) (map (mark_behind k) ms))

count-deeper : (n : Name) (ms : List Mark) → count_by (is_marked n) (map mark_deeper ms) ≡ count_by (is_marked n) ms
count-deeper n [] = refl
count-deeper n (m ∷ ms) = omega (arith, count-deeper n ms, sum_by-cons (mark_count n) m ms, sum_by-cons (mark_count n) (mark_deeper m) (map mark_deeper ms))

one_of : (x y : Bool) → (x ≡ true → y ≡ false) → cond x 1 0 + cond y 1 0 ≡ cond (x || y) 1 0
one_of true true h = let e : true ≡ false = h refl in absurd (cc)
one_of true false h = omega arith
one_of false y h = omega arith

pub leaves_of : (r : Rates) (tick : ℕ) (named : Name → Bool) (asks : List Ask) (ps : List Place) → IsGrown r tick named asks ps → leaf_count ps ≡ length asks
leaves_of r tick named asks ps g = sym (length-wants_in ps) ∙ ap length g.wants ∙ length-map asks want_of

pub second_true : (x y : Bool) → y ≡ true → (x || y) ≡ true
second_true true y e = refl
second_true false y e = e

-- trees side by side
pub grown_pair : (r : Rates) (tick : ℕ) (na nb : Name → Bool) (xs ys : List Ask) (ps qs : List Place) → IsGrown r tick na xs ps → IsGrown r tick nb ys qs
    → ((n : Name) → na n ≡ true → list_any (bears r n) ys ≡ false) → ((n : Name) → nb n ≡ true → list_any (bears r n) xs ≡ false) → ((n : Name) → na n ≡ true → nb n ≡ false)
    → IsGrown r tick (λ n. na n || nb n) (xs ++ ys) (ps ++ map (behind (leaf_count ps)) qs)
grown_pair r tick na nb xs ys ps qs g h apart_a apart_b apart = record {
  marks = g.marks ++ map (mark_behind (leaf_count ps)) h.marks;
  are = ap (λ (us : List Place). us ++ map (behind (leaf_count ps)) qs) g.are ∙ ap (λ (us : List Place). map place_in g.marks ++ map (behind (leaf_count ps)) us) h.are
      ∙ ap (λ (us : List Place). map place_in g.marks ++ us) (sym (places-behind (leaf_count ps) h.marks)) ∙ sym (map-append place_in g.marks (map (mark_behind (leaf_count ps)) h.marks));
  wants = filter_map-append (λ (p : Place). leaf_want p.kind) ps (map (behind (leaf_count ps)) qs) ∙ ap (λ ws. wants_in ps ++ ws) (wants_in-behind (leaf_count ps) qs ∙ h.wants) ∙ ap (λ ws. ws ++ map want_of ys) g.wants ∙ sym (map-append want_of xs ys);
  floors = filter_map-append (λ (p : Place). leaf_floor p.kind) ps (map (behind (leaf_count ps)) qs) ∙ ap (λ ws. floors_in ps ++ ws) (floors_in-behind (leaf_count ps) qs ∙ h.floors) ∙ ap (λ ws. ws ++ map (floor_of r) ys) g.floors ∙ sym (map-append (floor_of r) xs ys);
  right = all_append (IsMark r tick named (xs ++ ys)) g.marks (map (mark_behind (leaf_count ps)) h.marks)
      (all_weaker (IsMark r tick na xs) (IsMark r tick named (xs ++ ys)) g.marks (λ m. in_left m.name m.place) g.right)
      (all_map (IsMark r tick nb ys) (IsMark r tick named (xs ++ ys)) (mark_behind (leaf_count ps)) h.marks (λ m. in_right m.name m.place) h.right);
  once = λ n. sum_by-append (mark_count n) g.marks (map (mark_behind (leaf_count ps)) h.marks) ∙ ap (λ (c : ℕ). count_by (is_marked n) g.marks + c) (count-behind n (leaf_count ps) h.marks ∙ h.once n) ∙ ap (λ (c : ℕ). c + cond (nb n) 1 0) (g.once n) ∙ one_of (na n) (nb n) (apart n);
}
  where
    named : Name → Bool
    named n = na n || nb n

    in_left : (o : Option Name) (p : Place) → IsMarkBy r tick na xs o p → IsMarkBy r tick (λ n. na n || nb n) (xs ++ ys) o p
    in_left None p e = e
    in_left (Some n) p b = record { kind = b.kind; holds = λ i. b.holds i ∙ sym (left_at r n xs ys i (apart_a n b.among)); among = ap (λ (x : Bool). x || nb n) b.among }

    in_right : (o : Option Name) (p : Place) → IsMarkBy r tick nb ys o p → IsMarkBy r tick (λ n. na n || nb n) (xs ++ ys) o (behind (leaf_count ps) p)
    in_right None p e = e
    in_right (Some n) p b = record { kind = b.kind; holds = λ i. ap (λ (c : ℕ). leaf_range (c + p.first) p.leaves i) (leaves_of r tick na xs ps g) ∙ right_at r n xs ys p.first p.leaves (apart_b n b.among) b.holds i; among = second_true (na n) (nb n) b.among }

-- trees under a branch
pub grown_over : (r : Rates) (tick : ℕ) (na : Name → Bool) (xs : List Ask) (ps : List Place) (top : Name) (kids : ℕ) → IsGrown r tick na xs ps
    → AllByRecursion (λ a. bears r top a ≡ true) xs → na top ≡ false → ((n : Name) → same_name n top ≡ true → n ≡ top) → same_name top top ≡ true
    → IsGrown r tick (λ n. same_name n top || na n) xs (branch_over (rate_limit (rate_of r top) tick) kids ps ∷ map deeper ps)
grown_over r tick na xs ps top kids g all new same_is is_same = record {
  marks = record { place = root; name = Some top } ∷ map mark_deeper g.marks;
  are = ap (λ us. root ∷ us) (ap (λ us. map deeper us) g.are ∙ sym (places-deeper g.marks));
  wants = wants_in-deeper ps ∙ g.wants;
  floors = floors_in-deeper ps ∙ g.floors;
  right = (
    record { kind = refl; holds = λ i. range_all (leaf_count ps) i ∙ ap (λ (c : ℕ). nat_lt i c) (leaves_of r tick na xs ps g) ∙ all_at r top xs all i; among = ap (λ (b : Bool). b || na top) is_same },
    all_map (IsMark r tick na xs) (IsMark r tick (λ n. same_name n top || na n) xs) mark_deeper g.marks (λ m. below m.name m.place) g.right,
  );
  once = λ n. sum_by-cons (mark_count n) (record { place = root; name = Some top }) (map mark_deeper g.marks) ∙ ap (λ (c : ℕ). cond (same_name n top) 1 0 + c) (count-deeper n g.marks ∙ g.once n) ∙ one_of (same_name n top) (na n) (λ e. ap na (same_is n e) ∙ new);
}
  where
    root : Place
    root = branch_over (rate_limit (rate_of r top) tick) kids ps

    below : (o : Option Name) (p : Place) → IsMarkBy r tick na xs o p → IsMarkBy r tick (λ n. same_name n top || na n) xs o (deeper p)
    below None p e = e
    below (Some n) p b = record { kind = b.kind; holds = b.holds; among = second_true (same_name n top) (na n) b.among }

pub grown_leaf : (r : Rates) (tick : ℕ) (a : Ask) → IsGrown r tick (λ n. false) (a ∷ []) (leaf_alone a.want (floor_of r a) ∷ [])
grown_leaf r tick a = record {
  marks = record { place = leaf_alone a.want (floor_of r a); name = None } ∷ [];
  are = refl;
  wants = refl;
  floors = refl;
  right = (refl, tt);
  once = λ n. sum_by-cons (mark_count n) (record { place = leaf_alone a.want (floor_of r a); name = None }) [] ∙ omega arith;
}

pub grown_nothing : (r : Rates) (tick : ℕ) → IsGrown r tick (λ n. false) [] []
grown_nothing r tick = record { marks = []; are = refl; wants = refl; floors = refl; right = tt; once = λ n. refl }

-- the same names
pub grown_named : (r : Rates) (tick : ℕ) (na nb : Name → Bool) (xs : List Ask) (ps : List Place) → ((n : Name) → na n ≡ nb n) → IsGrown r tick na xs ps → IsGrown r tick nb xs ps
grown_named r tick na nb xs ps same g = record {
  marks = g.marks;
  are = g.are;
  wants = g.wants;
  floors = g.floors;
  right = all_weaker (IsMark r tick na xs) (IsMark r tick nb xs) g.marks (λ m. again m.name m.place) g.right;
  once = λ n. g.once n ∙ ap (λ (b : Bool). cond b 1 0) (same n);
}
  where
    again : (o : Option Name) (p : Place) → IsMarkBy r tick na xs o p → IsMarkBy r tick nb xs o p
    again None p e = e
    again (Some n) p b = record { kind = b.kind; holds = b.holds; among = sym (same n) ∙ b.among }
