-- The trees of rows that are taken group by group.
use Rattle.std.proofs.Common.{◌≡◌, ℕ, suc, ◌+◌, Bool, true, false, ◌||◌, List, [], ◌∷◌, ◌++◌, length, map, sym, refl, ap, ◌∙◌, subst, arith, append_assoc, Option, Some, None, ◌⊎◌, inl, inr}
use Rattle.std.specs.Prelude.{nat_le, ◌&&◌, IsPermutation}
use Rattle.std.specs.List.{AllByRecursion, list_any}
use Rattle.std.proofs.lemmas.Bool.{and_parts, or_parts, leb-true}
use Rattle.std.proofs.lemmas.List.{map-append, append-nil}
use Rattle.std.proofs.lemmas.List.Elements.{recursion_from_All, All-from_recursion}
use Rattle.std.proofs.lemmas.List.Folds.{list_any-append}
use Rattle.std.proofs.lemmas.List.Sorted.{list_any-IsPermutation, IsPermutation-map, IsPermutation-trans, IsPermutation-append_left, IsPermutation-append_right, IsPermutation-refl, All-permutation}
use Rattle.limit_tree.specs.Outline.{leaf_count, behind, deeper, places, branch_over, leaf_alone}
use Rattle.limit_tree.specs.declared.place.Place.{Place}
use Rattle.limit_tree.specs.declared.node.Node.{Node}
use Rattle.limit_tree.proofs.Places.{places_of_all, leaf_count-append, leaf_count-behind}
use Rattle.line_rates.specs.declared.ask.Ask.{Ask}
use Rattle.line_rates.specs.declared.ask.Name.{Name}
use Rattle.line_rates.specs.Names.{bears, floor_of}
use Rattle.line_rates.specs.Rates.{Rates, group_of, rate_of}
use Rattle.line_rates.specs.Ticks.{rate_limit}
use Rattle.line_rates.specs.TickTree.{Asker, ask_in}
use Rattle.line_rates.specs.Grown.{same_name, key, is_option, level_of, bears_from, named_from, has_key, IsApart, IsGrown, IsGrownFrom}
use Rattle.line_rates.proofs.MarkLemmas.{bool_same, second_true, grown_pair, grown_over, grown_leaf, grown_nothing, grown_named}
use Rattle.line_rates.proofs.NameLemmas.{same_name-is, same_name-refl, key_same, key_level, from_next, not_below, none_from, some_from}

found : (p : Ask → Bool) (xs : List Ask) → list_any p xs ≡ true → (x : Ask) × (p x ≡ true) × ((q : Ask → Bool) → q x ≡ true → list_any q xs ≡ true)
found p [] h = absurd (cc)
found p (x ∷ xs) h = go (λ k. found p xs k) (p x) refl
  where
    go : (list_any p xs ≡ true → (y : Ask) × (p y ≡ true) × ((q : Ask → Bool) → q y ≡ true → list_any q xs ≡ true)) → (b : Bool) → p x ≡ b → (y : Ask) × (p y ≡ true) × ((q : Ask → Bool) → q y ≡ true → list_any q (x ∷ xs) ≡ true)
    go more true e = (x, e, λ q k. ap (λ (b : Bool). b || list_any q xs) k)
    go more false e = let r = more (ap (λ (b : Bool). b || list_any p xs) (sym e) ∙ h) in (r.0, r.1, λ q k. second_true (q x) (list_any q xs) (r.2 q k))

-- a name of the level that two asks have
shared : (r : Rates) (l : ℕ) (n : Name) (x y : Ask) → bears_from r l n x ≡ true → bears r n y ≡ true → (m : Name) × (has_key r l m x ≡ true) × (has_key r l m y ≡ true)
shared r l n x y from in_y =
    let p = and_parts (bears r n x) (nat_le l (level_of (group_of r x.user) n)) from in
    let k = some_from r l n x from (key r l x) refl in
    let same : key r l x ≡ key r l y = key_same r l n x y p.0 in_y (leb-true l (level_of (group_of r x.user) n) p.1) in
    let has : has_key r l k.0 x ≡ true = ap (is_option k.0) k.1 ∙ same_name-refl k.0 in
    (k.0, has, ap (is_option k.0) (sym same) ∙ has)

-- names of the level and below are apart, where those at the level are
apart_right : (r : Rates) (l : ℕ) (xs ys : List Ask) → IsApart r l xs ys → (n : Name) → named_from r l xs n ≡ true → list_any (bears r n) ys ≡ false
apart_right r l xs ys apart n h = bool_same (list_any (bears r n) ys) false
    (λ e. let x = found (bears_from r l n) xs h in let y = found (bears r n) ys e in let s = shared r l n x.0 y.0 x.1 y.1 in
    let here = y.2 (has_key r l s.0) s.2 in let none = apart s.0 (x.2 (has_key r l s.0) s.1) in absurd (cc))
    (λ e. absurd (cc))

apart_left : (r : Rates) (l : ℕ) (xs ys : List Ask) → IsApart r l xs ys → (n : Name) → named_from r l ys n ≡ true → list_any (bears r n) xs ≡ false
apart_left r l xs ys apart n h = bool_same (list_any (bears r n) xs) false
    (λ e. let y = found (bears_from r l n) ys h in let x = found (bears r n) xs e in let s = shared r l n y.0 x.0 y.1 x.1 in
    let here = y.2 (has_key r l s.0) s.1 in let none = apart s.0 (x.2 (has_key r l s.0) s.2) in absurd (cc))
    (λ e. absurd (cc))

-- a name that no ask bears is none from a level on
none_named : (r : Rates) (l : ℕ) (n : Name) (xs : List Ask) → list_any (bears r n) xs ≡ false → named_from r l xs n ≡ false
none_named r l n [] h = refl
none_named r l n (x ∷ xs) h =
    let p = or_parts (bears r n x) (list_any (bears r n) xs) h in
    ap (λ (b : Bool). b && nat_le l (level_of (group_of r x.user) n) || named_from r l xs n) p.0 ∙ none_named r l n xs p.1

-- trees side by side, of asks that are apart
pub grown_beside : (r : Rates) (tick l : ℕ) (xs ys : List Ask) (ps qs : List Place) → IsApart r l xs ys → IsGrown r tick (named_from r l xs) xs ps → IsGrown r tick (named_from r l ys) ys qs
    → IsGrown r tick (named_from r l (xs ++ ys)) (xs ++ ys) (ps ++ map (behind (leaf_count ps)) qs)
grown_beside r tick l xs ys ps qs apart g h =
    grown_named r tick (λ n. named_from r l xs n || named_from r l ys n) (named_from r l (xs ++ ys)) (xs ++ ys) (ps ++ map (behind (leaf_count ps)) qs) (λ n. sym (list_any-append (bears_from r l n) xs ys))
    (grown_pair r tick (named_from r l xs) (named_from r l ys) xs ys ps qs g h (apart_right r l xs ys apart) (apart_left r l xs ys apart) (λ n e. none_named r l n ys (apart_right r l xs ys apart n e)))

-- the nodes of trees side by side, as one more tree comes
behind_behind : (m n : ℕ) (ps : List Place) → map (behind m) (map (behind n) ps) ≡ map (behind (m + n)) ps
behind_behind m n [] = refl
behind_behind m n (p ∷ ps) =
    let e : m + (n + p.first) ≡ m + n + p.first = omega arith in
    ap (λ (f : ℕ). record p { first = f } ∷ map (behind m) (map (behind n) ps)) e ∙ ap (λ (qs : List Place). behind (m + n) p ∷ qs) (behind_behind m n ps)

behind_none : (n : ℕ) → n ≡ 0 → (ps : List Place) → map (behind n) ps ≡ ps
behind_none n e [] = refl
behind_none n e (p ∷ ps) =
    let f : n + p.first ≡ p.first = omega arith in
    ap (λ (k : ℕ). record p { first = k } ∷ map (behind n) ps) f ∙ ap (λ (qs : List Place). p ∷ qs) (behind_none n e ps)

pub kid_more : {A : Type 0} (kids : List (Node A)) (kid : Node A) → places_of_all (kids ++ kid ∷ []) ≡ places_of_all kids ++ map (behind (leaf_count (places_of_all kids))) (places kid)
kid_more [] kid = append-nil (places kid) ∙ sym (behind_none 0 refl (places kid))
kid_more (k ∷ kids) kid =
    let n = leaf_count (places k) in
    let rest = places_of_all kids in
    let count : n + leaf_count rest ≡ leaf_count (places_of_all (k ∷ kids)) = sym (leaf_count-append (places k) (map (behind n) rest) ∙ ap (λ (c : ℕ). n + c) (leaf_count-behind n rest)) in
    ap (λ (qs : List Place). places k ++ map (behind n) qs) (kid_more kids kid)
    ∙ ap (λ (qs : List Place). places k ++ qs) (map-append (behind n) rest (map (behind (leaf_count rest)) (places kid)) ∙ ap (λ (qs : List Place). map (behind n) rest ++ qs) (behind_behind n (leaf_count rest) (places kid) ∙ ap (λ (c : ℕ). map (behind c) (places kid)) count))
    ∙ sym (append_assoc (places k) (map (behind n) rest) (map (behind (leaf_count (places_of_all (k ∷ kids)))) (places kid)))

-- where the rows so far are grown, and more rows of those that are left
pub record SoFar (r : Rates) (tick l : ℕ) (all order rest : List Asker) (ps : List Place) : Type 0 where
  pub rows : IsPermutation all (order ++ rest)
  pub grown : IsGrown r tick (named_from r l (map ask_in order)) (map ask_in order) ps
  pub apart : IsApart r l (map ask_in order) (map ask_in rest)

pub record IsNext (r : Rates) (tick l : ℕ) (rows more rest : List Asker) (qs : List Place) : Type 0 where
  pub split : IsPermutation rows (more ++ rest)
  pub grown : IsGrown r tick (named_from r l (map ask_in more)) (map ask_in more) qs
  pub apart : IsApart r l (map ask_in more) (map ask_in rest)

any_over : (p : Ask → Bool) (xs ys : List Asker) → IsPermutation xs ys → list_any p (map ask_in xs) ≡ list_any p (map ask_in ys)
any_over p xs ys h = list_any-IsPermutation p (map ask_in xs) (map ask_in ys) (IsPermutation-map ask_in xs ys h)

any_pair : (p : Ask → Bool) (xs ys : List Asker) → list_any p (map ask_in (xs ++ ys)) ≡ (list_any p (map ask_in xs) || list_any p (map ask_in ys))
any_pair p xs ys = ap (list_any p) (map-append ask_in xs ys) ∙ list_any-append p (map ask_in xs) (map ask_in ys)

either : (x y : Bool) → (x || y) ≡ true → (x ≡ true) ⊎ (y ≡ true)
either true y e = inl refl
either false y e = inr e

pub next_so_far : (r : Rates) (tick l : ℕ) (all order rows more rest : List Asker) (ps qs : List Place) → SoFar r tick l all order rows ps → IsNext r tick l rows more rest qs
    → SoFar r tick l all (order ++ more) rest (ps ++ map (behind (leaf_count ps)) qs)
next_so_far r tick l all order rows more rest ps qs s x = record {
  rows = IsPermutation-trans all (order ++ rows) (order ++ more ++ rest) s.rows
      (subst (IsPermutation (order ++ rows)) (sym (append_assoc order more rest)) (IsPermutation-append_right order rows (more ++ rest) x.split));
  grown = subst (λ (us : List Ask). IsGrown r tick (named_from r l us) us (ps ++ map (behind (leaf_count ps)) qs)) (sym (map-append ask_in order more))
      (grown_beside r tick l (map ask_in order) (map ask_in more) ps qs apart_more s.grown x.grown);
  apart = λ n h. elim (either (list_any (has_key r l n) (map ask_in order)) (list_any (has_key r l n) (map ask_in more)) (sym (any_pair (has_key r l n) order more) ∙ h)) [
    | inl e ↦ (parts n (s.apart n e)).1
    | inr e ↦ x.apart n e
  ];
}
  where
    parts : (n : Name) → list_any (has_key r l n) (map ask_in rows) ≡ false → (list_any (has_key r l n) (map ask_in more) ≡ false) × (list_any (has_key r l n) (map ask_in rest) ≡ false)
    parts n e = or_parts (list_any (has_key r l n) (map ask_in more)) (list_any (has_key r l n) (map ask_in rest)) (sym (any_pair (has_key r l n) more rest) ∙ sym (any_over (has_key r l n) rows (more ++ rest) x.split) ∙ e)

    apart_more : IsApart r l (map ask_in order) (map ask_in more)
    apart_more n e = (parts n (s.apart n e)).0

-- a leaf comes next
pub next_leaf : (r : Rates) (tick l : ℕ) (x : Asker) (rest : List Asker) → key r l x.1 ≡ None → IsNext r tick l (x ∷ rest) (x ∷ []) rest (leaf_alone x.1.want (floor_of r x.1) ∷ [])
next_leaf r tick l x rest e = record {
  split = IsPermutation-refl (x ∷ rest);
  grown = grown_named r tick (λ n. false) (named_from r l (x.1 ∷ [])) (x.1 ∷ []) (leaf_alone x.1.want (floor_of r x.1) ∷ []) (λ n. sym (ap (λ (b : Bool). b || false) (none_from r l n x.1 e))) (grown_leaf r tick x.1);
  apart = λ n h. let no : list_any (has_key r l n) (x.1 ∷ []) ≡ false = ap (λ o. is_option n o || false) e in absurd (cc);
}

or_more : (s a b : Bool) → ((s || a) || (s || b)) ≡ (s || (a || b))
or_more true a b = refl
or_more false a b = refl

or_none : (b : Bool) → (b || false) ≡ b
or_none true = refl
or_none false = refl

all_from_next : (r : Rates) (l : ℕ) (top n : Name) (x : Ask) (xs : List Ask) → AllByRecursion (λ a. key r l a ≡ Some top) (x ∷ xs) → named_from r l (x ∷ xs) n ≡ (same_name n top || named_from r (suc l) (x ∷ xs) n)
all_from_next r l top n x [] h = ap (λ (b : Bool). b || false) (from_next r l top n x h.0) ∙ or_none (same_name n top || bears_from r (suc l) n x) ∙ ap (λ (b : Bool). same_name n top || b) (sym (or_none (bears_from r (suc l) n x)))
all_from_next r l top n x (y ∷ ys) h =
    ap (λ (b : Bool). b || named_from r l (y ∷ ys) n) (from_next r l top n x h.0) ∙ ap (λ (b : Bool). (same_name n top || bears_from r (suc l) n x) || b) (all_from_next r l top n y ys h.1)
    ∙ or_more (same_name n top) (bears_from r (suc l) n x) (named_from r (suc l) (y ∷ ys) n)

some_from_next : (r : Rates) (l : ℕ) (top n : Name) (xs : List Ask) → list_any (has_key r l top) xs ≡ true → AllByRecursion (λ a. key r l a ≡ Some top) xs → named_from r l xs n ≡ (same_name n top || named_from r (suc l) xs n)
some_from_next r l top n [] some h = absurd (cc)
some_from_next r l top n (x ∷ xs) some h = all_from_next r l top n x xs h

none_below : (r : Rates) (l : ℕ) (top : Name) (xs : List Ask) → AllByRecursion (λ a. key r l a ≡ Some top) xs → named_from r (suc l) xs top ≡ false
none_below r l top [] h = refl
none_below r l top (x ∷ xs) h = ap (λ (b : Bool). b || named_from r (suc l) xs top) (not_below r l top x h.0) ∙ none_below r l top xs h.1

only_name : (r : Rates) (l : ℕ) (top n : Name) (xs : List Ask) → AllByRecursion (λ a. key r l a ≡ Some top) xs → list_any (has_key r l n) xs ≡ true → n ≡ top
only_name r l top n xs h some = let x = found (has_key r l n) xs some in same_name-is n top (go xs h some)
  where
    go : (ys : List Ask) → AllByRecursion (λ a. key r l a ≡ Some top) ys → list_any (has_key r l n) ys ≡ true → same_name n top ≡ true
    go [] k e = absurd (cc)
    go (y ∷ ys) k e = elim (either (has_key r l n y) (list_any (has_key r l n) ys) e) [
      | inl s ↦ sym (ap (is_option n) k.0) ∙ s
      | inr s ↦ go ys k.1 s
    ]

over_all : (r : Rates) (l : ℕ) (top : Name) (xs : List Ask) → AllByRecursion (λ a. key r l a ≡ Some top) xs → AllByRecursion (λ a. bears r top a ≡ true) xs
over_all r l top [] h = tt
over_all r l top (x ∷ xs) h = ((key_level r l top x h.0).0, over_all r l top xs h.1)

abbrev HasIt : Rates → Name → Ask → Type 0
HasIt r top a = bears r top a ≡ true

all_moved : (r : Rates) (top : Name) (xs ys : List Ask) → IsPermutation xs ys → AllByRecursion (HasIt r top) xs → AllByRecursion (HasIt r top) ys
all_moved r top xs ys p h = recursion_from_All (HasIt r top) ys (All-permutation (HasIt r top) xs ys p (All-from_recursion (HasIt r top) xs h))

-- the rows of a name stand at the front, and the others behind them
pub record IsFront (r : Rates) (l : ℕ) (top : Name) (rows same rest : List Asker) : Type 0 where
  pub split : rows ≡ same ++ rest
  pub some : list_any (has_key r l top) (map ask_in same) ≡ true
  pub keys : AllByRecursion (λ a. key r l a ≡ Some top) (map ask_in same)
  pub none : list_any (has_key r l top) (map ask_in rest) ≡ false

-- a branch over the rows of a name comes next
next_branch : (r : Rates) (tick l m kids : ℕ) (top : Name) (rows same rest order : List Asker) (ps : List Place) → m ≡ suc l → IsFront r l top rows same rest → IsGrownFrom r tick m same order ps
    → IsNext r tick l rows order rest (branch_over (rate_limit (rate_of r top) tick) kids ps ∷ map deeper ps)
next_branch r tick l m kids top rows same rest order ps e front g = record {
  split = subst (λ us. IsPermutation us (order ++ rest)) (sym front.split) (IsPermutation-append_left rest same order g.all);
  grown = grown_named r tick (λ n. same_name n top || named_from r (suc l) (map ask_in same) n) (named_from r l (map ask_in order)) (map ask_in order) (branch_over (rate_limit (rate_of r top) tick) kids ps ∷ map deeper ps)
      (λ n. sym (some_from_next r l top n (map ask_in same) front.some front.keys) ∙ any_over (bears_from r l n) same order g.all)
      (grown_over r tick (named_from r (suc l) (map ask_in same)) (map ask_in order) ps top kids
      (subst (λ (k : ℕ). IsGrown r tick (named_from r k (map ask_in same)) (map ask_in order) ps) e g.grown)
      (all_moved r top (map ask_in same) (map ask_in order) (IsPermutation-map ask_in same order g.all) (over_all r l top (map ask_in same) front.keys))
      (none_below r l top (map ask_in same) front.keys) (λ n. same_name-is n top) (same_name-refl top));
  apart = λ n h. ap (λ k. list_any (has_key r l k) (map ask_in rest)) (only_name r l top n (map ask_in same) front.keys (any_over (has_key r l n) same order g.all ∙ h)) ∙ front.none;
}

-- trees of rows that stand in another order
pub grown_before : (r : Rates) (tick m : ℕ) (rows same order : List Asker) (ps : List Place) → IsPermutation rows same → IsGrownFrom r tick m same order ps → IsGrownFrom r tick m rows order ps
grown_before r tick m rows same order ps moved g = record {
  all = IsPermutation-trans rows same order moved g.all;
  grown = grown_named r tick (named_from r m (map ask_in same)) (named_from r m (map ask_in rows)) (map ask_in order) ps (λ n. sym (any_over (bears_from r m n) rows same moved)) g.grown;
}

-- the steps of the loop over rows
pub leaf_step : {A : Type 0} (r : Rates) (tick l : ℕ) (all order rows new_order new_rows : List Asker) (x : Asker) (kids new_kids : List (Node A)) (kid : Node A) → SoFar r tick l all order rows (places_of_all kids)
    → rows ≡ x ∷ new_rows → key r l x.1 ≡ None → places kid ≡ leaf_alone x.1.want (floor_of r x.1) ∷ [] → new_order ≡ order ++ x ∷ [] → new_kids ≡ kids ++ kid ∷ []
    → SoFar r tick l all new_order new_rows (places_of_all new_kids)
leaf_step r tick l all order rows new_order new_rows x kids new_kids kid s is none leaf orders nodes =
    subst (λ (o : List Asker). SoFar r tick l all o new_rows (places_of_all new_kids)) (sym orders)
    (subst (SoFar r tick l all (order ++ x ∷ []) new_rows) (sym (ap places_of_all nodes ∙ kid_more kids kid ∙ ap (λ (ps : List Place). places_of_all kids ++ map (behind (leaf_count (places_of_all kids))) ps) leaf))
    (next_so_far r tick l all order (x ∷ new_rows) (x ∷ []) new_rows (places_of_all kids) (leaf_alone x.1.want (floor_of r x.1) ∷ []) (subst (λ (o : List Asker). SoFar r tick l all order o (places_of_all kids)) is s) (next_leaf r tick l x new_rows none)))

pub branch_step : {A : Type 0} (r : Rates) (tick l m : ℕ) (all order rows same rest new_order new_rows more : List Asker) (top : Name) (limit : Option ℕ) (kids new_kids below : List (Node A)) (kid : Node A)
    → SoFar r tick l all order rows (places_of_all kids) → IsFront r l top rows same rest → m ≡ suc l → new_rows ≡ rest
    → IsGrownFrom r tick m same more (places_of_all below) → limit ≡ rate_limit (rate_of r top) tick → places kid ≡ branch_over limit (length below) (places_of_all below) ∷ map deeper (places_of_all below)
    → new_order ≡ order ++ more → new_kids ≡ kids ++ kid ∷ [] → SoFar r tick l all new_order new_rows (places_of_all new_kids)
branch_step r tick l m all order rows same rest new_order new_rows more top limit kids new_kids below kid s front next rests grown limited branch orders nodes =
    subst (λ (o : List Asker). SoFar r tick l all o new_rows (places_of_all new_kids)) (sym orders)
    (subst (λ (o : List Asker). SoFar r tick l all (order ++ more) o (places_of_all new_kids)) (sym rests)
    (subst (SoFar r tick l all (order ++ more) rest) (sym (ap places_of_all nodes ∙ kid_more kids kid ∙ ap (λ (ps : List Place). places_of_all kids ++ map (behind (leaf_count (places_of_all kids))) ps) (branch ∙ ap (λ o. branch_over o (length below) (places_of_all below) ∷ map deeper (places_of_all below)) limited)))
    (next_so_far r tick l all order rows more rest (places_of_all kids) (branch_over (rate_limit (rate_of r top) tick) (length below) (places_of_all below) ∷ map deeper (places_of_all below)) s
    (next_branch r tick l m (length below) top rows same rest more (places_of_all below) next front grown))))

pub all_grown : (r : Rates) (tick l : ℕ) (all order rows : List Asker) (ps : List Place) → SoFar r tick l all order rows ps → length rows ≡ 0 → IsGrownFrom r tick l all order ps
all_grown r tick l all order (x ∷ rows) ps s e = absurd (omega arith)
all_grown r tick l all order [] ps s e =
    let same : IsPermutation all order = subst (IsPermutation all) (append-nil order) s.rows in
    record { all = same; grown = grown_named r tick (named_from r l (map ask_in order)) (named_from r l (map ask_in all)) (map ask_in order) ps (λ n. sym (any_over (bears_from r l n) all order same)) s.grown }

pub nothing_yet : {A : Type 0} (r : Rates) (tick l : ℕ) (all : List Asker) (kids : List (Node A)) → kids ≡ [] → SoFar r tick l all [] all (places_of_all kids)
nothing_yet r tick l all kids none =
    subst (SoFar r tick l all [] all) (sym (ap places_of_all none)) (record { rows = IsPermutation-refl all; grown = grown_nothing r tick; apart = λ n h. absurd (cc) })
