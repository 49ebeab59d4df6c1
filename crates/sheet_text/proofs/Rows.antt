-- One kid more.
use Rattle.std.proofs.Common.{◌≡◌, ◌∙◌, ℕ, zero, suc, ◌<◌, ◌+◌, ◌==◌, ◌&&◌, nat_eq, Bool, true, false, cond, List, [], ◌∷◌, ◌++◌, length, map, take, get_or, refl, sym, ap, subst, arith, filter, bytes_eq, Vec, Some, inl, inr, eqb-true, eq-eqb, length-append, append-nil, ◌⊎◌, ne_eqb, set}
use Rattle.std.specs.Prelude.{slice_get}
use Rattle.std.proofs.lemmas.Bool.{cases_lt, false_from_ne_true}
use Rattle.std.proofs.lemmas.Bool.Decides.{nat_tests}
use Rattle.std.proofs.lemmas.Option.{slice_get_read, slice_get_within}
use Rattle.std.proofs.lemmas.List.{get_or_append_left, map-append, take_more}
use Rattle.std.proofs.lemmas.List.Elements.{filter-append}
use Rattle.std.proofs.Math.Seq.{get_or-append_seam}
use Rattle.sheet_text.specs.Paths.{Octets, Path, is_within, place_of, same_path}
use Rattle.sheet_text.specs.TreeLaw.{is_kid, kids_in}
use Rattle.sheet_text.proofs.Within.{same_self, is_same}
use Rattle.sheet_text.specs.Table.{Table, path_at, paths_in}
use Rattle.sheet_text.specs.Inside.{IsTable}
use Rattle.sheet_text.specs.Rows.{AreBelow, AreRowsTo, joined}
use Rattle.sheet_text.proofs.Tables.{count, place_at}

far_eq : (a b : ℕ) → nat_eq (suc a) (suc b + 1) ≡ nat_eq a (b + 1)
far_eq a b = grind (arith, nat_tests)

not_eq : (a b : ℕ) → (a ≡ b → ⊥) → nat_eq a b ≡ false
not_eq a b f = false_from_ne_true (nat_eq a b) (λ e. f (eqb-true a b e))

and_none : (b : Bool) → (b && false) ≡ false
and_none true = refl
and_none false = refl

and_turned : (a b c : Bool) → ((a && b) && c) ≡ (a && (b && c))
and_turned true b c = refl
and_turned false b c = refl

-- a path with a name more is a kid of the path without it
pub kid_last : (p q : Path) (name : Octets) → is_kid p (q ++ name ∷ []) ≡ same_path p q
kid_last [] [] name = refl
kid_last [] (y ∷ q) name = not_eq (length ((y ∷ q) ++ name ∷ [])) (0 + 1) (λ e. absurd (omega (arith, e, length-append q (name ∷ []))))
kid_last (x ∷ p) [] name = ap (λ (b : Bool). is_within (x ∷ p) (name ∷ []) && b) (not_eq (length (name ∷ [])) (length (x ∷ p) + 1) (λ e. absurd (omega (arith, e)))) ∙ and_none (is_within (x ∷ p) (name ∷ []))
kid_last (x ∷ p) (y ∷ q) name =
    and_turned (bytes_eq x y) (is_within p (q ++ name ∷ [])) (nat_eq (length ((y ∷ q) ++ name ∷ [])) (length (x ∷ p) + 1))
    ∙ ap (λ (b : Bool). bytes_eq x y && (is_within p (q ++ name ∷ []) && b)) (far_eq (length (q ++ name ∷ [])) (length p))
    ∙ ap (λ (b : Bool). bytes_eq x y && b) (kid_last p q name)

pub same_bool : (a b : Bool) → (a ≡ true → b ≡ true) → (b ≡ true → a ≡ true) → a ≡ b
same_bool true b f g = sym (f refl)
same_bool false true f g = g refl
same_bool false false f g = refl

-- of the paths only those of one place are the same
pub kid_by_place : (table : Table) (place kid parent : ℕ) (name : Octets) → IsTable table → place < length table → parent < length table → path_at table kid ≡ path_at table parent ++ name ∷ [] → is_kid (path_at table place) (path_at table kid) ≡ (parent == place)
kid_by_place table place kid parent name is l k e =
    ap (is_kid (path_at table place)) e ∙ kid_last (path_at table place) (path_at table parent) name
    ∙ same_bool (same_path (path_at table place) (path_at table parent)) (parent == place)
    (λ h.
    let found : Some parent ≡ Some place = sym (place_at (paths_in table) parent is.names.once (omega (arith, count table, k))) ∙ ap (place_of (paths_in table)) (sym (is_same (path_at table place) (path_at table parent) h)) ∙ place_at (paths_in table) place is.names.once (omega (arith, count table, l)) in
    let same : parent ≡ place = cc in
    eq-eqb parent place same)
    (λ h. ap (λ (n : ℕ). same_path (path_at table place) (path_at table n)) (eqb-true parent place h) ∙ same_self (path_at table place))

-- the row of a place with a kid more, if it is its own
pub row_more : (table : Table) (place kid parent : ℕ) (name : Octets) (before after : List ℕ) → IsTable table → place < length table → parent < length table → kid < length table → path_at table kid ≡ path_at table parent ++ name ∷ []
    → after ≡ before ++ joined parent kid place → map (path_at table) before ≡ kids_in (take kid (paths_in table)) (path_at table place)
    → map (path_at table) after ≡ kids_in (take (kid + 1) (paths_in table)) (path_at table place)
row_more table place kid parent name before after is l k m e new old =
    ap (map (path_at table)) new ∙ map-append (path_at table) before (joined parent kid place)
    ∙ ap (λ (ps : List Path). ps ++ map (path_at table) (joined parent kid place)) old
    ∙ ap (λ (ps : List Path). kids_in (take kid (paths_in table)) (path_at table place) ++ ps) (last (parent == place) (kid_by_place table place kid parent name is l k e))
    ∙ sym (ap (filter (is_kid (path_at table place))) (take_more (paths_in table) kid [] (omega (arith, count table, m))) ∙ filter-append (is_kid (path_at table place)) (take kid (paths_in table)) (path_at table kid ∷ []))
  where
    last : (b : Bool) → is_kid (path_at table place) (path_at table kid) ≡ b → map (path_at table) (cond b (kid ∷ []) []) ≡ filter (is_kid (path_at table place)) (path_at table kid ∷ [])
    last true h = sym (ap (λ (b : Bool). cond b (path_at table kid ∷ []) []) h)
    last false h = sym (ap (λ (b : Bool). cond b (path_at table kid ∷ []) []) h)

pub below_more : (n kid : ℕ) (parent place : ℕ) (before after : List ℕ) → kid < n → after ≡ before ++ joined parent kid place → AreBelow n before → AreBelow n after
below_more n kid parent place before after l new below = subst (AreBelow n) (sym new) (go (parent == place))
  where
    go : (b : Bool) → AreBelow n (before ++ cond b (kid ∷ []) [])
    go false = subst (AreBelow n) (sym (append-nil before)) below
    go true = λ k within. elim (cases_lt k (length before)) [
      | inl early ↦ omega (arith, get_or_append_left before (kid ∷ []) 0 k early, below k early)
      | inr past ↦
          let end : k ≡ length before = omega (arith, within, past, length-append before (kid ∷ [])) in
          omega (arith, l, ap (λ (j : ℕ). get_or (before ++ kid ∷ []) j 0) end ∙ get_or-append_seam before kid [] 0)
    ]

root_no_kid : (p : Path) → is_kid p [] ≡ false
root_no_kid [] = refl
root_no_kid (x ∷ p) = refl

-- the root is nobody's kid
pub first_row : (table : Table) (place : ℕ) (row : List ℕ) → IsTable table → row ≡ [] → map (path_at table) row ≡ kids_in (take 1 (paths_in table)) (path_at table place)
first_row table place row is none = ap (map (path_at table)) none ∙ go (paths_in table) is.names.some is.names.rooted
  where
    go : (paths : List Path) → 0 < length paths → get_or paths 0 ([] ∷ []) ≡ [] → [] ≡ kids_in (take 1 paths) (path_at table place)
    go [] l e = refl
    go (p ∷ paths) l e = sym (ap (λ (b : Bool). cond b (p ∷ []) []) (ap (is_kid (path_at table place)) e ∙ root_no_kid (path_at table place)))

pub push_get : {X : Type 0} (xs : List X) (x y : X) (i : ℕ) → slice_get (xs ++ x ∷ []) i ≡ Some y → (slice_get xs i ≡ Some y) ⊎ ((i ≡ length xs) × (x ≡ y))
push_get [] x y zero e = inr (refl, cc)
push_get [] x y (suc i) e = cc
push_get (z ∷ zs) x y zero e = inl e
push_get (z ∷ zs) x y (suc i) e = elim (push_get zs x y i e) [
  | inl there ↦ inl there
  | inr last ↦ inr (ap suc last.0, last.1)
]

pub set_get : {X : Type 0} (xs : List X) (i : ℕ) (w y : X) (j : ℕ) → slice_get (set xs i w) j ≡ Some y → ((i ≡ j) × (w ≡ y)) ⊎ ((i ≡ j → ⊥) × (slice_get xs j ≡ Some y))
set_get [] i w y j e = cc
set_get (x ∷ xs) zero w y zero e = inl (refl, cc)
set_get (x ∷ xs) zero w y (suc j) e = inr (λ h. absurd (omega (arith, h)), e)
set_get (x ∷ xs) (suc i) w y zero e = inr (λ h. absurd (omega (arith, h)), e)
set_get (x ∷ xs) (suc i) w y (suc j) e = elim (set_get xs i w y j e) [
  | inl here ↦ inl (ap suc here.0, here.1)
  | inr other ↦ inr (λ h. other.0 (omega (arith, h)), other.1)
]

-- the row of a parent gets its kid, and each other row stays
pub row_joined : {A : Type 0} (rows : List (Vec ℕ A)) (old pushed row : Vec ℕ A) (parent kid place : ℕ) → parent < length rows → old ≡ get_or rows parent old → pushed.items ≡ old.items ++ kid ∷ [] → slice_get (set rows parent pushed) place ≡ Some row
    → (before : Vec ℕ A) × (slice_get rows place ≡ Some before) × (row.items ≡ before.items ++ joined parent kid place)
row_joined {A} rows old pushed row parent kid place less was is e = elim (set_get rows parent pushed row place e) [
  | inl here ↦
      let yes : (parent == place) ≡ true = eq-eqb parent place here.0 in (
        old,
        slice_get_read rows (length rows) place old refl (omega (arith, here.0)) (was ∙ ap (λ (n : ℕ). get_or rows n old) here.0),
        ap (λ (v : Vec ℕ A). v.items) (sym here.1) ∙ is ∙ sym (ap (λ (b : Bool). old.items ++ cond b (kid ∷ []) []) yes),
      )
  | inr other ↦
      let no : (parent == place) ≡ false = ne_eqb parent place other.0 in
      (row, other.1, sym (append-nil row.items) ∙ sym (ap (λ (b : Bool). row.items ++ cond b (kid ∷ []) []) no))
]

pub empty_more : {A : Type 0} (rows : List (Vec ℕ A)) (last : Vec ℕ A) → last.items ≡ [] → ((place : ℕ) (row : Vec ℕ A) → slice_get rows place ≡ Some row → row.items ≡ []) → (place : ℕ) (row : Vec ℕ A) → slice_get (rows ++ last ∷ []) place ≡ Some row → row.items ≡ []
empty_more {A} rows last none empty place row e = elim (push_get rows last row place e) [
  | inl there ↦ empty place row there
  | inr new ↦ ap (λ (v : Vec ℕ A). v.items) (sym new.1) ∙ none
]

-- a kid more in the rows
pub rows_more : {A : Type 0} (table : Table) (kid parent : ℕ) (name : Octets) (old new : Vec (Vec ℕ A) A) → IsTable table → parent < length table → kid < length table → path_at table kid ≡ path_at table parent ++ name ∷ [] → length new.items ≡ length old.items
    → ((place : ℕ) (row : Vec ℕ A) → slice_get new.items place ≡ Some row → (before : Vec ℕ A) × (slice_get old.items place ≡ Some before) × (row.items ≡ before.items ++ joined parent kid place))
    → AreRowsTo table kid old → AreRowsTo table (kid + 1) new
rows_more {A} table kid parent name old new is k m e same joins are = record {
  rows_length = same ∙ are.rows_length;
  within = λ place row at. let got = joins place row at in below_more (length table) kid parent place got.0.items row.items m got.2 (are.within place got.0 got.1);
  rows_are = λ place row at.
      let got = joins place row at in
      row_more table place kid parent name got.0.items row.items is (omega (arith, slice_get_within old.items place got.0 got.1, are.rows_length)) k m e got.2 (are.rows_are place got.0 got.1);
}

pub rows_first : {A : Type 0} (table : Table) (rows : Vec (Vec ℕ A) A) → IsTable table → length rows.items ≡ length table → ((place : ℕ) (row : Vec ℕ A) → slice_get rows.items place ≡ Some row → row.items ≡ []) → AreRowsTo table 1 rows
rows_first {A} table rows is same empty = record {
  rows_length = same;
  within = λ place row at. subst (AreBelow (length table)) (sym (empty place row at)) (λ k l. absurd (omega arith));
  rows_are = λ place row at. first_row table place row.items is (empty place row at);
}
