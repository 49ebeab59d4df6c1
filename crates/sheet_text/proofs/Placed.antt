-- Paths and their places in a table.
use Rattle.std.proofs.Common.{◌≡◌, ◌∙◌, ℕ, zero, suc, ◌<◌, ◌≤◌, ◌+◌, nat_eq, Bool, true, false, cond, List, [], ◌∷◌, length, filter, get_or, refl, sym, ap, arith, true≢false, Option, Some, None, eq-eqb, eqb-true}
use Rattle.std.specs.List.{position_from}
use Rattle.std.proofs.lemmas.Bool.{false_from_ne_true}
use Rattle.std.proofs.lemmas.List.{get_or-map}
use Rattle.std.proofs.lemmas.Option.{none-some}
use Rattle.limit_tree.specs.Outline.{is_leaf_kind}
use Rattle.sheet_text.specs.Paths.{NoneTwice, Path, place_of, same_path}
use Rattle.sheet_text.proofs.Listing.{found_at}
use Rattle.sheet_text.proofs.Within.{is_same, same_self}
use Rattle.sheet_text.specs.Rows.{AreBelow}
use Rattle.sheet_text.specs.Table.{Table, mention_at, path_at, paths_in}
use Rattle.sheet_text.specs.Tree.{kind_in, paths_to}
use Rattle.sheet_text.proofs.Tables.{count, place_at}
use Rattle.sheet_text.proofs.Trees.{kind_there}

-- two places are one where their paths are
pub same_place : (table : Table) (place other : ℕ) → NoneTwice (paths_in table) → place < length table → other < length table → nat_eq place other ≡ same_path (path_at table place) (path_at table other)
same_place table place other once l m = go (nat_eq place other) refl (same_path (path_at table place) (path_at table other)) refl
  where
    go : (a : Bool) → nat_eq place other ≡ a → (b : Bool) → same_path (path_at table place) (path_at table other) ≡ b → nat_eq place other ≡ same_path (path_at table place) (path_at table other)
    go true e true h = e ∙ sym h
    go false e false h = e ∙ sym h
    go true e false h = absurd (true≢false (sym (same_self (path_at table place)) ∙ ap (λ (n : ℕ). same_path (path_at table place) (path_at table n)) (eqb-true place other e) ∙ h))
    go false e true h =
        let at : Some place ≡ Some other =
        sym (place_at (paths_in table) place once (omega (arith, count table, l))) ∙ ap (place_of (paths_in table)) (is_same (path_at table place) (path_at table other) h) ∙ place_at (paths_in table) other once (omega (arith, count table, m)) in
        let same : place ≡ other = cc in
        absurd (true≢false (sym (eq-eqb place other same) ∙ e))

-- a path's number is that of its place
pub by_place : (table : Table) (place i : ℕ) (order : List ℕ) → NoneTwice (paths_in table) → place < length table → AreBelow (length table) order
    → position_from (nat_eq place) i order ≡ position_from (same_path (path_at table place)) i (paths_to table order)
by_place table place i [] once l below = refl
by_place table place i (other ∷ order) once l below =
    ap (λ (b : Bool). cond b (Some i) (position_from (nat_eq place) (i + 1) order)) (same_place table place other once l (below 0 (omega arith)))
    ∙ ap (λ (o : Option ℕ). cond (same_path (path_at table place) (path_at table other)) (Some i) o) (by_place table place (i + 1) order once l (λ k less. below (suc k) (omega arith)))

-- a path that is not there has none
pub no_number : (table : Table) (path : Path) (i : ℕ) (order : List ℕ) → NoneTwice (paths_in table) → AreBelow (length table) order → place_of (paths_in table) path ≡ None → position_from (same_path path) i (paths_to table order) ≡ None
no_number table path i [] once below none = refl
no_number table path i (other ∷ order) once below none =
    ap (λ (b : Bool). cond b (Some i) (position_from (same_path path) (i + 1) (paths_to table order))) (unlike table path other once (below 0 (omega arith)) none)
    ∙ no_number table path (i + 1) order once (λ k less. below (suc k) (omega arith)) none
  where
    unlike : (table : Table) (path : Path) (other : ℕ) → NoneTwice (paths_in table) → other < length table → place_of (paths_in table) path ≡ None → same_path path (path_at table other) ≡ false
    unlike table path other once l none =
        false_from_ne_true (same_path path (path_at table other)) (λ same. none-some other (sym none ∙ ap (place_of (paths_in table)) (is_same path (path_at table other) same) ∙ place_at (paths_in table) other once (omega (arith, count table, l))))

-- what is found there
pub place_found : (table : Table) (path : Path) (place : ℕ) → place_of (paths_in table) path ≡ Some place → (place < length table) × (path_at table place ≡ path)
place_found table path place e = let at = found_at path (paths_in table) place e in (omega (arith, count table, at.0), at.1)

pub node_number : (table : Table) (path : Path) (place : ℕ) (order : List ℕ) → NoneTwice (paths_in table) → AreBelow (length table) order → place_of (paths_in table) path ≡ Some place → position_from (nat_eq place) 0 order ≡ place_of (paths_to table order) path
node_number table path place order once below e =
    let at = place_found table path place e in
    by_place table place 0 order once at.0 below ∙ ap (λ (p : Path). position_from (same_path p) 0 (paths_to table order)) at.1

-- whether the path of a leaf is one that is there, or not
pub leaf_same : (table : Table) (path : Path) (place leaf : ℕ) (leaves : List ℕ) → NoneTwice (paths_in table) → AreBelow (length table) leaves → leaf < length leaves → place_of (paths_in table) path ≡ Some place
    → nat_eq place (get_or leaves leaf 0) ≡ same_path (get_or (paths_to table leaves) leaf []) path
leaf_same table path place leaf leaves once below l e =
    let at = place_found table path place e in
    turned place (get_or leaves leaf 0)
    ∙ same_place table (get_or leaves leaf 0) place once (below leaf l) at.0
    ∙ ap (same_path (path_at table (get_or leaves leaf 0))) at.1
    ∙ ap (λ (p : Path). same_path p path) (sym (get_or-map (path_at table) leaves leaf 0 [] l))
  where
    turned : (a b : ℕ) → nat_eq a b ≡ nat_eq b a
    turned a b = go (nat_eq a b) refl (nat_eq b a) refl
      where
        go : (x : Bool) → nat_eq a b ≡ x → (y : Bool) → nat_eq b a ≡ y → nat_eq a b ≡ nat_eq b a
        go true e true h = e ∙ sym h
        go false e false h = e ∙ sym h
        go true e false h = absurd (true≢false (sym (eq-eqb b a (sym (eqb-true a b e))) ∙ h))
        go false e true h = absurd (true≢false (sym (eq-eqb a b (sym (eqb-true b a h))) ∙ e))

pub leaf_other : (table : Table) (path : Path) (leaf : ℕ) (leaves : List ℕ) → NoneTwice (paths_in table) → AreBelow (length table) leaves → leaf < length leaves → place_of (paths_in table) path ≡ None → false ≡ same_path (get_or (paths_to table leaves) leaf []) path
leaf_other table path leaf leaves once below l none =
    sym (false_from_ne_true (same_path (get_or (paths_to table leaves) leaf []) path) (λ same.
    let at : path_at table (get_or leaves leaf 0) ≡ path = sym (get_or-map (path_at table) leaves leaf 0 [] l) ∙ is_same (get_or (paths_to table leaves) leaf []) path same in
    none-some (get_or leaves leaf 0) (sym none ∙ ap (place_of (paths_in table)) (sym at) ∙ place_at (paths_in table) (get_or leaves leaf 0) once (omega (arith, count table, below leaf l)))))

-- what a filter keeps
pub below_filter : (test : ℕ → Bool) (count : ℕ) (order : List ℕ) → AreBelow count order → AreBelow count (filter test order)
below_filter test count [] below = λ k less. absurd (omega arith)
below_filter test count (place ∷ order) below = elim (test place) as (λ b. AreBelow count (cond b (place ∷ filter test order) (filter test order))) [
  | true ↦ more (below_filter test count order (λ k less. below (suc k) (omega arith)))
  | false ↦ below_filter test count order (λ k less. below (suc k) (omega arith))
]
  where
    more : AreBelow count (filter test order) → AreBelow count (place ∷ filter test order)
    more rest zero less = below 0 (omega arith)
    more rest (suc k) less = rest k (omega arith)

pub filter_short : (test : ℕ → Bool) (order : List ℕ) → length (filter test order) ≤ length order
filter_short test [] = omega arith
filter_short test (place ∷ order) = elim (test place) as (λ b. length (cond b (place ∷ filter test order) (filter test order)) ≤ suc (length order)) [
  | true ↦ omega (arith, filter_short test order)
  | false ↦ omega (arith, filter_short test order)
]

-- the leaves' places are those whose paths want
pub leaf_paths_to : (table : Table) (order : List ℕ) → NoneTwice (paths_in table) → AreBelow (length table) order
    → paths_to table (filter (λ place. is_leaf_kind (mention_at table place).kind) order) ≡ filter (λ path. is_leaf_kind (kind_in table path)) (paths_to table order)
leaf_paths_to table [] once below = refl
leaf_paths_to table (place ∷ order) once below =
    ap (λ (b : Bool). paths_to table (cond b (place ∷ filter (λ p. is_leaf_kind (mention_at table p).kind) order) (filter (λ p. is_leaf_kind (mention_at table p).kind) order))) (sym (ap is_leaf_kind (kind_there table place once (below 0 (omega arith)))))
    ∙ go (is_leaf_kind (kind_in table (path_at table place))) (leaf_paths_to table order once (λ k less. below (suc k) (omega arith)))
  where
    go : (b : Bool) → paths_to table (filter (λ p. is_leaf_kind (mention_at table p).kind) order) ≡ filter (λ path. is_leaf_kind (kind_in table path)) (paths_to table order)
        → paths_to table (cond b (place ∷ filter (λ p. is_leaf_kind (mention_at table p).kind) order) (filter (λ p. is_leaf_kind (mention_at table p).kind) order))
        ≡ cond b (path_at table place ∷ filter (λ path. is_leaf_kind (kind_in table path)) (paths_to table order)) (filter (λ path. is_leaf_kind (kind_in table path)) (paths_to table order))
    go true rest = ap (λ (ps : List Path). path_at table place ∷ ps) rest
    go false rest = rest
