-- A tree that is built level by level.
use Rattle.std.proofs.Common.{◌≡◌, ◌∙◌, ℕ, zero, suc, ◌<◌, ◌+◌, ◌-◌, nat_eq, Bool, true, false, cond, List, [], ◌∷◌, ◌++◌, length, map, take, get_or, refl, sym, ap, ap₂, arith, rules, tests, append-nil, append_assoc, length-append, inl, inr, Some}
use Rattle.std.specs.Prelude.{flat_map}
use Rattle.std.specs.List.{find}
use Rattle.std.proofs.lemmas.Bool.{cases_lt}
use Rattle.std.proofs.lemmas.List.{map-append, get_or_append_left, map_more, take_more}
use Rattle.std.proofs.lemmas.List.Concat.{flat_map-append}
use Rattle.std.proofs.lemmas.List.Folds.{flat_map-map}
use Rattle.std.proofs.Math.Seq.{get_or-append_seam}
use Rattle.limit_tree.specs.declared.place.NodeKind.{NodeKind}
use Rattle.limit_tree.specs.declared.place.NodeKind.TheVariants.{Branch, Leaf}
use Rattle.limit_tree.specs.declared.place.Place.{Place}
use Rattle.limit_tree.specs.Outline.{is_leaf_kind}
use Rattle.sheet_text.specs.Paths.{NoneTwice, Path}
use Rattle.sheet_text.specs.Forest.{kids_by, outline_at, paths_at, tree_over}
use Rattle.sheet_text.specs.TreeLaw.{kids_in}
use Rattle.sheet_text.proofs.Within.{same_self}
use Rattle.sheet_text.specs.Table.{Table, is_at, mention_at, path_at, paths_in}
use Rattle.sheet_text.specs.Rows.{AreBelow}
use Rattle.sheet_text.specs.Tree.{kind_in, kind_of, kids_to, outline_below, paths_below, paths_to}
use Rattle.sheet_text.proofs.Tables.{apart_from, count}

-- what stands at the path of a place
pub kind_there : (table : Table) (place : ℕ) → NoneTwice (paths_in table) → place < length table → kind_in table (path_at table place) ≡ (mention_at table place).kind
kind_there [] place once l = absurd (omega arith)
kind_there (m ∷ table) zero once l = ap (λ (b : Bool). kind_of (cond b (Some m) (find (is_at m.path) table))) (same_self m.path)
kind_there (m ∷ table) (suc place) once l =
    ap (λ (b : Bool). kind_of (cond b (Some m) (find (is_at (path_at table place)) table))) (apart_from m.path (paths_in table) place once.0 (omega (arith, count table, l)))
    ∙ kind_there table place once.1 (omega arith)

-- one level of a tree, from the trees one level less
pub outline_step : (table : Table) (levels : ℕ) (path : Path) → outline_below table levels path ≡ tree_over (kind_in table path) (map (outline_below table (levels - 1)) (kids_to table levels path))
unfolding outline_at
outline_step table zero path = refl
outline_step table (suc levels) path =
    let less : suc levels - 1 ≡ levels = omega arith in
    let more : nat_eq (suc levels) 0 ≡ false = search (rules, tests) in
    sym (ap (λ (b : Bool). tree_over (kind_in table path) (map (outline_below table (suc levels - 1)) (cond b [] (kids_by (kind_in table path) (kids_in (paths_in table) path))))) more
    ∙ ap (λ (n : ℕ). tree_over (kind_in table path) (map (outline_below table n) (kids_by (kind_in table path) (kids_in (paths_in table) path)))) less)

pub paths_step : (table : Table) (levels : ℕ) (path : Path) → paths_below table levels path ≡ path ∷ flat_map (paths_below table (levels - 1)) (kids_to table levels path)
unfolding paths_at
paths_step table zero path = refl
paths_step table (suc levels) path =
    let less : suc levels - 1 ≡ levels = omega arith in
    let more : nat_eq (suc levels) 0 ≡ false = search (rules, tests) in
    sym (ap (λ (b : Bool). path ∷ flat_map (paths_below table (suc levels - 1)) (cond b [] (kids_by (kind_in table path) (kids_in (paths_in table) path)))) more
    ∙ ap (λ (n : ℕ). path ∷ flat_map (paths_below table n) (kids_by (kind_in table path) (kids_in (paths_in table) path))) less)

pub map-map : {X Y Z : Type 0} (f : Y → Z) (g : X → Y) (xs : List X) → map f (map g xs) ≡ map (λ x. f (g x)) xs
map-map f g [] = refl
map-map f g (x ∷ xs) = ap (λ zs. f (g x) ∷ zs) (map-map f g xs)

-- one place more
pub below_push : (count : ℕ) (places : List ℕ) (place : ℕ) → AreBelow count places → place < count → AreBelow count (places ++ place ∷ [])
below_push count places place below less k within = elim (cases_lt k (length places)) [
  | inl before ↦ omega (arith, get_or_append_left places (place ∷ []) 0 k before, below k before)
  | inr past ↦
      let end : k ≡ length places = omega (arith, within, past, length-append places (place ∷ [])) in
      omega (arith, less, ap (λ (n : ℕ). get_or (places ++ place ∷ []) n 0) end ∙ get_or-append_seam places place [] 0)
]

pub paths_push : (table : Table) (places : List ℕ) (place : ℕ) → paths_to table (places ++ place ∷ []) ≡ (paths_to table places ++ path_at table place ∷ []) ++ []
paths_push table places place = map-append (path_at table) places (place ∷ []) ∙ sym (append-nil (paths_to table places ++ path_at table place ∷ []))

-- one kid more
pub built_more : {X : Type 0} (f : ℕ → List Place) (view : X → List Place) (kids : List X) (kid : X) (row : List ℕ) (i : ℕ) → i < length row → map view kids ≡ map f (take i row) → view kid ≡ f (get_or row i 0) → map view (kids ++ kid ∷ []) ≡ map f (take (i + 1) row)
built_more f view kids kid row i less are is = map-append view kids (kid ∷ []) ∙ ap₂ (λ (ps : List (List Place)) (p : List Place). ps ++ p ∷ []) are is ∙ sym (map_more f row i 0 less)

pub order_more : (f : ℕ → List Path) (before old new : List Path) (row : List ℕ) (i : ℕ) → i < length row → old ≡ before ++ flat_map f (take i row) → new ≡ old ++ f (get_or row i 0) → new ≡ before ++ flat_map f (take (i + 1) row)
order_more f before old new row i less was is =
    let one : flat_map f (get_or row i 0 ∷ []) ≡ f (get_or row i 0) = append-nil (f (get_or row i 0)) in
    let rest : flat_map f (take (i + 1) row) ≡ flat_map f (take i row) ++ f (get_or row i 0) = ap (flat_map f) (take_more row i 0 less) ∙ flat_map-append f (take i row) (get_or row i 0 ∷ []) ∙ ap (λ (ps : List Path). flat_map f (take i row) ++ ps) one in
    is ∙ ap (λ (ps : List Path). ps ++ f (get_or row i 0)) was ∙ append_assoc before (flat_map f (take i row)) (f (get_or row i 0)) ∙ ap (λ (ps : List Path). before ++ ps) (sym rest)

-- all kids
pub built_all : (table : Table) (levels place : ℕ) (row : List ℕ) (kind : NodeKind) (trees : List (List Place)) (whole : List Place) → whole ≡ tree_over kind trees → kind ≡ kind_in table (path_at table place)
    → trees ≡ map (λ p. outline_below table (levels - 1) (path_at table p)) row → paths_to table row ≡ kids_to table levels (path_at table place) → whole ≡ outline_below table levels (path_at table place)
built_all table levels place row kind trees whole is kind_is trees_are row_is =
    let path = path_at table place in
    is ∙ ap (λ (k : NodeKind). tree_over k trees) kind_is
    ∙ ap (tree_over (kind_in table path)) (trees_are ∙ sym (map-map (outline_below table (levels - 1)) (path_at table) row) ∙ ap (map (outline_below table (levels - 1))) row_is)
    ∙ sym (outline_step table levels path)

pub order_all : (table : Table) (levels place : ℕ) (old new : List Path) (row : List ℕ) → new ≡ (old ++ path_at table place ∷ []) ++ flat_map (λ p. paths_below table (levels - 1) (path_at table p)) row → paths_to table row ≡ kids_to table levels (path_at table place)
    → new ≡ old ++ paths_below table levels (path_at table place)
order_all table levels place old new row is row_is =
    let path = path_at table place in
    is ∙ append_assoc old (path ∷ []) (flat_map (λ p. paths_below table (levels - 1) (path_at table p)) row)
    ∙ ap (λ (ps : List Path). old ++ path ∷ ps) (sym (flat_map-map (paths_below table (levels - 1)) (path_at table) row) ∙ ap (flat_map (paths_below table (levels - 1))) row_is)
    ∙ ap (λ (ps : List Path). old ++ ps) (sym (paths_step table levels path))

kids_of_leaf : (kind : NodeKind) (kids : List Path) → is_leaf_kind kind ≡ true → kids_by kind kids ≡ []
kids_of_leaf (Leaf want floor) kids e = refl
kids_of_leaf (Branch limit) kids e = cc

kids_of_branch : (kind : NodeKind) (kids : List Path) → is_leaf_kind kind ≡ false → kids_by kind kids ≡ kids
kids_of_branch (Leaf want floor) kids e = cc
kids_of_branch (Branch limit) kids e = refl

-- the kids of a branch that has any level beneath it
pub kids_there : (table : Table) (levels : ℕ) (path : Path) (kids : List Path) → nat_eq levels 0 ≡ false → is_leaf_kind (kind_in table path) ≡ false → kids ≡ kids_in (paths_in table) path → kids ≡ kids_to table levels path
kids_there table levels path kids more branch are =
    are ∙ sym (ap (λ (b : Bool). cond b [] (kids_by (kind_in table path) (kids_in (paths_in table) path))) more ∙ kids_of_branch (kind_in table path) (kids_in (paths_in table) path) branch)

-- a want has none
pub none_there : (table : Table) (levels : ℕ) (path : Path) → nat_eq levels 0 ≡ false → is_leaf_kind (kind_in table path) ≡ true → [] ≡ kids_to table levels path
none_there table levels path more leaf =
    sym (ap (λ (b : Bool). cond b [] (kids_by (kind_in table path) (kids_in (paths_in table) path))) more ∙ kids_of_leaf (kind_in table path) (kids_in (paths_in table) path) leaf)
