-- A sheet that was read.
use Rattle.std.proofs.Common.{◌≡◌, ◌∙◌, ℕ, ◌<◌, ◌≤◌, nat_eq, List, [], length, map, filter, get_or, sym, ap, arith, true, ◌∷◌, inl, inr, eqb-true, Option, Some, None}
use Rattle.std.specs.List.{IsDistinct, AllByRecursion, list_any, position_from}
use Rattle.std.specs.Option.{is_some}
use Rattle.std.proofs.lemmas.Bool.{or_cases}
use Rattle.std.proofs.lemmas.List.{get_or-map, length-map}
use Rattle.std.proofs.lemmas.List.Folds.{list_any_at}
use Rattle.std.proofs.lemmas.Map.Steps.{length-le_from_distinct_below}
use Rattle.limit_tree.specs.declared.place.Place.{Place}
use Rattle.limit_tree.specs.declared.bounds.TheConstants.{MAX_NODES}
use Rattle.limit_tree.specs.Outline.{is_leaf_kind, leaf_count, limits}
use Rattle.limit_tree.proofs.Leaves.{length-wants_in}
use Rattle.sheet_text.specs.Paths.{NoneTwice, Octets, Path, is_among, place_of, same_path}
use Rattle.sheet_text.proofs.Within.{same_self}
use Rattle.sheet_text.proofs.TreeNodes.{among_filter}
use Rattle.sheet_text.specs.Rows.{AreBelow}
use Rattle.sheet_text.specs.Table.{Table, mention_at, path_at, paths_in}
use Rattle.sheet_text.specs.Taken.{IsTreeOfLines}
use Rattle.sheet_text.specs.Tree.{kind_in, node_paths, outline_of, paths_to}
use Rattle.sheet_text.proofs.Tables.{there_at}
use Rattle.sheet_text.specs.Kept.{IsKept, IsRead}
use Rattle.sheet_text.specs.Sheet.{leaf_paths, statements, want_paths}
use Rattle.sheet_text.specs.Views.{IsSheet, IsSheetOf}
use Rattle.sheet_text.proofs.Taking.{text_tree}
use Rattle.sheet_text.proofs.Placed.{below_filter, by_place, leaf_paths_to}
use Rattle.sheet_text.proofs.Wants.{all_found, leaves_of_kinds, numbers_of, place_there, want_noted, wants_apart, wants_once}
use Rattle.std.specs.Str.Lines.{lines}

-- the places of an order at which wants stand
abbrev pub leaf_places : Table → List ℕ → List ℕ
leaf_places table order = filter (λ place. is_leaf_kind (mention_at table place).kind) order

below_each : (n : ℕ) (xs : List ℕ) (q : ℕ) → AllByRecursion (λ x. x < n) xs → list_any (nat_eq q) xs ≡ true → q < n
below_each n [] q all e = cc
below_each n (x ∷ xs) q all e = elim (or_cases (nat_eq q x) (list_any (nat_eq q) xs) e) [ inl same ↦ omega (arith, eqb-true q x same, all.0) | inr further ↦ below_each n xs q all.1 further ]

module _ (text : Octets) (table : Table) (tree : List Place) (order places : List ℕ) (r : IsRead text table tree order places) where
  law : IsTreeOfLines table (statements text)
  law = text_tree text table r.taken_is

  pub once : NoneTwice (paths_in table)
  once = law.taken_is.mentions_are.apart

  pub as_many : length (paths_to table order) ≡ length tree
  as_many =
      ap length r.order_is ∙ sym (length-map (node_paths table) (kind_in table)) ∙ sym (ap length law.tree.kinds)
      ∙ length-map (outline_of table) (λ (o : Place). o.kind) ∙ sym (ap length r.outline_is)

  pub few : length order ≤ MAX_NODES
  few = omega (arith, r.few_nodes, as_many, length-map order (path_at table))

  pub leaves_below : AreBelow (length table) (leaf_places table order)
  leaves_below = below_filter (λ place. is_leaf_kind (mention_at table place).kind) (length table) order r.order_below

  leaves_are : paths_to table (leaf_places table order) ≡ leaf_paths table
  leaves_are = leaf_paths_to table order once r.order_below ∙ ap (filter (λ path. is_leaf_kind (kind_in table path))) r.order_is

  leaves_many : length (limits tree).wants ≡ length (leaf_paths table)
  leaves_many = length-wants_in tree ∙ ap leaf_count r.outline_is ∙ leaves_of_kinds (outline_of table) (kind_in table) (node_paths table) law.tree.kinds

  -- a want stands at a leaf
  leaf_there : (k : ℕ) → k < length places → is_among (leaf_paths table) (path_at table (get_or places k 0)) ≡ true
  leaf_there k l =
      let path = path_at table (get_or places k 0) in
      let at : path ≡ get_or (want_paths (statements text)) k [] = sym (get_or-map (path_at table) places k 0 [] l) ∙ ap (λ (ps : List Path). get_or ps k []) r.places_are in
      let many : length places ≡ length (want_paths (statements text)) = sym (length-map places (path_at table)) ∙ ap length r.places_are in
      let among : is_among (want_paths (statements text)) path ≡ true = list_any_at (same_path path) (want_paths (statements text)) k [] (omega (arith, many)) (ap (same_path path) (sym at) ∙ same_self path) in
      let mentioned : is_among (paths_in table) path ≡ true = there_at table (get_or places k 0) (r.places_below k l) in
      let node : is_among (node_paths table) path ≡ true = law.tree.all path ∙ ap (λ (ps : List Path). is_among ps path) (sym law.taken_is.paths) ∙ mentioned in
      among_filter (λ p. is_leaf_kind (kind_in table p)) (node_paths table) path node (want_noted table (statements text) path law.taken_is.noted among)

  -- and so has a number
  pub numbered : (numbers : List (Option ℕ)) → ((place : ℕ) → place < length table → get_or numbers place None ≡ position_from (nat_eq place) 0 (leaf_places table order)) → (k : ℕ) → k < length places → is_some (get_or numbers (get_or places k 0) None) ≡ true
  numbered numbers are k l =
      let place = get_or places k 0 in
      let there = place_there (path_at table place) (leaf_paths table) (leaf_there k l) in
      ap is_some
      (are place (r.places_below k l) ∙ by_place table place 0 (leaf_places table order) once (r.places_below k l) leaves_below
      ∙ ap (λ (ps : List Path). place_of ps (path_at table place)) leaves_are ∙ there.1)

  module _ (wants : List ℕ) (numbers : List (Option ℕ)) (are : (place : ℕ) → place < length table → get_or numbers place None ≡ position_from (nat_eq place) 0 (leaf_places table order)) (is : map Some wants ≡ map (λ place. get_or numbers place None) places) where
    wants_are : map Some wants ≡ map (place_of (paths_to table (leaf_places table order))) (want_paths (statements text))
    wants_are =
        is ∙ numbers_of table (leaf_places table order) places numbers once leaves_below r.places_below are
        ∙ ap (map (place_of (paths_to table (leaf_places table order)))) r.places_are

    within : AllByRecursion (λ want. want < length (paths_to table (leaf_places table order))) wants
    within = all_found (paths_to table (leaf_places table order)) (want_paths (statements text)) wants wants_are

    apart : IsDistinct nat_eq wants
    apart = wants_apart (paths_to table (leaf_places table order)) (want_paths (statements text)) wants (wants_once table (lines text) 1 law.taken_is.noted) wants_are

    -- what a sheet is seen as
    pub is_sheet : IsSheet (record { outline = tree; paths = paths_to table order; leaves = paths_to table (leaf_places table order); wants = wants })
    is_sheet = record {
      paths_are = as_many;
      leaves_are = ap length leaves_are ∙ sym leaves_many;
      wants_are = within;
      few = omega (arith, length-le_from_distinct_below wants (length (paths_to table (leaf_places table order))) apart (λ q listed. below_each (length (paths_to table (leaf_places table order))) wants q within listed), ap length leaves_are, leaves_many, r.few_leaves);
      apart = apart;
    }

    pub is_sheet_of : IsSheetOf text (record { outline = tree; paths = paths_to table order; leaves = paths_to table (leaf_places table order); wants = wants })
    is_sheet_of = record {
      table = table;
      taken_is = r.taken_is;
      sound = r.sound;
      outline_is = r.outline_is;
      paths_are = r.order_is;
      leaves_are = leaves_are;
      wants_are = wants_are;
    }

  pub is_kept : (numbers : List (Option ℕ)) → length numbers ≡ length table → ((place : ℕ) → place < length table → get_or numbers place None ≡ position_from (nat_eq place) 0 order) → IsKept table order (leaf_places table order) numbers
  is_kept numbers many are = record { once = once; order_below = r.order_below; leaves_below = leaves_below; numbers_length = many; numbers_are = are }
