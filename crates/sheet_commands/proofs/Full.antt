-- Whether each leaf of a sheet that was read has its line in a grants file.
use Rattle.std.proofs.Common.{◌≡◌, ◌∙◌, ℕ, zero, suc, ◌<◌, ◌≤◌, true, false, cond, subst, ◌||◌, Bool, List, [], ◌∷◌, length, map, filter, filter_map, get_or, slice_get, refl, sym, ap, arith, true≢false, Option, Some, None, option_and_then, nat_eq, eq-eqb}
use Rattle.std.specs.List.{position_from, list_any, range_with_len, cons_option}
use Rattle.std.specs.Option.{is_some}
use Rattle.std.specs.Str.Lines.{lines}
use Rattle.std.proofs.lemmas.Bool.{or_left, or_right}
use Rattle.std.proofs.lemmas.List.{get_or-map, length-map}
use Rattle.std.proofs.lemmas.List.Folds.{list_any_at}
use Rattle.std.proofs.lemmas.List.FromFn.{length-range_with_len, get_or-range_with_len}
use Rattle.std.proofs.lemmas.Option.{slice_get-get_or, slice_get_past}
use Rattle.limit_tree.specs.Outline.{is_leaf_kind}
use Rattle.sheet_text.specs.Paths.{NoneTwice, Path, is_among, place_of, same_path}
use Rattle.sheet_text.proofs.Listing.{any_is_some, found_at}
use Rattle.sheet_text.proofs.TreeNodes.{each_passes, once_filter}
use Rattle.sheet_text.proofs.Within.{each_at, is_same}
use Rattle.sheet_text.specs.Table.{Mention, Table}
use Rattle.sheet_text.specs.Taken.{AreNoted, IsTreeOfLines, Stated, stated_paths}
use Rattle.sheet_text.specs.Tree.{kind_in, kind_of, node_paths}
use Rattle.sheet_text.proofs.Tables.{place_at}
use Rattle.sheet_text.specs.Sheet.{leaf_paths, statements, states_want, want_paths}
use Rattle.sheet_text.specs.Views.{SheetValue, IsSheetOf}
use Rattle.sheet_commands.specs.Grants.{line_of_leaf, lines_by_leaf}
use Rattle.sheet_text.specs.Text.{GrantLine}
use Rattle.sheet_commands.proofs.Filling.{found, first_place}
use Rattle.sheet_text.proofs.Taking.{text_tree}
use Rattle.sheet_text.proofs.Wants.{place_there, wants_apart, wants_once}

-- the path of a leaf that is stated is that of a want
stated_want : (table : Table) (lines : List Stated) (path : Path) → AreNoted table lines → is_leaf_kind (kind_in table path) ≡ true → is_among (stated_paths lines) path ≡ true → is_among (want_paths lines) path ≡ true
stated_want table [] path noted leaf e = e
stated_want table (s ∷ lines) path noted leaf e = go (same_path path s.entry.path) refl (λ h. stated_want table lines path noted.1 leaf h) e (states_want s) refl
  where
    wants : same_path path s.entry.path ≡ true → states_want s ≡ true
    wants same = sym (ap (λ (p : Path). is_leaf_kind (kind_in table p)) (is_same path s.entry.path same) ∙ ap (λ (o : Option Mention). is_leaf_kind (kind_of o)) noted.0) ∙ leaf

    go : (a : Bool) → same_path path s.entry.path ≡ a → (is_among (stated_paths lines) path ≡ true → is_among (want_paths lines) path ≡ true) → (same_path path s.entry.path || is_among (stated_paths lines) path) ≡ true
        → (b : Bool) → states_want s ≡ b → is_among (map (λ (x : Stated). x.entry.path) (cond b (s ∷ filter states_want lines) (filter states_want lines))) path ≡ true
    go true same rest h true is = or_left _ _ same
    go true same rest h false is = absurd (true≢false (sym (wants same) ∙ is))
    go false same rest h true is = or_right (same_path path s.entry.path) _ (rest (sym (ap (λ (b : Bool). b || is_among (stated_paths lines) path) same) ∙ h))
    go false same rest h false is = rest (sym (ap (λ (b : Bool). b || is_among (stated_paths lines) path) same) ∙ h)

module _ (source : List ℕ) (sheet : SheetValue) (is : IsSheetOf source sheet) where
  law : IsTreeOfLines is.table (statements source)
  law = text_tree source is.table is.taken_is

  as_many : length sheet.wants ≡ length (want_paths (statements source))
  as_many = sym (length-map sheet.wants Some) ∙ ap length is.wants_are ∙ length-map (want_paths (statements source)) (place_of sheet.leaves)

  -- what stands at a place of the wants
  want_at : (k : ℕ) → k < length sheet.wants → place_of sheet.leaves (get_or (want_paths (statements source)) k []) ≡ Some (get_or sheet.wants k 0)
  want_at k l =
      sym (get_or-map (place_of sheet.leaves) (want_paths (statements source)) k [] None (omega (arith, as_many)))
      ∙ ap (λ (os : List (Option ℕ)). get_or os k None) (sym is.wants_are)
      ∙ get_or-map Some sheet.wants k 0 None l

  once : NoneTwice sheet.leaves
  once = subst NoneTwice (sym is.leaves_are) (once_filter (λ p. is_leaf_kind (kind_in is.table p)) (node_paths is.table) law.tree.once)

  -- the path of a leaf is that of a want
  leaf_wanted : (leaf : ℕ) → leaf < length sheet.leaves → is_among (want_paths (statements source)) (get_or sheet.leaves leaf []) ≡ true
  leaf_wanted leaf l = go (is_among (stated_paths (statements source)) path) refl
    where
      path : Path
      path = get_or sheet.leaves leaf []

      wants : is_leaf_kind (kind_in is.table path) ≡ true
      wants =
          ap (λ (ps : List Path). is_leaf_kind (kind_in is.table (get_or ps leaf []))) is.leaves_are
          ∙ each_at (λ p. is_leaf_kind (kind_in is.table p) ≡ true) (leaf_paths is.table) leaf (each_passes (λ p. is_leaf_kind (kind_in is.table p)) (node_paths is.table)) (omega (arith, l, ap length is.leaves_are))

      go : (b : Bool) → is_among (stated_paths (statements source)) path ≡ b → is_among (want_paths (statements source)) path ≡ true
      go true e = stated_want is.table (statements source) path law.taken_is.noted wants e
      go false e = absurd (true≢false (sym wants ∙ ap is_leaf_kind (law.taken_is.unstated path e)))

  -- each leaf is that of a want
  leaf_there : (leaf : ℕ) → leaf < length sheet.leaves → (k : ℕ) × (position_from (nat_eq leaf) 0 sheet.wants ≡ Some k) × (k < length sheet.wants)
  leaf_there leaf l = go (position_from (nat_eq leaf) 0 sheet.wants) refl
    where
      path : Path
      path = get_or sheet.leaves leaf []

      wanted : (k : ℕ) × (place_of (want_paths (statements source)) path ≡ Some k) × (k < length (want_paths (statements source)))
      wanted = place_there path (want_paths (statements source)) (leaf_wanted leaf l)

      listed : list_any (nat_eq leaf) sheet.wants ≡ true
      listed =
          let k = wanted.0 in
          let less : k < length sheet.wants = omega (arith, wanted.2, as_many) in
          let number : Some (get_or sheet.wants k 0) ≡ Some leaf =
          sym (want_at k less) ∙ ap (place_of sheet.leaves) (found_at path (want_paths (statements source)) k wanted.1).1 ∙ place_at sheet.leaves leaf once l in
          let equal : leaf ≡ get_or sheet.wants k 0 = cc in
          list_any_at (nat_eq leaf) sheet.wants k 0 less (eq-eqb leaf (get_or sheet.wants k 0) equal)

      go : (o : Option ℕ) → position_from (nat_eq leaf) 0 sheet.wants ≡ o → (k : ℕ) × (position_from (nat_eq leaf) 0 sheet.wants ≡ Some k) × (k < length sheet.wants)
      go None none = absurd (true≢false (sym listed ∙ sym (any_is_some (nat_eq leaf) 0 sheet.wants) ∙ ap is_some none))
      go (Some k) some = (k, some, (found leaf sheet.wants k some).0)

  all_kept : (f : ℕ → Option GrantLine) (xs : List ℕ) → ((i : ℕ) → i < length xs → is_some (f (get_or xs i 0)) ≡ true) → length (filter_map f xs) ≡ length xs
  all_kept f [] each = refl
  all_kept f (x ∷ xs) each = one (f x) (each 0 (omega arith)) (all_kept f xs (λ i l. each (suc i) (omega arith)))
    where
      one : (o : Option GrantLine) → is_some o ≡ true → length (filter_map f xs) ≡ length xs → length (cons_option o (filter_map f xs)) ≡ suc (length xs)
      one None e rest = absurd (true≢false (sym e))
      one (Some line) e rest = ap suc rest

  at_most_all : (f : ℕ → Option GrantLine) (xs : List ℕ) → length (filter_map f xs) ≤ length xs
  at_most_all f [] = omega arith
  at_most_all f (x ∷ xs) = one (f x) (at_most_all f xs)
    where
      one : (o : Option GrantLine) → length (filter_map f xs) ≤ length xs → length (cons_option o (filter_map f xs)) ≤ suc (length xs)
      one None rest = omega arith
      one (Some line) rest = omega arith

  one_lacks : (f : ℕ → Option GrantLine) (xs : List ℕ) (i : ℕ) → i < length xs → f (get_or xs i 0) ≡ None → length (filter_map f xs) < length xs
  one_lacks f [] i l none = absurd (omega arith)
  one_lacks f (x ∷ xs) zero l none =
      let gone : filter_map f (x ∷ xs) ≡ filter_map f xs = ap (λ (o : Option GrantLine). cons_option o (filter_map f xs)) none in
      omega (arith, ap length gone, at_most_all f xs)
  one_lacks f (x ∷ xs) (suc i) l none = one (f x) (one_lacks f xs i (omega arith) none)
    where
      one : (o : Option GrantLine) → length (filter_map f xs) < length xs → length (cons_option o (filter_map f xs)) < suc (length xs)
      one None rest = omega arith
      one (Some line) rest = omega arith

  -- with a line for each want each leaf has its line
  pub full : (given : List GrantLine) → length given ≡ length sheet.wants → length (lines_by_leaf sheet given) ≡ length sheet.leaves
  full given size =
      all_kept (line_of_leaf sheet given) (range_with_len 0 (length sheet.leaves)) (λ i l. has_line i (omega (arith, l, length-range_with_len 0 (length sheet.leaves))))
      ∙ length-range_with_len 0 (length sheet.leaves)
    where
      line_there : (leaf : ℕ) → leaf < length sheet.leaves → is_some (line_of_leaf sheet given leaf) ≡ true
      line_there leaf l =
          let at = leaf_there leaf l in
          ap (λ (o : Option ℕ). is_some (option_and_then (slice_get given) o)) at.1 ∙ there given at.0 (omega (arith, at.2, size))
        where
          there : (xs : List GrantLine) (k : ℕ) → k < length xs → is_some (slice_get xs k) ≡ true
          there [] k less = absurd (omega arith)
          there (x ∷ xs) zero less = refl
          there (x ∷ xs) (suc k) less = there xs k (omega arith)

      has_line : (i : ℕ) → i < length sheet.leaves → is_some (line_of_leaf sheet given (get_or (range_with_len 0 (length sheet.leaves)) i 0)) ≡ true
      has_line i l = ap (λ (n : ℕ). is_some (line_of_leaf sheet given n)) (get_or-range_with_len 0 (length sheet.leaves) i 0 l ∙ omega arith) ∙ line_there i l

  -- with fewer some leaf has none
  pub short : (given : List GrantLine) → length given < length sheet.wants → length (lines_by_leaf sheet given) < length sheet.leaves
  short given fewer =
      let k = length given in
      let leaf = get_or sheet.wants k 0 in
      let wanted = want_at k fewer in
      let within : leaf < length sheet.leaves = (found_at (get_or (want_paths (statements source)) k []) sheet.leaves leaf wanted).0 in
      let apart = wants_apart sheet.leaves (want_paths (statements source)) sheet.wants (wants_once is.table (lines source) 1 law.taken_is.noted) is.wants_are in
      let place = first_place sheet.wants k leaf apart (slice_get-get_or sheet.wants k 0 fewer) in
      let none : line_of_leaf sheet given leaf ≡ None = ap (λ (o : Option ℕ). option_and_then (slice_get given) o) place ∙ slice_get_past given k (omega arith) in
      let inside : leaf < length (range_with_len 0 (length sheet.leaves)) = omega (arith, within, length-range_with_len 0 (length sheet.leaves)) in
      let number : get_or (range_with_len 0 (length sheet.leaves)) leaf 0 ≡ leaf = get_or-range_with_len 0 (length sheet.leaves) leaf 0 within ∙ omega arith in
      let less = one_lacks (line_of_leaf sheet given) (range_with_len 0 (length sheet.leaves)) leaf inside (ap (line_of_leaf sheet given) number ∙ none) in
      omega (arith, less, length-range_with_len 0 (length sheet.leaves))
