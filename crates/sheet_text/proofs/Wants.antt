-- The leaves of a sheet that was read, and its wants.
use Rattle.std.proofs.Common.{◌≡◌, ◌∙◌, ℕ, suc, ◌<◌, ◌≤◌, ◌+◌, nat_eq, Bool, true, false, cond, List, [], ◌∷◌, ◌++◌, length, map, filter, count_by, get_or, refl, sym, ap, arith, true≢false, Option, Some, None, inl, inr, eqb-true}
use Rattle.std.specs.List.{AllByRecursion, IsDistinct, find, position_from}
use Rattle.std.specs.Option.{is_some}
use Rattle.std.proofs.lemmas.Bool.{false_from_ne_true, or_cases, or_parts}
use Rattle.std.proofs.lemmas.List.Sums.{sum_by-cons}
use Rattle.std.proofs.lemmas.Map.Keys.{IsDistinct-cons, IsDistinct-from_apart}
use Rattle.limit_tree.specs.declared.place.NodeKind.{NodeKind}
use Rattle.limit_tree.specs.declared.place.Place.{Place}
use Rattle.limit_tree.specs.Outline.{is_leaf_kind, leaf_count}
use Rattle.sheet_text.specs.Paths.{NoneTwice, Octets, Path, is_among, place_of, same_path}
use Rattle.sheet_text.proofs.Listing.{any_is_some, found_at}
use Rattle.sheet_text.proofs.Within.{is_same, same_self}
use Rattle.sheet_text.specs.Rows.{AreBelow}
use Rattle.sheet_text.specs.Table.{Mention, Table, is_at, path_at, paths_in}
use Rattle.sheet_text.specs.Mentions.{Entry}
use Rattle.sheet_text.specs.Taken.{AreNoted, Stated}
use Rattle.sheet_text.specs.Tree.{kind_in, kind_of, line_in, line_of, paths_to}
use Rattle.sheet_text.specs.Text.{entry_of}
use Rattle.sheet_text.specs.Sheet.{is_skipped, stated, statements_from, states_want, want_paths}
use Rattle.sheet_text.proofs.Placed.{by_place}

-- as many leaves as nodes that want
pub leaves_of_kinds : (places : List Place) (kind : Path → NodeKind) (paths : List Path) → map (λ (p : Place). p.kind) places ≡ map kind paths → leaf_count places ≡ length (filter (λ path. is_leaf_kind (kind path)) paths)
leaves_of_kinds places kind paths same = of_kinds places ∙ ap (count_by is_leaf_kind) same ∙ filtered paths
  where
    of_kinds : (ps : List Place) → leaf_count ps ≡ count_by is_leaf_kind (map (λ (p : Place). p.kind) ps)
    of_kinds [] = refl
    of_kinds (p ∷ ps) =
        sum_by-cons (λ (x : Place). cond (is_leaf_kind x.kind) 1 0) p ps ∙ ap (λ (n : ℕ). cond (is_leaf_kind p.kind) 1 0 + n) (of_kinds ps) ∙ sym (sum_by-cons (λ (k : NodeKind). cond (is_leaf_kind k) 1 0) p.kind (map (λ (x : Place). x.kind) ps))

    one : (b : Bool) (path : Path) (rest : List Path) → cond b 1 0 + length rest ≡ length (cond b (path ∷ rest) rest)
    one true path rest = omega arith
    one false path rest = omega arith

    filtered : (ps : List Path) → count_by is_leaf_kind (map kind ps) ≡ length (filter (λ path. is_leaf_kind (kind path)) ps)
    filtered [] = refl
    filtered (p ∷ ps) = sum_by-cons (λ (k : NodeKind). cond (is_leaf_kind k) 1 0) (kind p) (map kind ps) ∙ ap (λ (n : ℕ). cond (is_leaf_kind (kind p)) 1 0 + n) (filtered ps) ∙ one (is_leaf_kind (kind p)) p _

-- the path of a want that is noted is that of a leaf
pub want_noted : (table : Table) (lines : List Stated) (path : Path) → AreNoted table lines → is_among (want_paths lines) path ≡ true → is_leaf_kind (kind_in table path) ≡ true
want_noted table [] path noted e = absurd (true≢false (sym e))
want_noted table (s ∷ lines) path noted e = go (states_want s) refl (λ h. want_noted table lines path noted.1 h) e
  where
    here : states_want s ≡ true → same_path path s.entry.path ≡ true → is_leaf_kind (kind_in table path) ≡ true
    here is same = ap (λ (p : Path). is_leaf_kind (kind_in table p)) (is_same path s.entry.path same) ∙ ap (λ (o : Option Mention). is_leaf_kind (kind_of o)) noted.0 ∙ is

    go : (b : Bool) → states_want s ≡ b → (is_among (want_paths lines) path ≡ true → is_leaf_kind (kind_in table path) ≡ true)
        → is_among (map (λ (x : Stated). x.entry.path) (cond b (s ∷ filter states_want lines) (filter states_want lines))) path ≡ true → is_leaf_kind (kind_in table path) ≡ true
    go true is rest h = elim (or_cases (same_path path s.entry.path) (is_among (want_paths lines) path) h) [ inl first ↦ here is first | inr further ↦ rest further ]
    go false is rest h = rest h

-- the lines of wants, numbered from a number on
abbrev IsLineFrom : Table → ℕ → Path → Type 0
IsLineFrom table number path = (line : ℕ) × (line_in table path ≡ Some line) × (number ≤ line)

line_from : (table : Table) (texts : List Octets) (number : ℕ) (path : Path) → AreNoted table (statements_from number texts) → is_among (want_paths (statements_from number texts)) path ≡ true → IsLineFrom table number path
line_from table [] number path noted e = absurd (true≢false (sym e))
line_from table (text ∷ texts) number path noted e = go (λ n h. line_from table texts (number + 1) path n h) (is_skipped text) noted e
  where
    later : IsLineFrom table (number + 1) path → IsLineFrom table number path
    later found = (found.0, found.1, omega (arith, found.2))

    first : (entry : Entry) → find (is_at entry.path) table ≡ Some (record { path = entry.path; kind = entry.kind; line = Some number }) → same_path path entry.path ≡ true → IsLineFrom table number path
    first entry is same = (number, ap (line_in table) (is_same path entry.path same) ∙ ap line_of is, omega arith)

    read : (AreNoted table (statements_from (number + 1) texts) → is_among (want_paths (statements_from (number + 1) texts)) path ≡ true → IsLineFrom table (number + 1) path)
        → (o : Option Entry) → AreNoted table (stated number o ++ statements_from (number + 1) texts) → is_among (want_paths (stated number o ++ statements_from (number + 1) texts)) path ≡ true → IsLineFrom table number path
    read rest None n h = later (rest n h)
    read rest (Some entry) n h = one (is_leaf_kind entry.kind) h
      where
        one : (b : Bool) → is_among (map (λ (x : Stated). x.entry.path) (cond b (record { line = number; entry = entry } ∷ filter states_want (statements_from (number + 1) texts)) (filter states_want (statements_from (number + 1) texts)))) path ≡ true → IsLineFrom table number path
        one true k = elim (or_cases (same_path path entry.path) (is_among (want_paths (statements_from (number + 1) texts)) path) k) [ inl here ↦ first entry n.0 here | inr further ↦ later (rest n.1 further) ]
        one false k = later (rest n.1 k)

    go : (AreNoted table (statements_from (number + 1) texts) → is_among (want_paths (statements_from (number + 1) texts)) path ≡ true → IsLineFrom table (number + 1) path)
        → (b : Bool) → AreNoted table (cond b [] (stated number (entry_of text)) ++ statements_from (number + 1) texts) → is_among (want_paths (cond b [] (stated number (entry_of text)) ++ statements_from (number + 1) texts)) path ≡ true → IsLineFrom table number path
    go rest true n h = later (rest n h)
    go rest false n h = read rest (entry_of text) n h

-- no path is wanted twice
pub wants_once : (table : Table) (texts : List Octets) (number : ℕ) → AreNoted table (statements_from number texts) → NoneTwice (want_paths (statements_from number texts))
wants_once table [] number noted = tt
wants_once table (text ∷ texts) number noted = go (λ n. wants_once table texts (number + 1) n) (is_skipped text) noted
  where
    apart : (entry : Entry) → find (is_at entry.path) table ≡ Some (record { path = entry.path; kind = entry.kind; line = Some number }) → AreNoted table (statements_from (number + 1) texts) → is_among (want_paths (statements_from (number + 1) texts)) entry.path ≡ false
    apart entry is n = false_from_ne_true (is_among (want_paths (statements_from (number + 1) texts)) entry.path) (λ among.
        let found = line_from table texts (number + 1) entry.path n among in
        let same : Some number ≡ Some found.0 = sym (ap line_of is) ∙ found.1 in
        let equal : number ≡ found.0 = cc in
        absurd (omega (arith, found.2, equal)))

    read : (AreNoted table (statements_from (number + 1) texts) → NoneTwice (want_paths (statements_from (number + 1) texts)))
        → (o : Option Entry) → AreNoted table (stated number o ++ statements_from (number + 1) texts) → NoneTwice (want_paths (stated number o ++ statements_from (number + 1) texts))
    read rest None n = rest n
    read rest (Some entry) n = one (is_leaf_kind entry.kind)
      where
        one : (b : Bool) → NoneTwice (map (λ (x : Stated). x.entry.path) (cond b (record { line = number; entry = entry } ∷ filter states_want (statements_from (number + 1) texts)) (filter states_want (statements_from (number + 1) texts))))
        one true = (apart entry n.0 n.1, rest n.1)
        one false = rest n.1

    go : (AreNoted table (statements_from (number + 1) texts) → NoneTwice (want_paths (statements_from (number + 1) texts)))
        → (b : Bool) → AreNoted table (cond b [] (stated number (entry_of text)) ++ statements_from (number + 1) texts) → NoneTwice (want_paths (cond b [] (stated number (entry_of text)) ++ statements_from (number + 1) texts))
    go rest true n = rest n
    go rest false n = read rest (entry_of text) n

-- the numbers of places are those of their paths
pub numbers_of : (table : Table) (leaves places : List ℕ) (numbers : List (Option ℕ)) → NoneTwice (paths_in table) → AreBelow (length table) leaves → AreBelow (length table) places
    → ((place : ℕ) → place < length table → get_or numbers place None ≡ position_from (nat_eq place) 0 leaves) → map (λ place. get_or numbers place None) places ≡ map (place_of (paths_to table leaves)) (paths_to table places)
numbers_of table leaves [] numbers once below within are = refl
numbers_of table leaves (place ∷ places) numbers once below within are =
    let inside : place < length table = within 0 (omega arith) in
    ap (λ (o : Option ℕ). o ∷ map (λ p. get_or numbers p None) places) (are place inside ∙ by_place table place 0 leaves once inside below)
    ∙ ap (λ (os : List (Option ℕ)). place_of (paths_to table leaves) (path_at table place) ∷ os) (numbers_of table leaves places numbers once below (λ k less. within (suc k) (omega arith)) are)

-- what is found is there
pub all_found : (leaves paths : List Path) (wants : List ℕ) → map Some wants ≡ map (place_of leaves) paths → AllByRecursion (λ want. want < length leaves) wants
all_found leaves paths [] e = tt
all_found leaves [] (want ∷ wants) e = cc
all_found leaves (path ∷ paths) (want ∷ wants) e =
    let one : place_of leaves path ≡ Some want = cc in
    let rest : map Some wants ≡ map (place_of leaves) paths = cc in
    ((found_at path leaves want one).0, all_found leaves paths wants rest)

unlike : (leaves paths : List Path) (wants : List ℕ) (path : Path) (want : ℕ) → place_of leaves path ≡ Some want → is_among paths path ≡ false → map Some wants ≡ map (place_of leaves) paths → AllByRecursion (λ other. nat_eq want other ≡ false) wants
unlike leaves paths [] path want at none e = tt
unlike leaves [] (other ∷ wants) path want at none e = cc
unlike leaves (q ∷ paths) (other ∷ wants) path want at none e =
    let one : place_of leaves q ≡ Some other = cc in
    let rest : map Some wants ≡ map (place_of leaves) paths = cc in
    let parts = or_parts (same_path path q) (is_among paths path) none in (
      false_from_ne_true (nat_eq want other) (λ same.
          let alike : path ≡ q = sym (found_at path leaves want at).1 ∙ ap (λ (n : ℕ). get_or leaves n []) (eqb-true want other same) ∙ (found_at q leaves other one).1 in
          true≢false (sym (same_self path) ∙ ap (same_path path) alike ∙ parts.0)),
      unlike leaves paths wants path want at parts.1 rest,
    )

-- no two wants are one leaf
pub wants_apart : (leaves paths : List Path) (wants : List ℕ) → NoneTwice paths → map Some wants ≡ map (place_of leaves) paths → IsDistinct nat_eq wants
wants_apart leaves paths [] once e = IsDistinct-from_apart nat_eq [] (λ i j d less within. absurd (omega arith))
wants_apart leaves [] (want ∷ wants) once e = cc
wants_apart leaves (path ∷ paths) (want ∷ wants) once e =
    let one : place_of leaves path ≡ Some want = cc in
    let rest : map Some wants ≡ map (place_of leaves) paths = cc in
    IsDistinct-cons nat_eq want wants (unlike leaves paths wants path want one once.0 rest) (wants_apart leaves paths wants once.1 rest)

pub place_there : (path : Path) (paths : List Path) → is_among paths path ≡ true → (n : ℕ) × (place_of paths path ≡ Some n) × (n < length paths)
place_there path paths h = go (place_of paths path) refl (any_is_some (same_path path) 0 paths ∙ h)
  where
    go : (o : Option ℕ) → place_of paths path ≡ o → is_some (place_of paths path) ≡ true → (n : ℕ) × (place_of paths path ≡ Some n) × (n < length paths)
    go None is e = absurd (true≢false (sym (sym (ap is_some is) ∙ e)))
    go (Some n) is e = (n, is, (found_at path paths n is).0)
