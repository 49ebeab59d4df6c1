-- The entries of one directory among all.
use Rattle.std.proofs.Common.{◌≡◌, ℕ, ◌<◌, Bool, true, false, cond, not, ◌&&◌, T, List, [], ◌∷◌, ◌++◌, length, map, filter, refl, sym, ap, subst, ◌∙◌, arith, Option, Some, None, nat_eq, is_some, Vec, Result, Ok, Err, IfOk}
use Rattle.std.proofs.lemmas.List.{append-nil}
use Rattle.std.proofs.lemmas.Map.Iter.{rest_all}
use Rattle.std.specs.Map.Iter.{TakesFirst}
use Rattle.std.specs.String.{string_bytes}
use borrow.Author.Tests.{eqb-true}
use Rattle.std.specs.declared.cmp.Ordering.{Ordering}
use Rattle.std.specs.declared.cmp.Ordering.TheVariants.{Less, Equal, Greater}
use Rattle.std.specs.declared.ops.Bound.TheVariants.{Included, Excluded}
use Rattle.std.specs.Cmp.Lexicographic.{slice_cmp, nat_list_cmp_total}
use Rattle.std.specs.Ordering.{nat_cmp, is_eq, is_lt, is_le, is_gt, ordering_then}
use Rattle.std.specs.BTreeMap.Range.{range_contains, entries_between, IsLeBy}
use Rattle.std.specs.List.{AllByRecursion}
use Rattle.std.specs.Cmp.{tied_itself}
use Rattle.std.specs.List.Sorted.{IsStrictlySortedBy}
use Rattle.std.specs.Map.{keys_of}
use Rattle.std.specs.FinMap.{entries, entries_sorted, from_entries, entries-insert, empty, len-entries, len-empty}
use Rattle.std.specs.FinMap.Entries.{put, by_order, is_sorted, below_all}
use Rattle.std.proofs.lemmas.Map.Keys.{sorted_head, sorted_tail}
use Rattle.virtual_path.specs.Path.{Path, parent_of}
use Rattle.virtual_tree.specs.Calls.{Entry, entry_of, entries_of, names_of}
use Rattle.virtual_tree.specs.declared.listed.ListedEntry.{ListedEntry}
use Rattle.memory_store.specs.Tree.{Node, PathKey, Tree, names_cmp, path_cmp, is_same, is_in, is_named, last_of, children_in, listing, reported_of}
use Rattle.memory_store.proofs.PathKeys.{path_cmp-push, ends_in_last}
use Rattle.memory_store.specs.Orders.{names_total, paths_total}
use Rattle.memory_store.proofs.Trees.{exact_names}

abbrev text_cmp : List ℕ → List ℕ → Ordering
text_cmp = slice_cmp nat_cmp

apart : (a b : ℕ) → a < b → a ≡ b → ⊥
apart a b less same = omega arith

-- the empty name is the first
least : (name : List ℕ) → is_le (text_cmp [] name) ≡ true
least [] = refl
least (octet ∷ name) = refl

no_path_below : (order : Ordering) (other : Path) → is_le order ≡ true → is_le (ordering_then order (names_cmp [] other)) ≡ true
no_path_below Less other h = refl
no_path_below Equal [] h = refl
no_path_below Equal (name ∷ other) h = refl
no_path_below Greater other h = h

-- a path and no other stands between it and itself with an empty name behind it
between : (path other : Path) → (is_le (names_cmp path other) && not (is_le (names_cmp (path ++ [] ∷ []) other))) ≡ is_same path other
between [] [] = refl
between [] (name ∷ other) = ap not (no_path_below (text_cmp [] name) other (least name))
between (name ∷ path) [] = refl
between (name ∷ path) (next ∷ other) =
    elim (text_cmp name next) as (λ order. (is_le (ordering_then order (names_cmp path other)) && not (is_le (ordering_then order (names_cmp (path ++ [] ∷ []) other)))) ≡ is_eq (ordering_then order (names_cmp path other))) [
      | Less ↦ refl
      | Equal ↦ between path other
      | Greater ↦ refl
    ]

-- an empty name decides nothing
first_name : (order : Ordering) (name : List ℕ) → is_le (ordering_then order (text_cmp [] name)) ≡ is_le order
first_name Less name = refl
first_name Equal [] = refl
first_name Equal (octet ∷ name) = refl
first_name Greater name = refl

never_root : (order : Ordering) → is_le (ordering_then order Greater) ≡ is_lt order
never_root Less = refl
never_root Equal = refl
never_root Greater = refl

after_root : (path : Path) → is_lt (names_cmp path []) ≡ false
after_root [] = refl
after_root (name ∷ path) = refl

some_name : (path : Path) (name : List ℕ) → names_cmp (path ++ name ∷ []) [] ≡ Greater
some_name [] name = refl
some_name (first ∷ path) name = refl

-- no entry stands at the root
not_the_root : (path : Path) (name : List ℕ) → is_le (path_cmp (path ++ name ∷ []) []) ≡ false
not_the_root path name =
    ap (λ order. is_le (ordering_then (names_cmp (parent_of (path ++ name ∷ [])) []) order)) (some_name path name)
    ∙ never_root (names_cmp (parent_of (path ++ name ∷ [])) [])
    ∙ after_root (parent_of (path ++ name ∷ []))

from_first : (path front : Path) (last : List ℕ) → is_le (path_cmp (path ++ [] ∷ []) (front ++ last ∷ [])) ≡ is_le (names_cmp path front)
from_first path front last = ap is_le (path_cmp-push path front [] last) ∙ first_name (names_cmp path front) last

abbrev first_of : Path → PathKey
first_of directory = directory ++ [] ∷ []

abbrev past_of : Path → PathKey
past_of directory = (directory ++ [] ∷ []) ++ [] ∷ []

abbrev is_between : Path → Path → Bool
is_between directory key = range_contains path_cmp (Included (first_of directory)) (Excluded (past_of directory)) key

-- the entries of a directory are those between these two path keys
pub in_directory : (directory : Path) (key : PathKey) → is_between directory key ≡ is_in directory key
in_directory directory [] = ap (λ b. b && not (is_le (path_cmp (past_of directory) []))) (not_the_root directory [])
in_directory directory (name ∷ names) =
    let front = parent_of (name ∷ names) in
    let last = last_of (name ∷ names) in
    ap (is_between directory) (ends_in_last name names)
    ∙ ap (λ b. b && not (is_le (path_cmp (past_of directory) (front ++ last ∷ [])))) (from_first directory front last)
    ∙ ap (λ b. is_le (names_cmp directory front) && not b) (from_first (first_of directory) front last)
    ∙ between directory front

filter_same : (p q : PathKey × Node → Bool) → ((e : PathKey × Node) → p e ≡ q e) → (es : List (PathKey × Node)) → filter p es ≡ filter q es
filter_same p q same [] = refl
filter_same p q same (e ∷ es) =
    ap (λ b. cond b (e ∷ filter p es) (filter p es)) (same e) ∙ ap (λ rest. cond (q e) (e ∷ rest) rest) (filter_same p q same es)

pub between_directory : (directory : Path) (es : List (PathKey × Node)) → entries_between path_cmp (Included (first_of directory)) (Excluded (past_of directory)) es ≡ filter (λ e. is_in directory e.0) es
between_directory directory es = filter_same _ _ (λ e. in_directory directory e.0) es

path_below : (path : Path) → names_cmp path (path ++ [] ∷ []) ≡ Less
path_below [] = refl
path_below (name ∷ path) = ap (λ order. ordering_then order (names_cmp path (path ++ [] ∷ []))) (tied_itself nat_list_cmp_total name) ∙ path_below path

pub bounds_forward : (directory : Path) → IsLeBy path_cmp (first_of directory) (past_of directory)
bounds_forward directory =
    ap is_gt (path_cmp-push directory (directory ++ [] ∷ []) [] [] ∙ ap (λ order. ordering_then order (text_cmp [] [])) (path_below directory))

no_entries : (es : List (PathKey × Node)) → length es ≡ 0 → es ≡ []
no_entries [] e = refl
no_entries (x ∷ es) e = absurd (omega arith)

put_first : (e : PathKey × Node) (es : List (PathKey × Node)) → AllByRecursion (λ key. path_cmp e.0 key ≡ Less) (keys_of es) → put path_cmp e.0 e.1 es ≡ e ∷ es
put_first e [] below = refl
put_first e (f ∷ es) below = ap (λ order. by_order order (e ∷ f ∷ es) ((f.0, e.1) ∷ es) (f ∷ put path_cmp e.0 e.1 es)) below.0

-- entries in order are those of the tree that they make
pub same_entries : (es : List (PathKey × Node)) → IsStrictlySortedBy path_cmp (keys_of es) → entries (from_entries {R = path_cmp} es) ≡ es
same_entries [] sorted = no_entries (entries empty) (sym (len-entries empty) ∙ len-empty path_cmp Node)
same_entries (e ∷ es) sorted =
    entries-insert paths_total (from_entries es) e.0 e.1
    ∙ ap (put path_cmp e.0 e.1) (same_entries es (sorted_tail path_cmp e.0 (keys_of es) sorted))
    ∙ put_first e es (sorted_head path_cmp e.0 (keys_of es) sorted)

pub range_forward : (directory : Path) (start end : PathKey) → start ≡ first_of directory → end ≡ past_of directory → is_gt (path_cmp start end) ≡ false
range_forward directory start end is past =
    ap (λ (p : PathKey). is_gt (path_cmp p end)) is ∙ ap (λ (p : PathKey). is_gt (path_cmp (first_of directory) p)) past ∙ bounds_forward directory

-- a range between these path keys has the children of the directory
pub range_has_children : (directory : Path) (start end : PathKey) (tree : Tree) (es found : List (PathKey × Node)) → start ≡ first_of directory → end ≡ past_of directory → IsStrictlySortedBy path_cmp (keys_of es) → from_entries {R = path_cmp} es ≡ tree
    → found ≡ entries_between path_cmp (Included start) (Excluded end) es → found ≡ children_in tree directory
range_has_children directory start end tree es found is past sorted view range =
    range ∙ ap (λ (p : PathKey). entries_between path_cmp (Included p) (Excluded end) es) is
    ∙ ap (λ (p : PathKey). entries_between path_cmp (Included (first_of directory)) (Excluded p) es) past
    ∙ between_directory directory es
    ∙ ap (filter (λ e. is_in directory e.0)) (sym (same_entries es sorted))
    ∙ ap (λ (t : Tree). children_in t directory) view

never_zero : (n : ℕ) → 0 < n → false ≡ nat_eq n 0
never_zero n more = elim (nat_eq n 0) as (λ b. nat_eq n 0 ≡ b → false ≡ b) [
  | true ↦ λ e. absurd (apart 0 n more (sym (eqb-true n 0 e)))
  | false ↦ λ _. refl
] refl

has_first : (x : PathKey × Node) (s t : List (PathKey × Node)) → s ≡ x ∷ t → 0 < length s
has_first x s t e = subst (λ (es : List (PathKey × Node)). 0 < length es) (sym e) (omega arith)

-- whether a first entry was found
found_first : {A : Type 0} (shows : A → PathKey × Node) (s t : List (PathKey × Node)) (r : Option A) → TakesFirst shows s r t → not (is_some r) ≡ nat_eq (length s) 0
found_first shows s t None is = ap (λ (es : List (PathKey × Node)). nat_eq (length es) 0) (sym is.0)
found_first shows s t (Some x) is = never_zero (length s) (has_first (shows x) s t is)

pub bare_answer : {A : Type 0} (shows : A → PathKey × Node) (s t : List (PathKey × Node)) (r : Option A) (bare : Bool) → TakesFirst shows s r t → is_some r ≡ not bare → bare ≡ nat_eq (length s) 0
bare_answer shows s t r true is e = sym (ap not e) ∙ found_first shows s t r is
bare_answer shows s t r false is e = sym (ap not e) ∙ found_first shows s t r is

pub reported_all : {A : Type 0} (shows : A → PathKey × Node) (reported all : List Entry) (s t : List (PathKey × Node)) (r : Option A) → reported ++ map reported_of (filter is_named s) ≡ all → r ≡ None → TakesFirst shows s r t → reported ≡ all
reported_all shows reported all s t r so_far is step = sym (append-nil reported) ∙ ap (λ es. reported ++ map reported_of (filter is_named es)) (sym (rest_all shows s t r is step)) ∙ so_far

-- ---- the names rise

names_reported : {A : Type 0} (listed : List (ListedEntry A)) → map (λ entry. string_bytes entry.name) listed ≡ map (λ (e : Entry). e.0) (map entry_of listed)
names_reported [] = refl
names_reported (entry ∷ listed) = ap (λ names. string_bytes entry.name ∷ names) (names_reported listed)

only_less : (order : Ordering) → T (is_lt order) → order ≡ Less
only_less Less h = refl
only_less Equal h = absurd h
only_less Greater h = absurd h

only_equal : (order : Ordering) → is_eq order ≡ true → order ≡ Equal
only_equal Less h = absurd (subst T (sym h) tt)
only_equal Equal h = refl
only_equal Greater h = absurd (subst T (sym h) tt)

-- a child's path is its directory's, and its name
child_path : (directory : Path) (key : PathKey) → is_in directory key ≡ true → key ≡ directory ++ last_of key ∷ []
child_path directory [] here = absurd (never here)
  where
    never : false ≡ true → ⊥
    never e = cc
child_path directory (name ∷ names) here =
    ends_in_last name names
    ∙ ap (λ (d : Path). d ++ last_of (name ∷ names) ∷ []) (sym (exact_names directory (parent_of (name ∷ names)) (only_equal (names_cmp directory (parent_of (name ∷ names))) here)))

-- in one directory the names are in the order of the path keys
name_below : (directory : Path) (p q : PathKey) → is_in directory p ≡ true → is_in directory q ≡ true → T (is_lt (path_cmp p q)) → text_cmp (last_of p) (last_of q) ≡ Less
name_below directory p q here there less =
    let one : path_cmp p q ≡ text_cmp (last_of p) (last_of q) =
    ap (λ (r : PathKey). path_cmp r q) (child_path directory p here)
    ∙ ap (path_cmp (directory ++ last_of p ∷ [])) (child_path directory q there)
    ∙ path_cmp-push directory directory (last_of p) (last_of q)
    ∙ ap (λ order. ordering_then order (text_cmp (last_of p) (last_of q))) (tied_itself names_total directory) in
    only_less (text_cmp (last_of p) (last_of q)) (subst (λ order. T (is_lt order)) one less)

abbrev shown_names : Path → List (PathKey × Node) → List (List ℕ)
shown_names directory es = map (λ (e : Entry). e.0) (map reported_of (filter is_named (filter (λ entry. is_in directory entry.0) es)))

first_part : (a b : Bool) → T (a && b) → T a
first_part true b h = tt
first_part false b h = absurd h

second_part : (a b : Bool) → T (a && b) → T b
second_part true b h = h
second_part false b h = absurd h

names_below : (directory : Path) (p : PathKey) (es : List (PathKey × Node)) → is_in directory p ≡ true → T (below_all path_cmp p es) → AllByRecursion (λ name. text_cmp (last_of p) name ≡ Less) (shown_names directory es)
names_below directory p [] here below = tt
names_below directory p (e ∷ es) here below =
    let rest = names_below directory p es here (second_part (is_lt (path_cmp p e.0)) (below_all path_cmp p es) below) in
    let children : List (PathKey × Node) = filter (λ entry. is_in directory entry.0) es in
    elim (is_in directory e.0) as (λ b. is_in directory e.0 ≡ b → AllByRecursion (λ name. text_cmp (last_of p) name ≡ Less) (map (λ (e : Entry). e.0) (map reported_of (filter is_named (cond b (e ∷ children) children))))) [
      | true ↦ λ there. elim (is_named e) as (λ b. AllByRecursion (λ name. text_cmp (last_of p) name ≡ Less) (map (λ (e : Entry). e.0) (map reported_of (cond b (e ∷ filter is_named children) (filter is_named children))))) [
        | true ↦ (name_below directory p e.0 here there (first_part (is_lt (path_cmp p e.0)) (below_all path_cmp p es) below), rest)
        | false ↦ rest
      ]
      | false ↦ λ _. rest
    ] refl

names_rise : (directory : Path) (es : List (PathKey × Node)) → T (is_sorted path_cmp es) → IsStrictlySortedBy text_cmp (shown_names directory es)
unfolding IsStrictlySortedBy
names_rise directory [] sorted = tt
names_rise directory (e ∷ es) sorted =
    let rest = names_rise directory es (second_part (below_all path_cmp e.0 es) (is_sorted path_cmp es) sorted) in
    let children : List (PathKey × Node) = filter (λ entry. is_in directory entry.0) es in
    elim (is_in directory e.0) as (λ b. is_in directory e.0 ≡ b → IsStrictlySortedBy text_cmp (map (λ (e : Entry). e.0) (map reported_of (filter is_named (cond b (e ∷ children) children))))) [
      | true ↦ λ there. elim (is_named e) as (λ b. IsStrictlySortedBy text_cmp (map (λ (e : Entry). e.0) (map reported_of (cond b (e ∷ filter is_named children) (filter is_named children))))) [
        | true ↦ (names_below directory e.0 es there (first_part (below_all path_cmp e.0 es) (is_sorted path_cmp es) sorted), rest)
        | false ↦ rest
      ]
      | false ↦ λ _. rest
    ] refl

-- what was listed rises
pub listing_rises : {A B : Type 0} (listed : Vec (ListedEntry A) B) (tree : Tree) (directory : Path) → entries_of listed ≡ listing tree directory → IsStrictlySortedBy text_cmp (names_of listed)
listing_rises listed tree directory is =
    subst (IsStrictlySortedBy text_cmp) (sym (names_reported listed.items ∙ ap (map (λ (e : Entry). e.0)) is)) (names_rise directory (entries tree) (entries_sorted tree))

pub listing_rises_where : {A B E : Type 0} (answer : Result (Vec (ListedEntry A) B) E) (tree : Tree) (directory : Path) → IfOk answer (λ listed. entries_of listed ≡ listing tree directory)
    → IfOk answer (λ listed. IsStrictlySortedBy text_cmp (names_of listed))
listing_rises_where (Ok listed) tree directory is = listing_rises listed tree directory is
listing_rises_where (Err error) tree directory is = tt
