-- Where entries stand after a rename.
use Rattle.std.proofs.Common.{◌≡◌, ◌≢◌, ◌↔◌, ℕ, ◌+◌, ◌<◌, ◌≤◌, Bool, true, false, cond, ◌||◌, List, [], ◌∷◌, ◌++◌, length, map, take, drop, refl, sym, ap, subst, ◌∙◌, arith, Option, Some, None, nat_eq, slice_index, append_assoc, zero-add, add-zero, add_assoc, ◌^◌}
use Rattle.std.proofs.lemmas.List.{append-nil, append_cancel_left, take-append-drop}
use Rattle.std.proofs.Math.Seq.{take-append_seam, drop-append_seam}
use Rattle.std.specs.Cmp.{tied_itself}
use Rattle.std.specs.Cmp.Lexicographic.{slice_cmp}
use Rattle.std.specs.declared.cmp.Ordering.{Ordering}
use Rattle.std.specs.declared.cmp.Ordering.TheVariants.{Less, Equal, Greater}
use Rattle.std.specs.Ordering.{nat_cmp, is_eq, eq_by_cmp, ordering_then}
use Rattle.std.specs.Str.Pattern.{StripsPrefix, FindsTextPrefix}
use Rattle.std.specs.Map.Iter.{TakesLast}
use Rattle.std.specs.Map.{keys_of}
use Rattle.std.specs.List.Sorted.{IsStrictlySortedBy}
use Rattle.std.specs.FinMap.{get, insert, from_entries}
use Rattle.virtual_path.specs.Path.{Path, slashed, IsBeneath}
use Rattle.virtual_path.proofs.Beneath.{rest_beneath, beneath_rest}
use Rattle.virtual_path.proofs.Texts.{slashed-append}
use Rattle.memory_store.specs.Tree.{Node, PathKey, Tree, names_cmp, path_cmp, is_same, size_of, size_at, total, begins_with, moved, moved_entry, last_of}
use Rattle.memory_store.proofs.Listings.{same_entries}
use Rattle.memory_store.proofs.PathKeys.{IsPlain, last_of-push}
use Rattle.memory_store.specs.Orders.{names_total, paths_total}
use Rattle.memory_store.proofs.Trees.{exact_texts, exact_names, exact_paths, sizes, total-insert, total-from_entries, total_sizes}

only_equal : (order : Ordering) → is_eq order ≡ true → order ≡ Equal
only_equal Less h = cc
only_equal Equal h = refl
only_equal Greater h = cc

same_names : (a b : Path) → is_same a b ≡ true → a ≡ b
same_names a b e = exact_names a b (only_equal (names_cmp a b) e)

same_itself : (path : Path) → is_same path path ≡ true
same_itself path = ap is_eq (tied_itself names_total path)

-- ---- what a path begins with

-- what begins with a path is that path and more
pub begins_from : (front path : Path) → begins_with front path ≡ true → path ≡ front ++ drop (length front) path
begins_from front path is =
    sym (take-append-drop (length front) path) ∙ ap (λ (p : Path). p ++ drop (length front) path) (same_names (take (length front) path) front is)

pub begins-append : (front rest : Path) → begins_with front (front ++ rest) ≡ true
begins-append front rest = ap (λ (p : Path). is_same p front) (take-append_seam front rest) ∙ same_itself front

-- what is told of a path that is beneath another
pub begins_if_beneath : (path front : Path) (r : Bool) → (r ≡ true) ↔ IsBeneath path front → r ≡ begins_with front path
begins_if_beneath path front true is = let below = is.0 refl in sym (ap (begins_with front) below.1 ∙ begins-append front below.0)
begins_if_beneath path front false is = elim (begins_with front path) as (λ b. begins_with front path ≡ b → false ≡ b) [
  | true ↦ λ begins. is.1 (drop (length front) path, begins_from front path begins)
  | false ↦ λ _. refl
] refl

first_differs : (name : List ℕ) (front : Path) → name ∷ front ≢ name ∷ [] → is_same (take (length front) []) front ≡ false
first_differs name [] other = absurd (other refl)
first_differs name (next ∷ front) other = refl

-- one more name does not decide, but where it ends what is looked for
begins-push : (front path : Path) (name : List ℕ) → front ≢ path ++ name ∷ [] → begins_with front (path ++ name ∷ []) ≡ begins_with front path
begins-push [] path name other = refl
begins-push (first ∷ front) [] name other =
    elim (slice_cmp nat_cmp name first) as (λ order. slice_cmp nat_cmp name first ≡ order → is_eq (ordering_then order (names_cmp (take (length front) []) front)) ≡ false) [
      | Less ↦ λ _. refl
      | Equal ↦ λ tie. first_differs name front (λ e. other (ap (λ (n : List ℕ). n ∷ front) (sym (exact_texts name first tie)) ∙ e))
      | Greater ↦ λ _. refl
    ] refl
begins-push (first ∷ front) (next ∷ path) name other =
    elim (slice_cmp nat_cmp next first) as (λ order. slice_cmp nat_cmp next first ≡ order
    → is_eq (ordering_then order (names_cmp (take (length front) (path ++ name ∷ [])) front)) ≡ is_eq (ordering_then order (names_cmp (take (length front) path) front))) [
      | Less ↦ λ _. refl
      | Equal ↦ λ tie. begins-push front path name (λ e. other (ap (λ (n : List ℕ). n ∷ front) (sym (exact_texts next first tie)) ∙ ap (λ (p : Path). next ∷ p) e))
      | Greater ↦ λ _. refl
    ] refl

-- ---- where an entry stands after a rename

pub moved_itself : (from to path : Path) → from ≡ path → to ≡ moved from to path
moved_itself from to path same = itself ∙ ap (moved from to) same
  where
    whole : begins_with from from ≡ true
    whole = ap (begins_with from) (sym (append-nil from)) ∙ begins-append from []

    none : drop (length from) from ≡ []
    none = ap (drop (length from)) (sym (append-nil from)) ∙ drop-append_seam from []

    itself : to ≡ moved from to from
    itself = sym (append-nil to) ∙ ap (λ (rest : Path). to ++ rest) (sym none)
        ∙ ap (λ b. cond b (to ++ drop (length from) from) from) (sym whole)

pub moved_not : (from to directory : Path) (name : List ℕ) → from ≢ directory ++ name ∷ [] → begins_with from directory ≡ false → directory ++ name ∷ [] ≡ moved from to (directory ++ name ∷ [])
moved_not from to directory name other is =
    ap (λ b. cond b (to ++ drop (length from) (directory ++ name ∷ [])) (directory ++ name ∷ [])) (sym (begins-push from directory name other ∙ is))

drop-push : (from directory : Path) (name : List ℕ) → begins_with from directory ≡ true → drop (length from) (directory ++ name ∷ []) ≡ drop (length from) directory ++ name ∷ []
drop-push from directory name is =
    ap (λ (d : Path). drop (length from) (d ++ name ∷ [])) (begins_from from directory is)
    ∙ ap (drop (length from)) (append_assoc from (drop (length from) directory) (name ∷ []))
    ∙ drop-append_seam from (drop (length from) directory ++ name ∷ [])

pub moved_under : (from to directory : Path) (name : List ℕ) → from ≢ directory ++ name ∷ [] → begins_with from directory ≡ true → (to ++ drop (length from) directory) ++ name ∷ [] ≡ moved from to (directory ++ name ∷ [])
moved_under from to directory name other is =
    append_assoc to (drop (length from) directory) (name ∷ [])
    ∙ ap (λ (rest : Path). to ++ rest) (sym (drop-push from directory name is))
    ∙ ap (λ b. cond b (to ++ drop (length from) (directory ++ name ∷ [])) (directory ++ name ∷ [])) (sym (begins-push from directory name other ∙ is))

pub stays : (from to directory : Path) (name : List ℕ) (key : PathKey) → directory ++ name ∷ [] ≡ key → from ≢ key → begins_with from directory ≡ false → key ≡ moved from to key
stays from to directory name key view other is =
    sym view ∙ moved_not from to directory name (λ e. other (e ∙ view)) is ∙ ap (moved from to) view

pub goes_along : (from to directory : Path) (name : List ℕ) (key : PathKey) → directory ++ name ∷ [] ≡ key → from ≢ key → begins_with from directory ≡ true → (to ++ drop (length from) directory) ++ last_of key ∷ [] ≡ moved from to key
goes_along from to directory name key view other is =
    ap (λ (t : List ℕ). (to ++ drop (length from) directory) ++ t ∷ []) (ap last_of (sym view) ∙ last_of-push directory name)
    ∙ moved_under from to directory name (λ e. other (e ∙ view)) is
    ∙ ap (moved from to) view

pub equal_keys : (a b : PathKey) → eq_by_cmp path_cmp a b ≡ true → a ≡ b
equal_keys a b e = exact_paths a b (only_equal (path_cmp a b) e)

pub unequal_keys : (a b : PathKey) → eq_by_cmp path_cmp a b ≡ false → a ≢ b
unequal_keys a b e same = never (sym e ∙ ap (eq_by_cmp path_cmp a) (sym same) ∙ ap is_eq (tied_itself paths_total a))
  where
    never : false ≡ true → ⊥
    never e = cc

-- ---- a directory's text in front of another one

abbrev ends : List ℕ → Bool
ends rest = nat_eq (length rest) 0 || nat_eq (slice_index rest 0) 47

pub not_under : (directory text : List ℕ) → ((rest : List ℕ) → text ≢ directory ++ rest) → (front path : Path) → directory ≡ slashed front → text ≡ slashed path → begins_with front path ≡ false
not_under directory text none front path is are = elim (begins_with front path) as (λ b. begins_with front path ≡ b → b ≡ false) [
  | true ↦ λ under. absurd (none (slashed (drop (length front) path))
      (are ∙ ap slashed (begins_from front path under) ∙ slashed-append front (drop (length front) path) ∙ ap (λ t. t ++ slashed (drop (length front) path)) (sym is)))
  | false ↦ λ _. refl
] refl

whole_text : (directory text rest : List ℕ) (front path : Path) → text ≡ directory ++ rest → directory ≡ slashed front → text ≡ slashed path → slashed path ≡ slashed front ++ rest
whole_text directory text rest front path whole is are = sym are ∙ whole ∙ ap (λ t. t ++ rest) is

pub under : (directory text rest : List ℕ) → text ≡ directory ++ rest → ends rest ≡ true → (front path : Path) → IsPlain front → IsPlain path → directory ≡ slashed front → text ≡ slashed path
    → (begins_with front path ≡ true) × (rest ≡ slashed (drop (length front) path))
under directory text rest whole end front path plain plain_path is are =
    let e = whole_text directory text rest front path whole is are in
    let below = rest_beneath path front rest plain_path plain e end in
    let begins : begins_with front path ≡ true = ap (begins_with front) below.1 ∙ begins-append front below.0 in (
      begins,
      append_cancel_left (slashed front) rest (slashed (drop (length front) path))
          (sym e ∙ ap slashed (begins_from front path begins) ∙ slashed-append front (drop (length front) path)),
    )

pub goes_on : (directory text rest : List ℕ) → text ≡ directory ++ rest → ends rest ≡ false → (front path : Path) → directory ≡ slashed front → text ≡ slashed path → begins_with front path ≡ false
goes_on directory text rest whole end front path is are =
    let e = whole_text directory text rest front path whole is are in
    elim (begins_with front path) as (λ b. begins_with front path ≡ b → b ≡ false) [
      | true ↦ λ under. absurd (both (sym end ∙ beneath_rest path front rest e (drop (length front) path, begins_from front path under)))
      | false ↦ λ _. refl
    ] refl
  where
    both : false ≡ true → ⊥
    both e = cc

-- what strip_prefix answers
pub stripped : (directory text rest : List ℕ) → StripsPrefix (FindsTextPrefix directory) text rest → text ≡ directory ++ rest
stripped directory text rest is = is.1.1 ∙ ap (λ (t : List ℕ). directory ++ t) (sym is.2)

last_entry : {A : Type 0} (shows : A → PathKey × Node) (s t : List (PathKey × Node)) (r : Option A) (x : A) → r ≡ Some x → TakesLast shows s r t → s ≡ t ++ shows x ∷ []
last_entry shows s t None x is step = absurd (nothing x is)
  where
    nothing : {A : Type 0} (x : A) → None ≡ Some x → ⊥
    nothing x e = cc
last_entry shows s t (Some y) x is step = step ∙ ap (λ e. t ++ shows e ∷ []) (same y x is)
  where
    same : {A : Type 0} (y x : A) → Some y ≡ Some x → y ≡ x
    same y x e = cc

pub parts_of_all : {A : Type 0} (shows : A → PathKey × Node) (all s t done : List (PathKey × Node)) (r : Option A) (x : A) → all ≡ s ++ done → r ≡ Some x → TakesLast shows s r t → all ≡ (t ++ shows x ∷ []) ++ done
parts_of_all shows all s t done r x is found step = is ∙ ap (λ (es : List (PathKey × Node)). es ++ done) (last_entry shows s t r x found step)

pub none_left : {A : Type 0} (shows : A → PathKey × Node) (all s t done : List (PathKey × Node)) (r : Option A) → all ≡ s ++ done → r ≡ None → TakesLast shows s r t → done ≡ all
none_left shows all s t done None is found step = sym (is ∙ ap (λ (es : List (PathKey × Node)). es ++ done) step.0)
none_left shows all s t done (Some x) is found step = absurd (something x found)
  where
    something : {A : Type 0} (x : A) → Some x ≡ None → ⊥
    something x e = cc

pub whole_sizes : (tree : Tree) (es : List (PathKey × Node)) (stored : ℕ) → IsStrictlySortedBy path_cmp (keys_of es) → from_entries {R = path_cmp} es ≡ tree → stored ≡ total (from_entries {R = path_cmp} es) → sizes es ≡ stored
whole_sizes tree es stored sorted view is = ap sizes (sym (same_entries es sorted)) ∙ sym (total_sizes (from_entries {R = path_cmp} es)) ∙ sym is

-- ---- all entries, moved

sizes-append : (es fs : List (PathKey × Node)) → sizes (es ++ fs) ≡ sizes es + sizes fs
sizes-append [] fs = sym (zero-add (sizes fs))
sizes-append (e ∷ es) fs = ap (λ n. size_of e.1 + n) (sizes-append es fs) ∙ sym (add_assoc (size_of e.1) (sizes es) (sizes fs))

sizes-moved : (from to : Path) (es : List (PathKey × Node)) → sizes (map (moved_entry from to) es) ≡ sizes es
sizes-moved from to [] = refl
sizes-moved from to (e ∷ es) = ap (λ n. size_of e.1 + n) (sizes-moved from to es)

small : (after at held moved size front all bound : ℕ) → after + at ≡ held + size → held ≤ moved → front + size + moved ≡ all → all < bound → after < bound
small after at held moved size front all bound put less sum bounded = omega arith

sum_of_parts : (rest done es : List (PathKey × Node)) (x : PathKey × Node) → es ≡ (rest ++ x ∷ []) ++ done → sizes rest + size_of x.1 + sizes done ≡ sizes es
sum_of_parts rest done es x e =
    ap (λ n. sizes rest + n + sizes done) (sym (add-zero (size_of x.1)))
    ∙ ap (λ n. n + sizes done) (sym (sizes-append rest (x ∷ [])))
    ∙ sym (sizes-append (rest ++ x ∷ []) done)
    ∙ ap sizes (sym e)

-- there is room for one more entry
pub put_fits : (from to : Path) (rest done es : List (PathKey × Node)) (x : PathKey × Node) (tree : Tree) (stored : ℕ) → es ≡ (rest ++ x ∷ []) ++ done → tree ≡ from_entries {R = path_cmp} (map (moved_entry from to) done) → sizes es ≡ stored → stored < 2 ^ 64
    → total (insert tree (moved from to x.0) x.1) < 2 ^ 64
put_fits from to rest done es x tree stored e is all bound =
    small (total (insert tree (moved from to x.0) x.1)) (size_at (get tree (moved from to x.0))) (total tree) (sizes done) (size_of x.1) (sizes rest) stored (2 ^ 64)
    (total-insert tree (moved from to x.0) x.1)
    (subst (λ (t : Tree). total t ≤ sizes done) (sym is) (subst (λ n. total (from_entries {R = path_cmp} (map (moved_entry from to) done)) ≤ n) (sizes-moved from to done) (total-from_entries (map (moved_entry from to) done))))
    (sum_of_parts rest done es x e ∙ all)
    bound
