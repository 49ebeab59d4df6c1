-- Finite maps from path keys, and the octets that they hold.
use Rattle.std.proofs.Common.{◌≡◌, ℕ, ◌+◌, ◌-◌, ◌≤◌, Bool, true, false, cond, T, List, [], ◌∷◌, length, map, refl, sym, ap, subst, ◌∙◌, arith, Some, None, sum_by, ◌&&◌, add-zero}
use Rattle.std.proofs.lemmas.List.Sums.{sum_by-cons}
use Rattle.std.specs.Cmp.{eq_by_cmp_equiv}
use Rattle.std.specs.Cmp.Lexicographic.{slice_cmp}
use Rattle.std.specs.declared.cmp.Ordering.{Ordering}
use Rattle.std.specs.declared.cmp.Ordering.TheVariants.{Less, Equal, Greater}
use Rattle.std.specs.Ordering.{nat_cmp, is_eq, is_lt, eq_by_cmp, ordering_then}
use Rattle.std.specs.BTreeMap.{is_at}
use Rattle.std.specs.Map.{lookup}
use Rattle.std.specs.FinMap.{get, insert, remove, empty, entries, from_entries, get-from_entries, get-insert, get-remove, same_map, entries-insert, get-entries, len-entries, len-empty, entries_sorted, IsAntisymmetric, slice_cmp-IsAntisymmetric, nat_cmp-IsAntisymmetric}
use Rattle.std.specs.FinMap.Entries.{find, put, is_sorted, by_order, below_all}
use Rattle.virtual_path.specs.Path.{parent_of}
use Rattle.memory_store.specs.Orders.{paths_total}
use Rattle.memory_store.specs.Tree.{Node, PathKey, Tree, names_cmp, path_cmp, size_of, size_at, total}

pub exact_texts : IsAntisymmetric (slice_cmp nat_cmp)
exact_texts = slice_cmp-IsAntisymmetric nat_cmp-IsAntisymmetric

pub exact_names : IsAntisymmetric names_cmp
exact_names = slice_cmp-IsAntisymmetric exact_texts

second_ties : (r s : Ordering) → ordering_then r s ≡ Equal → s ≡ Equal
second_ties Less s e = cc
second_ties Equal s e = e
second_ties Greater s e = cc

-- paths that compare alike are one
pub exact_paths : IsAntisymmetric path_cmp
exact_paths a b e = exact_names a b (second_ties (names_cmp (parent_of a) (parent_of b)) (names_cmp a b) e)

find_key : (es : List (PathKey × Node)) (q : PathKey) → find path_cmp q es ≡ lookup (is_at (path_cmp q)) es
find_key [] q = refl
find_key (e ∷ es) q = ap (cond (is_at (path_cmp q) e.0) (Some e.1)) (find_key es q)

-- what the tree of these entries has at a path key
pub get_key : (es : List (PathKey × Node)) (q : PathKey) → get (from_entries {R = path_cmp} es) q ≡ lookup (is_at (path_cmp q)) es
get_key es q = get-from_entries paths_total es q ∙ find_key es q

-- entries that differ at one path key make trees that differ there
pub one_put : (es fs : List (PathKey × Node)) (p : PathKey) (node : Node) → ((q : PathKey) → lookup (is_at (path_cmp q)) fs ≡ cond (is_at (path_cmp p) q) (Some node) (lookup (is_at (path_cmp q)) es)) → from_entries {R = path_cmp} fs ≡ insert (from_entries es) p node
one_put es fs p node h = same_map paths_total exact_paths _ _ (λ q.
    get_key fs q ∙ h q ∙ ap (λ b. cond b (Some node) (lookup (is_at (path_cmp q)) es)) ((eq_by_cmp_equiv paths_total).symm p q)
    ∙ sym (get-insert paths_total (from_entries es) p node q ∙ ap (cond (is_at (path_cmp q) p) (Some node)) (get_key es q)))

pub one_taken : (es fs : List (PathKey × Node)) (p : PathKey) → ((q : PathKey) → lookup (is_at (path_cmp q)) fs ≡ cond (is_at (path_cmp p) q) None (lookup (is_at (path_cmp q)) es)) → from_entries {R = path_cmp} fs ≡ remove (from_entries es) p
one_taken es fs p h = same_map paths_total exact_paths _ _ (λ q.
    get_key fs q ∙ h q ∙ ap (λ b. cond b None (lookup (is_at (path_cmp q)) es)) ((eq_by_cmp_equiv paths_total).symm p q)
    ∙ sym (get-remove paths_total (from_entries es) p q ∙ ap (cond (is_at (path_cmp q) p) None) (get_key es q)))

-- ---- sums

abbrev pub sizes : List (PathKey × Node) → ℕ
sizes [] = 0
sizes (e ∷ es) = size_of e.1 + sizes es

pub sizes_are : (es : List (PathKey × Node)) → sum_by size_of (map (λ e. e.1) es) ≡ sizes es
sizes_are [] = refl
sizes_are (e ∷ es) = sum_by-cons size_of e.1 (map (λ e. e.1) es) ∙ ap (λ n. size_of e.1 + n) (sizes_are es)

pub total_sizes : (tree : Tree) → total tree ≡ sizes (entries tree)
total_sizes tree = sizes_are (entries tree)

none_below : (p x : PathKey) (es : List (PathKey × Node)) → path_cmp p x ≡ Less → T (below_all path_cmp x es) → find path_cmp p es ≡ None
none_below p x [] less below = refl
none_below p x (e ∷ es) less below =
    elim (path_cmp x e.0) as (λ r. path_cmp x e.0 ≡ r → T (is_lt r && below_all path_cmp x es) → find path_cmp p (e ∷ es) ≡ None) [
      | Less ↦ λ next rest. ap (λ r. cond (is_eq r) (Some e.1) (find path_cmp p es)) (paths_total.trans p x e.0 less next) ∙ none_below p x es less rest
      | Equal ↦ λ next rest. absurd rest
      | Greater ↦ λ next rest. absurd rest
    ] refl below

sorted_parts : (a b : Bool) → T (a && b) → T a × T b
sorted_parts true b h = (tt, h)
sorted_parts false b h = absurd h

in_front : (a b c f : ℕ) → f ≡ 0 → a + (b + c) + f ≡ b + c + a
in_front a b c f none = omega arith

in_place_of : (a b c : ℕ) → a + c + b ≡ b + c + a
in_place_of a b c = omega arith

behind : (a s f t n : ℕ) → s + f ≡ t + n → a + s + f ≡ a + t + n
behind a s f t n rest = omega arith

sum-put : (p : PathKey) (node : Node) (es : List (PathKey × Node)) → T (is_sorted path_cmp es) → sizes (put path_cmp p node es) + size_at (find path_cmp p es) ≡ sizes es + size_of node
sum-put p node [] sorted = omega arith
sum-put p node (e ∷ es) sorted =
    let parts = sorted_parts (below_all path_cmp e.0 es) (is_sorted path_cmp es) sorted in
    elim (path_cmp p e.0) as (λ r. path_cmp p e.0 ≡ r → sizes (by_order r ((p, node) ∷ e ∷ es) ((e.0, node) ∷ es) (e ∷ put path_cmp p node es)) + size_at (cond (is_eq r) (Some e.1) (find path_cmp p es)) ≡ size_of e.1 + sizes es + size_of node) [
      | Less ↦ λ less. in_front (size_of node) (size_of e.1) (sizes es) _ (ap size_at (none_below p e.0 es less parts.0))
      | Equal ↦ λ same. in_place_of (size_of node) (size_of e.1) (sizes es)
      | Greater ↦ λ more. behind (size_of e.1) _ _ _ _ (sum-put p node es parts.1)
    ] refl

pub total-insert : (tree : Tree) (p : PathKey) (node : Node) → total (insert tree p node) + size_at (get tree p) ≡ total tree + size_of node
total-insert tree p node =
    ap (λ n. n + size_at (get tree p)) (total_sizes (insert tree p node))
    ∙ ap (λ es. sizes es + size_at (get tree p)) (entries-insert paths_total tree p node)
    ∙ ap (λ found. sizes (put path_cmp p node (entries tree)) + size_at found) (get-entries tree p)
    ∙ sum-put p node (entries tree) (entries_sorted tree)
    ∙ ap (λ n. n + size_of node) (sym (total_sizes tree))

-- to put back what was taken is to take nothing
put_back : (tree : Tree) (p : PathKey) (node : Node) → get tree p ≡ Some node → insert (remove tree p) p node ≡ tree
put_back tree p node is = same_map paths_total exact_paths _ _ (λ q.
    get-insert paths_total (remove tree p) p node q ∙ ap (cond (eq_by_cmp path_cmp q p) (Some node)) (get-remove paths_total tree p q) ∙ back q)
  where
    back : (q : PathKey) → cond (eq_by_cmp path_cmp q p) (Some node) (cond (eq_by_cmp path_cmp q p) None (get tree q)) ≡ get tree q
    back q = elim (path_cmp q p) as (λ r. path_cmp q p ≡ r → cond (is_eq r) (Some node) (cond (is_eq r) None (get tree q)) ≡ get tree q) [
      | Less ↦ λ _. refl
      | Equal ↦ λ same. sym is ∙ ap (get tree) (sym (exact_paths q p same))
      | Greater ↦ λ _. refl
    ] refl

taken_none : (tree : Tree) (p : PathKey) → get tree p ≡ None → remove tree p ≡ tree
taken_none tree p none = same_map paths_total exact_paths _ _ (λ q. get-remove paths_total tree p q ∙ stays q)
  where
    stays : (q : PathKey) → cond (eq_by_cmp path_cmp q p) None (get tree q) ≡ get tree q
    stays q = elim (path_cmp q p) as (λ r. path_cmp q p ≡ r → cond (is_eq r) None (get tree q) ≡ get tree q) [
      | Less ↦ λ _. refl
      | Equal ↦ λ same. sym none ∙ ap (get tree) (sym (exact_paths q p same))
      | Greater ↦ λ _. refl
    ] refl

gone : (tree : Tree) (p : PathKey) → get (remove tree p) p ≡ None
gone tree p = get-remove paths_total tree p p ∙ ap (λ b. cond b None (get tree p)) ((eq_by_cmp_equiv paths_total).refl p)

pub total-remove : (tree : Tree) (p : PathKey) → total (remove tree p) + size_at (get tree p) ≡ total tree
total-remove tree p = elim (get tree p) as (λ found. get tree p ≡ found → total (remove tree p) + size_at found ≡ total tree) [
  | None ↦ λ none. ap (λ t. total t + 0) (taken_none tree p none) ∙ add-zero (total tree)
  | Some node ↦ λ is.
      let sum = total-insert (remove tree p) p node in
      let back : total (insert (remove tree p) p node) ≡ total tree = ap total (put_back tree p node is) in
      let none : size_at (get (remove tree p) p) ≡ 0 = ap size_at (gone tree p) in
      omega arith
] refl

nothing_in : (es : List (PathKey × Node)) → length es ≡ 0 → sizes es ≡ 0
nothing_in [] none = refl
nothing_in (e ∷ es) none = absurd (omega arith)

pub total-empty : total empty ≡ 0
total-empty = total_sizes empty ∙ nothing_in (entries empty) (sym (len-entries empty) ∙ len-empty path_cmp Node)

no_more : (a f r s z : ℕ) → a + f ≡ r + z → r ≤ s → a ≤ z + s
no_more a f r s z sum rest = omega arith

-- the tree of some entries holds no more than they do
pub total-from_entries : (es : List (PathKey × Node)) → total (from_entries {R = path_cmp} es) ≤ sizes es
total-from_entries [] = subst (λ n. n ≤ 0) (sym total-empty) (omega arith)
total-from_entries (e ∷ es) =
    no_more _ (size_at (get (from_entries es) e.0)) (total (from_entries es)) (sizes es) (size_of e.1) (total-insert (from_entries es) e.0 e.1) (total-from_entries es)

-- ---- a count that is kept

within : (freed after all : ℕ) → after + freed ≡ all → freed ≤ all
within freed after all sum = omega arith

pub size_within : (tree : Tree) (p : PathKey) (stored freed : ℕ) → stored ≡ total tree → freed ≡ size_at (get tree p) → freed ≤ stored
size_within tree p stored freed is at = within freed (total (remove tree p)) stored (ap (λ n. total (remove tree p) + n) at ∙ total-remove tree p ∙ sym is)

counts : (stored freed all more after : ℕ) → after + freed ≡ all + more → stored ≡ all → freed ≤ stored → stored - freed + more ≡ after
counts stored freed all more after sum is less = omega arith

pub put_count : (tree : Tree) (p : PathKey) (node : Node) (stored freed more : ℕ) → stored ≡ total tree → freed ≡ size_at (get tree p) → more ≡ size_of node → stored - freed + more ≡ total (insert tree p node)
put_count tree p node stored freed more is at size =
    counts stored freed (total tree) more (total (insert tree p node))
    (ap (λ n. total (insert tree p node) + n) at ∙ total-insert tree p node ∙ ap (λ n. total tree + n) (sym size))
    is (size_within tree p stored freed is at)

-- ---- an entry at another path key

still_there : (tree : Tree) (from to : PathKey) (node : Node) → get tree from ≡ Some node → get (insert tree to node) from ≡ Some node
still_there tree from to node is = get-insert paths_total tree to node from ∙ either (eq_by_cmp path_cmp from to)
  where
    either : (b : Bool) → cond b (Some node) (get tree from) ≡ Some node
    either true = refl
    either false = is

same_total : (all with_both after size : ℕ) → with_both + 0 ≡ all + size → after + size ≡ with_both → all ≡ after
same_total all with_both after size put taken = omega arith

pub shift_total : (tree : Tree) (from to : PathKey) (node : Node) → get tree from ≡ Some node → get tree to ≡ None → total tree ≡ total (remove (insert tree to node) from)
shift_total tree from to node stands vacant =
    same_total (total tree) (total (insert tree to node)) (total (remove (insert tree to node) from)) (size_of node)
    (ap (λ found. total (insert tree to node) + size_at found) (sym vacant) ∙ total-insert tree to node)
    (ap (λ found. total (remove (insert tree to node) from) + size_at found) (sym (still_there tree from to node stands)) ∙ total-remove (insert tree to node) from)
