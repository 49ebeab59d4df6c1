-- The tree of lines without a fault has none but floors above a limit.
use Rattle.std.proofs.Common.{◌≡◌, ◌∙◌, ℕ, zero, suc, ◌<◌, ◌≤◌, ◌+◌, ◌||◌, ◌&&◌, not, nat_le, nat_lt, Bool, true, false, cond, List, [], ◌∷◌, ◌++◌, length, map, refl, sym, ap, arith, Option, Some, None, filter, get_or, inl, inr}
use Rattle.std.specs.List.{list_any}
use Rattle.std.proofs.lemmas.Bool.{or_cases, true≢false, false_from_ne_true}
use Rattle.std.proofs.lemmas.Bool.Decides.{nat_tests}
use Rattle.std.proofs.lemmas.List.{length-map}
use Rattle.limit_tree.specs.declared.place.NodeKind.{NodeKind}
use Rattle.limit_tree.specs.declared.place.NodeKind.TheVariants.{Branch, Leaf}
use Rattle.limit_tree.specs.declared.place.Place.{Place}
use Rattle.limit_tree.specs.declared.bounds.TheConstants.{MAX_DEPTH, MAX_LEAVES, MAX_NODES}
use Rattle.limit_tree.specs.declared.fault.TreeFault.{TreeFault}
use Rattle.limit_tree.specs.declared.fault.TreeFault.TheVariants.{TooDeep, TooManyLeaves}
use Rattle.limit_tree.specs.Outline.{is_leaf_kind, leaf_count, beside, behind, deeper}
use Rattle.limit_tree.specs.Faults.{first_fault, first_over, kind_fault, node_fault, or_else, over_limit}
use Rattle.sheet_text.specs.Paths.{NoneTwice, Path, is_among, same_path}
use Rattle.sheet_text.specs.Forest.{AreOver, is_want, kids_by, outline_at, tree_over}
use Rattle.sheet_text.specs.TreeLaw.{IsTreeOf, kids_in}
use Rattle.sheet_text.proofs.Within.{is_same, same_self}
use Rattle.sheet_text.proofs.Held.{is_tree}
use Rattle.sheet_text.proofs.TreeNodes.{among_each, among_filter, each_passes, filter_among, kids_are, once_filter}
use Rattle.sheet_text.proofs.WholeTrees.{tree_is}
use Rattle.sheet_text.specs.Table.{Table, mention_at, path_at, paths_in, want_count}
use Rattle.sheet_text.specs.Tree.{kind_in, line_in, line_of, node_paths, outline_of}
use Rattle.sheet_text.specs.Taken.{AreNoted, IsTaken, Stated, stated_paths}
use Rattle.sheet_text.proofs.Noted.{want_cons}
use Rattle.sheet_text.proofs.Tables.{count}
use Rattle.sheet_text.proofs.Trees.{kind_there}

-- no longer than another list that has all of it
filter_length : (test : Path → Bool) (ps : List Path) → length (filter test ps) ≤ length ps
filter_length test [] = omega arith
filter_length test (p ∷ ps) = go (test p) (filter_length test ps)
  where
    go : (b : Bool) → length (filter test ps) ≤ length ps → length (cond b (p ∷ filter test ps) (filter test ps)) ≤ suc (length ps)
    go true l = omega (arith, l)
    go false l = omega (arith, l)

filter_less : (test : Path → Bool) (x : Path) (ps : List Path) → test x ≡ false → is_among ps x ≡ true → length (filter test ps) < length ps
filter_less test x [] none e = absurd (true≢false (sym e))
filter_less test x (p ∷ ps) none e = go (same_path x p) refl (test p) refl (filter_less test x ps none) (filter_length test ps)
  where
    go : (b : Bool) → same_path x p ≡ b → (d : Bool) → test p ≡ d → (is_among ps x ≡ true → length (filter test ps) < length ps) → length (filter test ps) ≤ length ps → length (cond d (p ∷ filter test ps) (filter test ps)) < suc (length ps)
    go true is true at rest l = absurd (true≢false (sym at ∙ ap test (sym (is_same x p is)) ∙ none))
    go b is false at rest l = omega (arith, l)
    go false is true at rest l = omega (arith, rest (sym (ap (λ (b : Bool). b || is_among ps x) is) ∙ e))

not_longer : (xs ys : List Path) → NoneTwice xs → ((q : Path) → is_among xs q ≡ true → is_among ys q ≡ true) → length xs ≤ length ys
not_longer [] ys once f = omega arith
not_longer (x ∷ xs) ys once f =
    let test : Path → Bool = λ q. not (same_path x q) in
    let here : test x ≡ false = ap not (same_self x) in
    let there : is_among ys x ≡ true = f x (ap (λ (b : Bool). b || is_among xs x) (same_self x)) in
    let rest = not_longer xs (filter test ys) once.1 (λ q e.
    among_filter test ys q (f q (or_true (same_path q x) (is_among xs q) e))
    (ap not (false_from_ne_true (same_path x q) (λ h. true≢false (sym e ∙ ap (is_among xs) (sym (is_same x q h)) ∙ once.0))))) in
    omega (arith, rest, filter_less test x ys here there)
  where
    or_true : (a b : Bool) → b ≡ true → (a || b) ≡ true
    or_true true b e = refl
    or_true false b e = e

-- the wants of a table
wants_of : (kind : Path → NodeKind) (t : Table) → ((place : ℕ) → place < length t → kind (path_at t place) ≡ (mention_at t place).kind) → length (filter (is_want kind) (paths_in t)) ≡ want_count t
wants_of kind [] agree = refl
wants_of kind (m ∷ t) agree =
    let here : is_leaf_kind (kind m.path) ≡ is_leaf_kind m.kind = ap is_leaf_kind (agree 0 (omega arith)) in
    ap (λ (b : Bool). length (cond b (m.path ∷ filter (is_want kind) (paths_in t)) (filter (is_want kind) (paths_in t)))) here
    ∙ go (is_leaf_kind m.kind) (wants_of kind t (λ place l. agree (suc place) (omega (arith, l)))) ∙ sym (want_cons m t)
  where
    go : (b : Bool) → length (filter (is_want kind) (paths_in t)) ≡ want_count t → length (cond b (m.path ∷ filter (is_want kind) (paths_in t)) (filter (is_want kind) (paths_in t))) ≡ cond b 1 0 + want_count t
    go true l = omega (arith, l)
    go false l = omega (arith, l)

-- no node is deeper than its levels, and a leaf holds itself
abbrev IsLow : ℕ → Place → Type 0
IsLow levels o = (o.depth ≤ levels) × (is_leaf_kind o.kind ≡ true → o.leaves ≡ 1)

abbrev AreLow : ℕ → List Place → Type 0
AreLow levels [] = Unit {0}
AreLow levels (o ∷ os) = IsLow levels o × AreLow levels os

low_append : (levels : ℕ) (os rs : List Place) → AreLow levels os → AreLow levels rs → AreLow levels (os ++ rs)
low_append levels [] rs a b = b
low_append levels (o ∷ os) rs a b = (a.0, low_append levels os rs a.1 b)

low_behind : (levels n : ℕ) (os : List Place) → AreLow levels os → AreLow levels (map (behind n) os)
low_behind levels n [] a = tt
low_behind levels n (o ∷ os) a = ((a.0.0, a.0.1), low_behind levels n os a.1)

low_deeper : (levels : ℕ) (os : List Place) → AreLow levels os → AreLow (suc levels) (map deeper os)
low_deeper levels [] a = tt
low_deeper levels (o ∷ os) a = ((omega (arith, a.0.0), a.0.1), low_deeper levels os a.1)

low_beside : (levels : ℕ) (f : Path → List Place) (kids : List Path) → ((k : Path) → AreLow levels (f k)) → AreLow levels (beside (map f kids))
low_beside levels f [] each = tt
low_beside levels f (kid ∷ kids) each = low_append levels (f kid) (map (behind (leaf_count (f kid))) (beside (map f kids))) (each kid) (low_behind levels (leaf_count (f kid)) (beside (map f kids)) (low_beside levels f kids each))

low_alone : (kind : NodeKind) → AreLow 0 (tree_over kind [])
low_alone (Leaf want floor) = ((omega arith, λ e. refl), tt)
low_alone (Branch limit) = ((omega arith, λ e. absurd (true≢false (sym e))), tt)

low_over : (levels : ℕ) (kind : NodeKind) (f : Path → List Place) (kids : List Path) → ((k : Path) → AreLow levels (f k)) → AreLow (suc levels) (tree_over kind (map f (kids_by kind kids)))
low_over levels (Leaf want floor) f kids each = ((omega arith, λ e. refl), tt)
low_over levels (Branch limit) f kids each = ((omega arith, λ e. absurd (true≢false (sym e))), low_deeper levels (beside (map f kids)) (low_beside levels f kids each))

low_at : (kind : Path → NodeKind) (kids : Path → List Path) (levels : ℕ) (path : Path) → AreLow levels (outline_at kind kids levels path)
unfolding outline_at
low_at kind kids zero path = low_alone (kind path)
low_at kind kids (suc levels) path = low_over levels (kind path) (outline_at kind kids levels) (kids path) (low_at kind kids levels)

none_over : (depth nodes leaves : ℕ) (kind : NodeKind) → depth ≤ MAX_DEPTH → nodes < MAX_NODES → (is_leaf_kind kind ≡ true → leaves < MAX_LEAVES) → kind_fault kind ≡ None → node_fault depth nodes leaves kind ≡ None
none_over depth nodes leaves kind d n l sound =
    let shallow : nat_lt MAX_DEPTH depth ≡ false = grind (arith, nat_tests) in
    let few : nat_le MAX_NODES nodes ≡ false = grind (arith, nat_tests) in
    ap (λ (b : Bool). cond b (Some TooDeep) (cond (nat_le MAX_NODES nodes || (is_leaf_kind kind && nat_le MAX_LEAVES leaves)) (Some TooManyLeaves) (kind_fault kind))) shallow
    ∙ ap (λ (b : Bool). cond (b || (is_leaf_kind kind && nat_le MAX_LEAVES leaves)) (Some TooManyLeaves) (kind_fault kind)) few
    ∙ ap (λ (b : Bool). cond b (Some TooManyLeaves) (kind_fault kind)) (go (is_leaf_kind kind) l) ∙ sound
  where
    go : (b : Bool) → (b ≡ true → leaves < MAX_LEAVES) → (b && nat_le MAX_LEAVES leaves) ≡ false
    go false l = refl
    go true l = let less : leaves < MAX_LEAVES = l refl in grind (arith, nat_tests)

none_first : (kind : Path → NodeKind) (wants : List Path) (os : List Place) (ps : List Path) (nodes : ℕ) → ((p : Path) → kind_fault (kind p) ≡ None) → length wants ≤ MAX_LEAVES → nodes + length os ≤ MAX_NODES → AreLow MAX_DEPTH os → AreOver wants os ps
    → map (λ o. o.kind) os ≡ map kind ps → first_fault 0 nodes 0 os ≡ None
none_first kind wants [] ps nodes sound few many low over kinds = refl
none_first kind wants (o ∷ os) [] nodes sound few many low over kinds = absurd over
none_first kind wants (o ∷ os) (p ∷ ps) nodes sound few many low over kinds =
    let here : o.kind ≡ kind p = cc in
    let rest : map (λ o. o.kind) os ≡ map kind ps = cc in
    let own : node_fault (0 + o.depth) nodes (0 + o.first) o.kind ≡ None = none_over (0 + o.depth) nodes (0 + o.first) o.kind (omega (arith, low.0.0)) (omega (arith, many)) (λ e. omega (arith, low.0.1 e, over.0.within, few)) (ap kind_fault here ∙ sound p) in
    ap (λ (f : Option TreeFault). or_else f (first_fault 0 (nodes + 1) 0 os)) own ∙ none_first kind wants os ps (nodes + 1) sound few (omega (arith, many)) low.1 over.1 rest

-- the tree's nodes have no fault of their own
pub no_fault : (table : Table) (lines : List Stated) → IsTaken table lines → first_fault 0 0 0 (outline_of table) ≡ None
no_fault table lines are =
    let kind = kind_in table in
    let paths = paths_in table in
    let tree : IsTreeOf kind paths (outline_of table) (node_paths table) = tree_is kind paths MAX_DEPTH are.mentions_are in
    let once = are.mentions_are.apart in
    let over = (is_tree kind (kids_in paths) (kids_are paths once) MAX_DEPTH []).matches.over in
    let nodes = not_longer (node_paths table) paths tree.once (λ q e. sym (tree.all q) ∙ e) in
    let wants = not_longer (filter (is_want kind) (node_paths table)) (filter (is_want kind) paths) (once_filter (is_want kind) (node_paths table) tree.once) (λ q e. among_filter (is_want kind) paths q (sym (tree.all q) ∙ filter_among (is_want kind) (node_paths table) q e) (passes (is_want kind) (node_paths table) q e)) in
    let counted = wants_of kind table (λ place l. kind_there table place once l) in
    let many : length (outline_of table) ≡ length (node_paths table) = sym (length-map (outline_of table) (λ (o : Place). o.kind)) ∙ ap length tree.kinds ∙ length-map (node_paths table) kind in
    none_first kind (filter (is_want kind) (node_paths table)) (outline_of table) (node_paths table) 0 are.sound
    (omega (arith, wants, counted, are.few_wants))
    (omega (arith, nodes, many, count table, are.few_nodes))
    (low_at kind (kids_in paths) MAX_DEPTH [])
    over
    tree.kinds
  where
    passes : (test : Path → Bool) (ps : List Path) (q : Path) → is_among (filter test ps) q ≡ true → test q ≡ true
    passes test ps q e = among_each (λ p. test p ≡ true) (filter test ps) q (each_passes test ps) e

-- a branch over its limit has one
limited : (number floors : ℕ) (kind : NodeKind) (node : ℕ) → over_limit number floors kind ≡ Some node → (node ≡ number) × (limit : ℕ) × (kind ≡ Branch (Some limit))
limited number floors (Leaf want floor) node e = cc
limited number floors (Branch None) node e = cc
limited number floors (Branch (Some limit)) node e = go (nat_lt limit floors) e
  where
    go : (b : Bool) → cond b (Some number) None ≡ Some node → (node ≡ number) × (most : ℕ) × (Branch (Some limit) ≡ Branch (Some most))
    go true h = let same : number ≡ node = cc in (sym same, limit, refl)
    go false h = cc

over_at : (kind : Path → NodeKind) (os : List Place) (ps : List Path) (number node : ℕ) → map (λ o. o.kind) os ≡ map kind ps → first_over number os ≡ Some node → (k : ℕ) × (node ≡ number + k) × (limit : ℕ) × (kind (get_or ps k []) ≡ Branch (Some limit))
over_at kind [] ps number node kinds e = cc
over_at kind (o ∷ os) [] number node kinds e = cc
over_at kind (o ∷ os) (p ∷ ps) number node kinds e =
    let here : o.kind ≡ kind p = cc in
    let rest : map (λ o. o.kind) os ≡ map kind ps = cc in
    go here (over_limit number o.floors o.kind) refl (λ h. over_at kind os ps (number + 1) node rest h) e
  where
    go : o.kind ≡ kind p → (f : Option ℕ) → over_limit number o.floors o.kind ≡ f → (first_over (number + 1) os ≡ Some node → (k : ℕ) × (node ≡ number + 1 + k) × (limit : ℕ) × (kind (get_or ps k []) ≡ Branch (Some limit)))
        → or_else f (first_over (number + 1) os) ≡ Some node → (k : ℕ) × (node ≡ number + k) × (limit : ℕ) × (kind (get_or (p ∷ ps) k []) ≡ Branch (Some limit))
    go here (Some first) is further h =
        let got = limited number o.floors o.kind node (is ∙ h) in
        (0, omega (arith, got.0), got.1, sym here ∙ got.2)
    go here None is further h = let got = further h in (suc got.0, omega (arith, got.1), got.2, got.3)

-- a path that a line states has its line
stated_line : (table : Table) (lines : List Stated) (path : Path) → AreNoted table lines → list_any (same_path path) (stated_paths lines) ≡ true → (line : ℕ) × (line_in table path ≡ Some line)
stated_line table [] path noted e = absurd (true≢false (sym e))
stated_line table (s ∷ lines) path noted e = elim (or_cases (same_path path s.entry.path) (list_any (same_path path) (stated_paths lines)) e) [
  | inl here ↦ (s.line, ap (line_in table) (is_same path s.entry.path here) ∙ ap line_of noted.0)
  | inr further ↦ stated_line table lines path noted.1 further
]

pub over_stated : (table : Table) (lines : List Stated) (node : ℕ) → IsTaken table lines → map (λ o. o.kind) (outline_of table) ≡ map (kind_in table) (node_paths table) → first_over 0 (outline_of table) ≡ Some node
    → (line : ℕ) × (line_in table (get_or (node_paths table) node []) ≡ Some line)
over_stated table lines node are kinds e =
    let got = over_at (kind_in table) (outline_of table) (node_paths table) 0 node kinds e in
    let place : got.0 ≡ node = omega (arith, got.1) in
    let limited : kind_in table (get_or (node_paths table) node []) ≡ Branch (Some got.2) = ap (λ (k : ℕ). kind_in table (get_or (node_paths table) k [])) (sym place) ∙ got.3 in
    go (get_or (node_paths table) node []) got.2 limited (list_any (same_path (get_or (node_paths table) node [])) (stated_paths lines)) refl
  where
    go : (path : Path) (limit : ℕ) → kind_in table path ≡ Branch (Some limit) → (b : Bool) → list_any (same_path path) (stated_paths lines) ≡ b → (line : ℕ) × (line_in table path ≡ Some line)
    go path limit is true there = stated_line table lines path are.noted there
    go path limit is false none = let not_limited : Branch (Some limit) ≡ Branch None = sym is ∙ are.unstated path none in absurd (cc)
