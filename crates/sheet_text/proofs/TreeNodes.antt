-- The nodes of the tree over what is mentioned.
use Rattle.std.proofs.Common.{◌≡◌, ◌∙◌, ℕ, zero, suc, ◌<◌, ◌≤◌, ◌+◌, ◌||◌, ◌&&◌, Bool, true, false, cond, List, [], ◌∷◌, ◌++◌, length, refl, sym, ap, subst, arith, filter, flat_map, bytes_eq, inl, inr, eqb-true, eq-eqb}
use Rattle.std.specs.Prelude.{nat_eq}
use Rattle.std.proofs.lemmas.Bool.{and_parts, or_cases, or_left, or_right, true≢false, cases_lt}
use Rattle.std.proofs.lemmas.List.Folds.{list_any-append}
use Rattle.limit_tree.specs.declared.place.NodeKind.{NodeKind}
use Rattle.limit_tree.specs.declared.place.NodeKind.TheVariants.{Branch, Leaf}
use Rattle.limit_tree.specs.Outline.{is_leaf_kind}
use Rattle.sheet_text.specs.Paths.{Path, same_path, is_within, is_among, Each, NoneTwice}
use Rattle.sheet_text.specs.Forest.{AreKids, kids_by, paths_at}
use Rattle.sheet_text.specs.TreeLaw.{AreMentions, is_kid, kids_in}
use Rattle.sheet_text.proofs.Within.{same_name, same_self, is_same, within_same, within_length, each_append, each_map}
use Rattle.sheet_text.proofs.Over.{IsElsewhere}
use Rattle.sheet_text.proofs.Held.{is_tree, elsewhere_all}

passing : (b : Bool) (test : Path → Bool) (x : Path) (xs : List Path) → test x ≡ b → Each (λ y. test y ≡ true) xs → Each (λ y. test y ≡ true) (cond b (x ∷ xs) xs)
passing true test x xs e rest = (e, rest)
passing false test x xs e rest = rest

pub each_passes : (test : Path → Bool) (xs : List Path) → Each (λ x. test x ≡ true) (filter test xs)
each_passes test [] = tt
each_passes test (x ∷ xs) = passing (test x) test x (filter test xs) refl (each_passes test xs)

-- what is among a list has what each of it has
pub among_each : (P : Path → Type 0) (xs : List Path) (q : Path) → Each P xs → is_among xs q ≡ true → P q
among_each P [] q each e = absurd (true≢false (sym e))
among_each P (x ∷ xs) q each e = elim (or_cases (same_path q x) (is_among xs q) e) [
  | inl here ↦ subst P (sym (is_same q x here)) each.0
  | inr further ↦ among_each P xs q each.1 further
]

pub each_among : (ps xs : List Path) → ((q : Path) → is_among xs q ≡ true → is_among ps q ≡ true) → Each (λ q. is_among ps q ≡ true) xs
each_among ps [] f = tt
each_among ps (x ∷ xs) f = (f x (or_left (same_path x x) (is_among xs x) (same_self x)), each_among ps xs (λ q e. f q (or_right (same_path q x) (is_among xs q) e)))

among_kept : (b : Bool) (x q : Path) (xs : List Path) → is_among (cond b (x ∷ xs) xs) q ≡ true → (same_path q x || is_among xs q) ≡ true
among_kept true x q xs e = e
among_kept false x q xs e = or_right (same_path q x) (is_among xs q) e

pub filter_among : (test : Path → Bool) (xs : List Path) (q : Path) → is_among (filter test xs) q ≡ true → is_among xs q ≡ true
filter_among test [] q e = e
filter_among test (x ∷ xs) q e = elim (or_cases (same_path q x) (is_among (filter test xs) q) (among_kept (test x) x q (filter test xs) e)) [
  | inl here ↦ or_left (same_path q x) (is_among xs q) here
  | inr further ↦ or_right (same_path q x) (is_among xs q) (filter_among test xs q further)
]

kept_further : (b : Bool) (x q : Path) (xs : List Path) → is_among xs q ≡ true → is_among (cond b (x ∷ xs) xs) q ≡ true
kept_further true x q xs e = or_right (same_path q x) (is_among xs q) e
kept_further false x q xs e = e

pub among_filter : (test : Path → Bool) (xs : List Path) (q : Path) → is_among xs q ≡ true → test q ≡ true → is_among (filter test xs) q ≡ true
among_filter test [] q e t = e
among_filter test (x ∷ xs) q e t = elim (or_cases (same_path q x) (is_among xs q) e) [
  | inl here ↦ ap (λ (b : Bool). is_among (cond b (x ∷ filter test xs) (filter test xs)) q) (ap test (sym (is_same q x here)) ∙ t) ∙ or_left (same_path q x) (is_among (filter test xs) q) here
  | inr further ↦ kept_further (test x) x q (filter test xs) (among_filter test xs q further t)
]

false_unless : (b : Bool) → (b ≡ true → ⊥) → b ≡ false
false_unless true f = absurd (f refl)
false_unless false f = refl

once_kept : (b : Bool) (x : Path) (xs : List Path) → is_among xs x ≡ false → NoneTwice xs → NoneTwice (cond b (x ∷ xs) xs)
once_kept true x xs e once = (e, once)
once_kept false x xs e once = once

pub once_filter : (test : Path → Bool) (xs : List Path) → NoneTwice xs → NoneTwice (filter test xs)
once_filter test [] once = tt
once_filter test (x ∷ xs) once =
    once_kept (test x) x (filter test xs) (false_unless (is_among (filter test xs) x) (λ e. true≢false (sym (filter_among test xs x e) ∙ once.0))) (once_filter test xs once.1)

pub once_append : (xs ys : List Path) → NoneTwice xs → NoneTwice ys → Each (λ x. is_among ys x ≡ false) xs → NoneTwice (xs ++ ys)
once_append [] ys a b apart = b
once_append (x ∷ xs) ys a b apart =
    (list_any-append (same_path x) xs ys ∙ ap (λ (c : Bool). c || is_among ys x) a.0 ∙ apart.0, once_append xs ys a.1 b apart.1)

-- the kids of each path are kids
pub kids_are : (mentions : List Path) → NoneTwice mentions → (path : Path) → AreKids path (kids_in mentions path)
kids_are mentions once path = record {
  longer = each_map (λ kid. is_kid path kid ≡ true) (λ kid. (is_within path kid ≡ true) × (length kid ≡ length path + 1)) (kids_in mentions path)
      (λ kid e. let both = and_parts (is_within path kid) (nat_eq (length kid) (length path + 1)) e in (both.0, eqb-true (length kid) (length path + 1) both.1))
      (each_passes (is_kid path) mentions);
  apart = once_filter (is_kid path) mentions once;
}

each_kids : (P : Path → Type 0) (k : NodeKind) (kids : List Path) → Each P kids → Each P (kids_by k kids)
each_kids P (Leaf want floor) kids each = tt
each_kids P (Branch limit) kids each = each

once_kids : (k : NodeKind) (kids : List Path) → NoneTwice kids → NoneTwice (kids_by k kids)
once_kids (Leaf want floor) kids once = tt
once_kids (Branch limit) kids once = once

pub each_flat_map : (P Q : Path → Type 0) (g : Path → List Path) (kids : List Path) → ((k : Path) → P k → Each Q (g k)) → Each P kids → Each Q (flat_map g kids)
each_flat_map P Q g [] f each = tt
each_flat_map P Q g (kid ∷ kids) f each = each_append Q (g kid) (flat_map g kids) (f kid each.0) (each_flat_map P Q g kids f each.1)

-- each node is mentioned
pub nodes_mentioned : (kind : Path → NodeKind) (mentions : List Path) (levels : ℕ) (path : Path) → is_among mentions path ≡ true → Each (λ q. is_among mentions q ≡ true) (paths_at kind (kids_in mentions) levels path)
unfolding paths_at
nodes_mentioned kind mentions zero path e = (e, tt)
nodes_mentioned kind mentions (suc levels) path e = (
  e,
  each_flat_map (λ q. is_among mentions q ≡ true) (λ q. is_among mentions q ≡ true) (paths_at kind (kids_in mentions) levels) (kids_by (kind path) (kids_in mentions path))
      (λ q h. nodes_mentioned kind mentions levels q h)
      (each_kids (λ q. is_among mentions q ≡ true) (kind path) (kids_in mentions path) (each_among mentions (kids_in mentions path) (λ q h. filter_among (is_kid path) mentions q h))),
)

-- the path above another that is one name longer than a third
kid_over : Path → Path → Path
kid_over [] [] = []
kid_over [] (y ∷ q) = y ∷ []
kid_over (x ∷ p) [] = []
kid_over (x ∷ p) (y ∷ q) = y ∷ kid_over p q

kid_is : (p q : Path) → is_within p q ≡ true → length p < length q → (is_within p (kid_over p q) ≡ true) × (length (kid_over p q) ≡ length p + 1) × (is_within (kid_over p q) q ≡ true)
unfolding kid_over
kid_is [] [] e l = absurd (omega arith)
kid_is [] (y ∷ q) e l = (refl, omega arith, ap (λ (b : Bool). b && true) (same_name y))
kid_is (x ∷ p) [] e l = absurd (omega arith)
kid_is (x ∷ p) (y ∷ q) e l =
    let both = and_parts (bytes_eq x y) (is_within p q) e in
    let rest = kid_is p q both.1 (omega arith) in
    (ap (λ (b : Bool). b && is_within p (kid_over p q)) both.0 ∙ rest.0, omega (arith, rest.1), ap (λ (b : Bool). b && is_within (kid_over p q) q) (same_name y) ∙ rest.2)

among_flat_map : (g : Path → List Path) (kids : List Path) (kid q : Path) → is_among kids kid ≡ true → is_among (g kid) q ≡ true → is_among (flat_map g kids) q ≡ true
among_flat_map g [] kid q e h = absurd (true≢false (sym e))
among_flat_map g (x ∷ kids) kid q e h =
    list_any-append (same_path q) (g x) (flat_map g kids) ∙ elim (or_cases (same_path kid x) (is_among kids kid) e) [
      | inl here ↦ or_left (is_among (g x) q) (is_among (flat_map g kids) q) (ap (λ (k : Path). is_among (g k) q) (sym (is_same kid x here)) ∙ h)
      | inr further ↦ or_right (is_among (g x) q) (is_among (flat_map g kids) q) (among_flat_map g kids kid q further h)
    ]

among_kids : (k : NodeKind) (kids : List Path) (q : Path) → is_leaf_kind k ≡ false → is_among kids q ≡ true → is_among (kids_by k kids) q ≡ true
among_kids (Leaf want floor) kids q e h = absurd (true≢false e)
among_kids (Branch limit) kids q e h = h

-- each mentioned path within a path is a node there
pub mentioned_nodes : (kind : Path → NodeKind) (mentions : List Path) (depth : ℕ) → AreMentions kind mentions depth → (levels : ℕ) (p q : Path) → is_within p q ≡ true → is_among mentions q ≡ true → length q ≤ length p + levels → is_among (paths_at kind (kids_in mentions) levels p) q ≡ true
unfolding paths_at
mentioned_nodes kind mentions depth are zero p q w e l =
    let same : p ≡ q = within_same p q w (omega (arith, within_length p q w)) in
    or_left (same_path q p) false (ap (same_path q) same ∙ same_self q)
mentioned_nodes kind mentions depth are (suc levels) p q w e l = elim (cases_lt (length p) (length q)) [
  | inr here ↦
      let same : p ≡ q = within_same p q w (omega (arith, within_length p q w)) in
      or_left (same_path q p) _ (ap (same_path q) same ∙ same_self q)
  | inl less ↦
      let kid = kid_is p q w less in
      let listed : is_among mentions (kid_over p q) ≡ true = are.above (kid_over p q) q kid.2 e in
      let passes : is_kid p (kid_over p q) ≡ true = ap (λ (b : Bool). b && nat_eq (length (kid_over p q)) (length p + 1)) kid.0 ∙ eq-eqb (length (kid_over p q)) (length p + 1) kid.1 in
      or_right (same_path q p) _
      (among_flat_map (paths_at kind (kids_in mentions) levels) (kids_by (kind p) (kids_in mentions p)) (kid_over p q) q
      (among_kids (kind p) (kids_in mentions p) (kid_over p q) (are.branches p q w less e) (among_filter (is_kid p) mentions (kid_over p q) listed passes))
      (mentioned_nodes kind mentions depth are levels (kid_over p q) q kid.2 e (omega (arith, kid.1, l))))
]

-- no node twice
once_flat_map : (n : ℕ) (g : Path → List Path) (kids : List Path) → ((k : Path) → Each (λ q. is_within k q ≡ true) (g k)) → ((k : Path) → NoneTwice (g k)) → Each (λ k. length k ≡ n) kids → NoneTwice kids → NoneTwice (flat_map g kids)
once_flat_map n g [] within each same once = tt
once_flat_map n g (kid ∷ kids) within each same once =
    once_append (g kid) (flat_map g kids) (each kid) (once_flat_map n g kids within each same.1 once.1)
    (each_map (λ q. is_within kid q ≡ true) (λ q. is_among (flat_map g kids) q ≡ false) (g kid)
    (λ q w. false_unless (is_among (flat_map g kids) q) (λ h. true≢false (sym w ∙ (among_each (IsElsewhere kid) (flat_map g kids) q elsewhere h).0)))
    (within kid))
  where
    elsewhere : Each (IsElsewhere kid) (flat_map g kids)
    elsewhere = elsewhere_all kid kids g within (each_map (λ k. length k ≡ n) (λ k. length k ≡ length kid) kids (λ k h. h ∙ sym same.0) same.1) once.0

deeper_each : (path : Path) (g : Path → List Path) (kids : List Path) → ((k : Path) → Each (λ q. is_within k q ≡ true) (g k)) → Each (λ k. length k ≡ length path + 1) kids → Each (λ q. length path < length q) (flat_map g kids)
deeper_each path g kids within same =
    each_flat_map (λ k. length k ≡ length path + 1) (λ q. length path < length q) g kids
    (λ k h. each_map (λ q. is_within k q ≡ true) (λ q. length path < length q) (g k) (λ q w. omega (arith, h, within_length k q w)) (within k)) same

pub nodes_once : (kind : Path → NodeKind) (kids : Path → List Path) → ((path : Path) → AreKids path (kids path)) → (levels : ℕ) (path : Path) → NoneTwice (paths_at kind kids levels path)
unfolding paths_at
nodes_once kind kids are zero path = (refl, tt)
nodes_once kind kids are (suc levels) path =
    let g = paths_at kind kids levels in
    let within = λ (k : Path). (is_tree kind kids are levels k).within in
    let long = each_kids (λ k. length k ≡ length path + 1) (kind path) (kids path) (each_map (λ kid. (is_within path kid ≡ true) × (length kid ≡ length path + 1)) (λ kid. length kid ≡ length path + 1) (kids path) (λ q h. h.1) (are path).longer) in (
      false_unless (is_among (flat_map g (kids_by (kind path) (kids path))) path)
          (λ e. let less : length path < length path = among_each (λ q. length path < length q) (flat_map g (kids_by (kind path) (kids path))) path (deeper_each path g (kids_by (kind path) (kids path)) within long) e in absurd (omega arith)),
      once_flat_map (length path + 1) g (kids_by (kind path) (kids path)) within (nodes_once kind kids are levels) long (once_kids (kind path) (kids path) (are path).apart),
    )
