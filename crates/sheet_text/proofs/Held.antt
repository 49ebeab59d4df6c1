-- Each branch of the tree over paths holds just the wants within its path.
use Rattle.std.proofs.Common.{◌≡◌, ◌∙◌, ℕ, zero, suc, ◌<◌, ◌+◌, ◌||◌, Bool, true, false, cond, List, [], ◌∷◌, map, length, get_or, refl, sym, ap, subst, arith, filter, flat_map, Option}
use Rattle.std.proofs.lemmas.Bool.{true≢false}
use Rattle.std.proofs.lemmas.Bool.Decides.{nat_tests}
use Rattle.limit_tree.specs.declared.place.NodeKind.{NodeKind}
use Rattle.limit_tree.specs.declared.place.NodeKind.TheVariants.{Branch, Leaf}
use Rattle.limit_tree.specs.declared.place.Place.{Place}
use Rattle.limit_tree.specs.Outline.{is_leaf_kind, leaf_range, leaf_count, leaf_alone, branch_over, beside, deeper}
use Rattle.limit_tree.proofs.Places.{leaf_count-cons, leaf_count-deeper}
use Rattle.sheet_text.specs.Paths.{Path, same_path, is_within, is_among, Each, NoneTwice}
use Rattle.sheet_text.specs.Forest.{AreOver, AreKids, tree_over, kids_by, outline_at, paths_at, is_want}
use Rattle.sheet_text.proofs.Within.{same_self, within_self, within_same, within_trans, within_shorter, within_length, each_at, each_filter, each_append, each_map}
use Rattle.sheet_text.proofs.Over.{Matches, IsElsewhere, all_deeper, beside_one}

range_all : (leaves i : ℕ) → i < leaves → leaf_range 0 leaves i ≡ true
range_all leaves i l = grind (arith, nat_tests)

abbrev AreWithin : Path → List Path → Type 0
AreWithin path ps = Each (λ p. is_within path p ≡ true) ps

-- a path of another kid's tree
elsewhere_one : (kid other q : Path) → length other ≡ length kid → same_path kid other ≡ false → is_within other q ≡ true → IsElsewhere kid q
elsewhere_one kid other q l apart within = (go (is_within kid q) refl, omega (arith, l, within_length other q within))
  where
    go : (b : Bool) → is_within kid q ≡ b → b ≡ false
    go false e = refl
    go true e =
        let same : kid ≡ other = within_same kid other (within_shorter kid other q e within (omega arith)) (sym l) in
        absurd (true≢false (sym (ap (same_path kid) (sym same) ∙ same_self kid) ∙ apart))

or_false : (a b : Bool) → (a || b) ≡ false → (a ≡ false) × (b ≡ false)
or_false true b e = absurd (true≢false e)
or_false false b e = (refl, e)

pub elsewhere_all : (kid : Path) (kids : List Path) (g : Path → List Path) → ((k : Path) → AreWithin k (g k)) → Each (λ k. length k ≡ length kid) kids → is_among kids kid ≡ false → Each (IsElsewhere kid) (flat_map g kids)
elsewhere_all kid [] g within same apart = tt
elsewhere_all kid (other ∷ kids) g within same apart =
    let both = or_false (same_path kid other) (is_among kids kid) apart in
    each_append (IsElsewhere kid) (g other) (flat_map g kids)
    (each_map (λ q. is_within other q ≡ true) (IsElsewhere kid) (g other) (λ q e. elsewhere_one kid other q same.0 both.0 e) (within other))
    (elsewhere_all kid kids g within same.1 both.1)

alike : (n : ℕ) (path : Path) (kids : List Path) → length path ≡ n → Each (λ k. length k ≡ n) kids → Each (λ k. length k ≡ length path) kids
alike n path kids e each = each_map (λ k. length k ≡ n) (λ k. length k ≡ length path) kids (λ k h. h ∙ sym e) each

-- trees side by side, at kids that are apart
pub all_beside_kids : (want : Path → Bool) (n : ℕ) (kids : List Path) (f : Path → List Place) (g : Path → List Path) → ((k : Path) → Matches want (f k) (g k)) → ((k : Path) → AreWithin k (g k)) → Each (λ k. length k ≡ n) kids → NoneTwice kids → Matches want (beside (map f kids)) (flat_map g kids)
all_beside_kids want n [] f g one within same apart = record { over = tt; count = refl }
all_beside_kids want n (kid ∷ kids) f g one within same apart =
    beside_one want kid (f kid) (beside (map f kids)) (g kid) (flat_map g kids) (one kid) (within kid)
    (all_beside_kids want n kids f g one within same.1 apart.1)
    (elsewhere_all kid kids g within (alike n kid kids same.0 same.1) apart.0)

within_kids : (path : Path) (kids : List Path) (g : Path → List Path) → ((k : Path) → AreWithin k (g k)) → Each (λ k. is_within path k ≡ true) kids → AreWithin path (flat_map g kids)
within_kids path [] g within beneath = tt
within_kids path (kid ∷ kids) g within beneath =
    each_append (λ q. is_within path q ≡ true) (g kid) (flat_map g kids)
    (each_map (λ q. is_within kid q ≡ true) (λ q. is_within path q ≡ true) (g kid) (λ q e. within_trans path kid q beneath.0 e) (within kid))
    (within_kids path kids g within beneath.1)

-- a branch over what matches
over_branch : (want : Path → Bool) (path : Path) (limit : Option ℕ) (n : ℕ) (below : List Place) (qs : List Path) → want path ≡ false → Matches want below qs → AreWithin path qs → Matches want (branch_over limit n below ∷ map deeper below) (path ∷ qs)
over_branch want path limit n below qs none matches within = record {
  over = subst (λ (w : List Path). AreOver w (branch_over limit n below ∷ map deeper below) (path ∷ qs)) (sym same) (
    record { within = omega (arith, matches.count); holds = λ i l. range_all (leaf_count below) i (omega (arith, l, matches.count)) ∙ sym (each_at (λ q. is_within path q ≡ true) (filter want qs) i (each_filter (λ q. is_within path q ≡ true) want qs within) l) },
    all_deeper (filter want qs) below qs matches.over,
  );
  count = omega (arith, leaf_count-cons (branch_over limit n below) (map deeper below), leaf_count-deeper below, matches.count) ∙ sym (ap length same);
}
  where
    same : filter want (path ∷ qs) ≡ filter want qs
    same = ap (λ (b : Bool). cond b (path ∷ filter want qs) (filter want qs)) none

over_leaf : (want : Path → Bool) (path : Path) (amount floor : ℕ) → want path ≡ true → Matches want (leaf_alone amount floor ∷ []) (path ∷ [])
over_leaf want path amount floor is = record {
  over = subst (λ (w : List Path). AreOver w (leaf_alone amount floor ∷ []) (path ∷ [])) (sym same) (record { within = omega arith; holds = λ i l. holds i l }, tt);
  count = sym (ap length same);
}
  where
    same : filter want (path ∷ []) ≡ path ∷ []
    same = ap (λ (b : Bool). cond b (path ∷ []) []) is

    holds : (i : ℕ) → i < 1 → leaf_range 0 1 i ≡ is_within path (get_or (path ∷ []) i [])
    holds zero l = sym (within_self path)
    holds (suc i) l = absurd (omega arith)

pub record IsTree (want : Path → Bool) (path : Path) (os : List Place) (ps : List Path) : Type 0 where
  pub matches : Matches want os ps
  pub within : AreWithin path ps

-- a node over trees at its kids
node_over : (kind : Path → NodeKind) (path : Path) (k : NodeKind) (kids : List Path) (f : Path → List Place) (g : Path → List Path) → kind path ≡ k → AreKids path kids → ((q : Path) → IsTree (is_want kind) q (f q) (g q))
    → IsTree (is_want kind) path (tree_over k (map f (kids_by k kids))) (path ∷ flat_map g (kids_by k kids))
node_over kind path (Leaf amount floor) kids f g is are each = record {
  matches = over_leaf (is_want kind) path amount floor (ap is_leaf_kind is);
  within = (within_self path, tt);
}
node_over kind path (Branch limit) kids f g is are each =
    let below = within_kids path kids g (λ q. (each q).within) (each_map (λ kid. (is_within path kid ≡ true) × (length kid ≡ length path + 1)) (λ kid. is_within path kid ≡ true) kids (λ q h. h.0) are.longer) in
    let matches = all_beside_kids (is_want kind) (length path + 1) kids f g (λ q. (each q).matches) (λ q. (each q).within) (each_map (λ kid. (is_within path kid ≡ true) × (length kid ≡ length path + 1)) (λ kid. length kid ≡ length path + 1) kids (λ q h. h.1) are.longer) are.apart in
    record {
      matches = over_branch (is_want kind) path limit (length (map f kids)) (beside (map f kids)) (flat_map g kids) (ap is_leaf_kind is) matches below;
      within = (within_self path, below);
    }

-- a node by itself
node_alone : (kind : Path → NodeKind) (path : Path) (k : NodeKind) → kind path ≡ k → IsTree (is_want kind) path (tree_over k []) (path ∷ [])
node_alone kind path (Leaf amount floor) is = record { matches = over_leaf (is_want kind) path amount floor (ap is_leaf_kind is); within = (within_self path, tt) }
node_alone kind path (Branch limit) is = record { matches = over_branch (is_want kind) path limit 0 [] [] (ap is_leaf_kind is) (record { over = tt; count = refl }) tt; within = (within_self path, tt) }

pub is_tree : (kind : Path → NodeKind) (kids : Path → List Path) → ((path : Path) → AreKids path (kids path)) → (levels : ℕ) (path : Path) → IsTree (is_want kind) path (outline_at kind kids levels path) (paths_at kind kids levels path)
unfolding outline_at paths_at
is_tree kind kids are zero path = node_alone kind path (kind path) refl
is_tree kind kids are (suc levels) path = node_over kind path (kind path) (kids path) (outline_at kind kids levels) (paths_at kind kids levels) refl (are path) (is_tree kind kids are levels)
