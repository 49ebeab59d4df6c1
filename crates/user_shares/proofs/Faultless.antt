-- A tree of the shape of one without a fault has none, if its kinds have none and its floors are
-- within its limits.
use Rattle.std.proofs.Common.{◌≡◌, ℕ, zero, suc, ◌+◌, ◌≤◌, Bool, true, false, cond, List, [], ◌∷◌, length, refl, sym, ap, ◌∙◌, subst, arith, Option, Some, None}
use Rattle.std.specs.Prelude.{◌&&◌, ◌||◌, if◌then◌else◌, nat_le, nat_lt, slice_get}
use Rattle.std.specs.Option.{option_map}
use Rattle.std.proofs.lemmas.Bool.{le-ltb}
use Rattle.limit_tree.specs.Sharing.{sum_over}
use Rattle.limit_tree.specs.Outline.{is_leaf_kind, leaf_range, limits}
use Rattle.limit_tree.specs.Faults.{first_fault, first_over, kind_fault, node_fault, or_else, over_limit, tree_fault}
use Rattle.limit_tree.specs.declared.bounds.TheConstants.{MAX_DEPTH, MAX_NODES, MAX_LEAVES, MAX_WANT, MAX_LIMIT}
use Rattle.limit_tree.specs.declared.fault.TreeFault.{TreeFault}
use Rattle.limit_tree.specs.declared.fault.TreeFault.TheVariants.{TooDeep, TooManyLeaves, WantTooLarge, LimitTooLarge, FloorTooLarge, FloorsOverLimit}
use Rattle.limit_tree.specs.declared.place.NodeKind.{NodeKind}
use Rattle.limit_tree.specs.declared.place.NodeKind.TheVariants.{Branch, Leaf}
use Rattle.limit_tree.specs.declared.place.Place.{Place}
use Rattle.limit_tree.proofs.Hops.{same-node}
use Rattle.limit_tree.proofs.Leaves.{or_else-parts}
use Rattle.limit_tree.proofs.Sound.{no_fault-tree}
use Rattle.user_shares.specs.Rebuilt.{HasKinds, IsReshaped}
use Rattle.user_shares.proofs.Reshaping.{some-at, within-at}

-- a leaf without a fault, and a branch
pub leaf-faultless : (want floor : ℕ) → want ≤ MAX_WANT → floor ≤ want → kind_fault (Leaf want floor) ≡ None
leaf-faultless want floor most floored =
    ap (λ (b : Bool). if b then Some WantTooLarge else (if nat_lt want floor then Some FloorTooLarge else None)) (le-ltb MAX_WANT want most)
    ∙ ap (λ (b : Bool). if b then Some FloorTooLarge else None) (le-ltb want floor floored)

pub branch-faultless : (limit : ℕ) → limit ≤ MAX_LIMIT → kind_fault (Branch (Some limit)) ≡ None
branch-faultless limit most = ap (λ (b : Bool). if b then Some LimitTooLarge else None) (le-ltb MAX_LIMIT limit most)

-- the faults of a node, by its two tests
two-tests : (a b : Bool) (x y : TreeFault) (old new : Option TreeFault) → cond a (Some x) (cond b (Some y) old) ≡ None → new ≡ None → cond a (Some x) (cond b (Some y) new) ≡ None
two-tests true b x y old new e none = absurd (cc)
two-tests false true x y old new e none = absurd (cc)
two-tests false false x y old new e none = none

last-test : (a b : Bool) (x y : TreeFault) (o : Option TreeFault) → cond a (Some x) (cond b (Some y) o) ≡ None → o ≡ None
last-test true b x y o e = absurd (cc)
last-test false true x y o e = absurd (cc)
last-test false false x y o e = e

own-kind : (depth nodes leaves : ℕ) (kind : NodeKind) → node_fault depth nodes leaves kind ≡ None → kind_fault kind ≡ None
own-kind depth nodes leaves kind e = last-test (nat_lt MAX_DEPTH depth) (nat_le MAX_NODES nodes || (is_leaf_kind kind && nat_le MAX_LEAVES leaves)) TooDeep TooManyLeaves (kind_fault kind) e

other-kind : (depth nodes leaves : ℕ) (kind other : NodeKind) → node_fault depth nodes leaves kind ≡ None → is_leaf_kind other ≡ is_leaf_kind kind → kind_fault other ≡ None → node_fault depth nodes leaves other ≡ None
other-kind depth nodes leaves kind other e alike none =
    subst (λ (l : Bool). cond (nat_lt MAX_DEPTH depth) (Some TooDeep) (cond (nat_le MAX_NODES nodes || (l && nat_le MAX_LEAVES leaves)) (Some TooManyLeaves) (kind_fault other)) ≡ None) (sym alike)
    (two-tests (nat_lt MAX_DEPTH depth) (nat_le MAX_NODES nodes || (is_leaf_kind kind && nat_le MAX_LEAVES leaves)) TooDeep TooManyLeaves (kind_fault kind) (kind_fault other) e none)

both-none : {X : Type 0} (a b : Option X) → a ≡ None → b ≡ None → or_else a b ≡ None
both-none a b none others = ap (λ o. or_else o b) none ∙ others

-- the kinds of nodes without a fault have none
pub kind-at : (d n l : ℕ) (ps : List Place) (k : ℕ) (p : Place) → first_fault d n l ps ≡ None → slice_get ps k ≡ Some p → kind_fault p.kind ≡ None
kind-at d n l [] k p e got = absurd (cc)
kind-at d n l (x ∷ ps) zero p e got =
    let same : x ≡ p = cc in
    let parts = or_else-parts (node_fault (d + x.depth) n (l + x.first) x.kind) (first_fault d (n + 1) l ps) e in
    subst (λ (y : Place). kind_fault y.kind ≡ None) same (own-kind (d + x.depth) n (l + x.first) x.kind parts.0)
kind-at d n l (x ∷ ps) (suc k) p e got =
    let parts = or_else-parts (node_fault (d + x.depth) n (l + x.first) x.kind) (first_fault d (n + 1) l ps) e in
    kind-at d (n + 1) l ps k p parts.1 got

-- a node at the place of one without a fault
record IsFaultless (p q : Place) : Type 0 where
  pub depth : q.depth ≡ p.depth
  pub first : q.first ≡ p.first
  pub alike : is_leaf_kind q.kind ≡ is_leaf_kind p.kind
  pub own : kind_fault q.kind ≡ None

first-same : (d n l : ℕ) (ps qs : List Place) → length qs ≡ length ps → ((k : ℕ) (p q : Place) → slice_get ps k ≡ Some p → slice_get qs k ≡ Some q → IsFaultless p q) → first_fault d n l ps ≡ None → first_fault d n l qs ≡ None
first-same d n l [] [] size each e = refl
first-same d n l [] (q ∷ qs) size each e = absurd (omega (arith, size))
first-same d n l (p ∷ ps) [] size each e = absurd (omega (arith, size))
first-same d n l (p ∷ ps) (q ∷ qs) size each e =
    let parts = or_else-parts (node_fault (d + p.depth) n (l + p.first) p.kind) (first_fault d (n + 1) l ps) e in
    let h = each 0 p q refl refl in
    let here : node_fault (d + q.depth) n (l + q.first) q.kind ≡ None =
    subst (λ (x : ℕ). node_fault (d + x) n (l + q.first) q.kind ≡ None) (sym h.depth)
    (subst (λ (x : ℕ). node_fault (d + p.depth) n (l + x) q.kind ≡ None) (sym h.first)
    (other-kind (d + p.depth) n (l + p.first) p.kind q.kind parts.0 h.alike h.own)) in
    let rest = first-same d (n + 1) l ps qs (omega (arith, size)) (λ k x y got_x got_y. each (suc k) x y got_x got_y) parts.1 in
    both-none (node_fault (d + q.depth) n (l + q.first) q.kind) (first_fault d (n + 1) l qs) here rest

-- floors that are within the limit
under-limit : (m floors : ℕ) (kind : NodeKind) → ((limit : ℕ) → kind ≡ Branch (Some limit) → floors ≤ limit) → over_limit m floors kind ≡ None
under-limit m floors (Leaf want floor) fits = refl
under-limit m floors (Branch None) fits = refl
under-limit m floors (Branch (Some limit)) fits = ap (λ (b : Bool). if b then Some m else None) (le-ltb limit floors (fits limit refl))

none-over : (n : ℕ) (qs : List Place) → ((k limit : ℕ) (q : Place) → slice_get qs k ≡ Some q → q.kind ≡ Branch (Some limit) → q.floors ≤ limit) → first_over n qs ≡ None
none-over n [] fits = refl
none-over n (q ∷ qs) fits =
    both-none (over_limit n q.floors q.kind) (first_over (n + 1) qs)
    (under-limit n q.floors q.kind (λ limit is. fits 0 limit q refl is))
    (none-over (n + 1) qs (λ k limit x got is. fits (suc k) limit x got is))

pub first-faultless : (outline : List Place) → tree_fault outline ≡ None → first_fault 0 0 0 outline ≡ None
first-faultless outline sound = (or_else-parts (first_fault 0 0 0 outline) (option_map FloorsOverLimit (first_over 0 outline)) sound).0

pub faultless : (outline tree : List Place) (kinds : List NodeKind) → tree_fault outline ≡ None → HasKinds outline kinds → IsReshaped outline kinds tree → ((k : ℕ) (p q : Place) → slice_get outline k ≡ Some p → slice_get tree k ≡ Some q → kind_fault q.kind ≡ None) → ((k limit : ℕ) (p q : Place) → slice_get outline k ≡ Some p → slice_get tree k ≡ Some q → q.kind ≡ Branch (Some limit) → sum_over (leaf_range q.first q.leaves) (limits tree).floors ≤ limit) → tree_fault tree ≡ None
faultless outline tree kinds sound has reshaped own fits =
    no_fault-tree tree (first-same 0 0 0 outline tree reshaped.nodes each (first-faultless outline sound)) (none-over 0 tree over)
  where
    each : (k : ℕ) (p q : Place) → slice_get outline k ≡ Some p → slice_get tree k ≡ Some q → IsFaultless p q
    each k p q got got_q =
        let r = reshaped.each k p got in
        let same : r.0 ≡ q = same-node tree k r.0 q r.1 got_q in
        record {
          depth = subst (λ (x : Place). x.depth ≡ p.depth) same r.5;
          first = subst (λ (x : Place). x.first ≡ p.first) same r.3;
          alike = subst (λ (x : Place). is_leaf_kind x.kind ≡ is_leaf_kind p.kind) same (has.alike k p r.0.kind got r.2);
          own = own k p q got got_q;
        }

    over : (k limit : ℕ) (q : Place) → slice_get tree k ≡ Some q → q.kind ≡ Branch (Some limit) → q.floors ≤ limit
    over k limit q got is =
        let p = some-at outline k (omega (arith, within-at tree k q got, reshaped.nodes)) in
        let within : sum_over (leaf_range q.first q.leaves) (limits tree).floors ≤ limit = fits k limit p.0 q p.1 got is in
        let sums : q.floors ≡ sum_over (leaf_range q.first q.leaves) (limits tree).floors = reshaped.floors k q got in
        omega (arith, within, sums)
