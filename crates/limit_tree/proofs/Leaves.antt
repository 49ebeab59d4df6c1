-- The wants and floors of trees, and of trees side by side.
use Rattle.std.proofs.Common.{◌≡◌, ℕ, zero, suc, ◌+◌, ◌<◌, ◌≤◌, ◌*◌, Bool, true, false, cond, List, [], ◌∷◌, map, length, refl, sym, ap, ◌∙◌, arith, Option, Some, None, sum, All}
use Rattle.std.specs.Prelude.{nat_le, nat_lt, if◌then◌else◌, ◌||◌, ◌&&◌, slice_index}
use Rattle.std.specs.List.{filter_map, cons_option}
use Rattle.std.proofs.lemmas.List.Elements.{All-nil, All-cons}
use Rattle.std.proofs.lemmas.List.Sums.{sum_by-cons, sum_by-le}
use Rattle.std.proofs.lemmas.Bool.{ltb-false}
use Rattle.limit_tree.specs.Outline.{is_leaf_kind, own_floor, leaf_count, floor_sum, leaf_want, leaf_floor, deeper, behind}
use Rattle.limit_tree.specs.Faults.{kind_fault, node_fault, or_else, first_fault}
use Rattle.limit_tree.specs.declared.place.NodeKind.{NodeKind}
use Rattle.limit_tree.specs.declared.place.NodeKind.TheVariants.{Branch, Leaf}
use Rattle.limit_tree.specs.declared.place.Place.{Place}
use Rattle.limit_tree.specs.declared.bounds.TheConstants.{MAX_DEPTH, MAX_NODES, MAX_LEAVES, MAX_WANT}
use Rattle.limit_tree.specs.declared.fault.TreeFault.{TreeFault}
use Rattle.limit_tree.specs.declared.fault.TreeFault.TheVariants.{TooDeep, TooManyLeaves, WantTooLarge, FloorTooLarge}
use Rattle.limit_tree.proofs.Places.{own_leaves, leaf_count-cons, floor_sum-cons}

abbrev pub wants_in : List Place → List ℕ
wants_in ps = filter_map (λ p. leaf_want p.kind) ps

abbrev pub floors_in : List Place → List ℕ
floors_in ps = filter_map (λ p. leaf_floor p.kind) ps

pub floors_in-behind : (n : ℕ) (p : List Place) → floors_in (map (behind n) p) ≡ floors_in p
floors_in-behind n [] = refl
floors_in-behind n (x ∷ p) = ap (cons_option (leaf_floor x.kind)) (floors_in-behind n p)

pub floors_in-deeper : (p : List Place) → floors_in (map deeper p) ≡ floors_in p
floors_in-deeper [] = refl
floors_in-deeper (x ∷ p) = ap (cons_option (leaf_floor x.kind)) (floors_in-deeper p)

length-want : (k : NodeKind) (ws : List ℕ) (n : ℕ) → length ws ≡ n → length (cons_option (leaf_want k) ws) ≡ own_leaves k + n
length-want (Branch limit) ws n e = omega arith
length-want (Leaf want floor) ws n e = omega arith

length-floor : (k : NodeKind) (fs : List ℕ) (n : ℕ) → length fs ≡ n → length (cons_option (leaf_floor k) fs) ≡ own_leaves k + n
length-floor (Branch limit) fs n e = omega arith
length-floor (Leaf want floor) fs n e = omega arith

sum-floor : (k : NodeKind) (fs : List ℕ) (n : ℕ) → sum fs ≡ n → sum (cons_option (leaf_floor k) fs) ≡ own_floor k + n
sum-floor (Branch limit) fs n e = omega arith
sum-floor (Leaf want floor) fs n e = omega (arith, sum_by-cons (λ x. x) floor fs)

pub length-wants_in : (p : List Place) → length (wants_in p) ≡ leaf_count p
length-wants_in [] = refl
length-wants_in (x ∷ p) = length-want x.kind (wants_in p) (leaf_count p) (length-wants_in p) ∙ sym (leaf_count-cons x p)

pub length-floors_in : (p : List Place) → length (floors_in p) ≡ leaf_count p
length-floors_in [] = refl
length-floors_in (x ∷ p) = length-floor x.kind (floors_in p) (leaf_count p) (length-floors_in p) ∙ sym (leaf_count-cons x p)

pub sum-floors_in : (p : List Place) → sum (floors_in p) ≡ floor_sum p
sum-floors_in [] = refl
sum-floors_in (x ∷ p) = sum-floor x.kind (floors_in p) (floor_sum p) (sum-floors_in p) ∙ sym (floor_sum-cons x p)

pub or_else-parts : {X : Type 0} (a b : Option X) → or_else a b ≡ None → (a ≡ None) × (b ≡ None)
or_else-parts None b e = (refl, e)
or_else-parts (Some f) b e = absurd (cc)

-- a test that gave no fault
no_fault : (b : Bool) (f : TreeFault) (o : Option TreeFault) → cond b (Some f) o ≡ None → (b ≡ false) × (o ≡ None)
no_fault true f o e = absurd (cc)
no_fault false f o e = (refl, e)

own_part : (depth nodes leaves : ℕ) (k : NodeKind) → node_fault depth nodes leaves k ≡ None → kind_fault k ≡ None
own_part depth nodes leaves k h =
    let deep = no_fault (nat_lt MAX_DEPTH depth) TooDeep (if nat_le MAX_NODES nodes || (is_leaf_kind k && nat_le MAX_LEAVES leaves) then Some TooManyLeaves else kind_fault k) h in
    (no_fault (nat_le MAX_NODES nodes || (is_leaf_kind k && nat_le MAX_LEAVES leaves)) TooManyLeaves (kind_fault k) deep.1).1

-- a leaf without a fault wants at least its floor, and at most what a leaf may want
sound_leaf : (want floor : ℕ) → kind_fault (Leaf want floor) ≡ None → (want ≤ MAX_WANT) × (floor ≤ want)
sound_leaf want floor h =
    let large = no_fault (nat_lt MAX_WANT want) WantTooLarge (if nat_lt want floor then Some FloorTooLarge else None) h in
    let below = no_fault (nat_lt want floor) FloorTooLarge None large.1 in
    (ltb-false MAX_WANT want large.0, ltb-false want floor below.0)

pub record AreSoundLeaves (wants floors : List ℕ) : Type 0 where
  pub most : All (λ w. w ≤ MAX_WANT) wants
  pub lengths : length floors ≡ length wants
  pub floored : (i : ℕ) → i < length floors → slice_index floors i ≤ slice_index wants i
  pub sums : sum floors ≤ sum wants

no_leaves : AreSoundLeaves [] []
no_leaves = record { most = All-nil (λ (w : ℕ). w ≤ MAX_WANT); lengths = refl; floored = λ i l. omega arith; sums = omega arith }

one_leaf_more : (want floor : ℕ) (wants floors : List ℕ) → want ≤ MAX_WANT → floor ≤ want → AreSoundLeaves wants floors → AreSoundLeaves (want ∷ wants) (floor ∷ floors)
one_leaf_more want floor wants floors most floored rest = record {
  most = All-cons (λ (w : ℕ). w ≤ MAX_WANT) want wants most rest.most;
  lengths = omega (arith, rest.lengths);
  floored = below;
  sums = omega (arith, rest.sums, sum_by-cons (λ x. x) want wants, sum_by-cons (λ x. x) floor floors);
}
  where
    below : (i : ℕ) → i < length (floor ∷ floors) → slice_index (floor ∷ floors) i ≤ slice_index (want ∷ wants) i
    below zero l = floored
    below (suc i) l = rest.floored i (omega arith)

pub sound_leaves : (d n l : ℕ) (ps : List Place) → first_fault d n l ps ≡ None → AreSoundLeaves (wants_in ps) (floors_in ps)
sound_leaves d n l [] e = no_leaves
sound_leaves d n l (p ∷ ps) e =
    let parts = or_else-parts (node_fault (d + p.depth) n (l + p.first) p.kind) (first_fault d (n + 1) l ps) e in
    go p.kind (own_part (d + p.depth) n (l + p.first) p.kind parts.0) (sound_leaves d (n + 1) l ps parts.1)
  where
    go : (k : NodeKind) → kind_fault k ≡ None → AreSoundLeaves (wants_in ps) (floors_in ps) → AreSoundLeaves (cons_option (leaf_want k) (wants_in ps)) (cons_option (leaf_floor k) (floors_in ps))
    go (Branch limit) h rest = rest
    go (Leaf want floor) h rest = let own = sound_leaf want floor h in one_leaf_more want floor (wants_in ps) (floors_in ps) own.0 own.1 rest

pub few_octets : (ps : List Place) → first_fault 0 0 0 ps ≡ None → sum (wants_in ps) ≤ leaf_count ps * MAX_WANT
few_octets ps e = rw (← length-wants_in ps) (sum_by-le (λ x. x) MAX_WANT (wants_in ps) (sound_leaves 0 0 0 ps e).most)
