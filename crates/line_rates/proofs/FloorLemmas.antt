-- The floors of the tree of a tick, and the sums of what asks are guaranteed under their names.
use Rattle.std.proofs.Common.{◌≡◌, ℕ, zero, suc, ◌+◌, ◌<◌, ◌≤◌, Bool, true, false, cond, List, [], ◌∷◌, length, map, refl, sym, ap, ◌∙◌, subst, arith, Option, Some, None}
use Rattle.std.specs.Prelude.{slice_index, slice_get, nat_lt, nat_le, ◌||◌, ◌&&◌, IsPermutation}
use Rattle.std.specs.Option.{option_map, option_and_then}
use Rattle.std.proofs.Math.Nat.{min-le_left}
use Rattle.std.proofs.lemmas.Bool.{ltb-true}
use Rattle.std.proofs.lemmas.List.{length-map}
use Rattle.std.proofs.lemmas.List.Sums.{sum_by-cons}
use Rattle.std.proofs.lemmas.List.Sorted.{sum_by-IsPermutation, IsPermutation-map}
use Rattle.limit_tree.specs.Faults.{or_else, kind_fault, node_fault, first_fault, over_limit, first_over, tree_fault}
use Rattle.limit_tree.specs.Outline.{is_leaf_kind, leaf_range, branch_of, limits, places}
use Rattle.limit_tree.specs.Sharing.{Branch as SharedBranch, LimitTree, IsBranch, IsWithin, sum_over}
use Rattle.limit_tree.specs.declared.bounds.TheConstants.{MAX_DEPTH, MAX_NODES, MAX_LEAVES, MAX_WANT, MAX_LIMIT}
use Rattle.limit_tree.specs.declared.fault.TreeFault.{TreeFault}
use Rattle.limit_tree.specs.declared.fault.TreeFault.TheVariants.{TooDeep, TooManyLeaves, WantTooLarge, LimitTooLarge, FloorTooLarge, FloorsOverLimit}
use Rattle.limit_tree.specs.declared.node.Node.{Node}
use Rattle.limit_tree.specs.declared.place.NodeKind.{NodeKind}
use Rattle.limit_tree.specs.declared.place.NodeKind.TheVariants.{Branch, Leaf}
use Rattle.limit_tree.specs.declared.place.Place.{Place}
use Rattle.limit_tree.proofs.Leaves.{floors_in, length-floors_in}
use Rattle.limit_tree.proofs.Nested.{ordered-tree, summed-tree}
use Rattle.limit_tree.proofs.Sound.{sum_over-range}
use Rattle.line_rates.specs.declared.ask.Ask.{Ask}
use Rattle.line_rates.specs.declared.ask.Name.{Name}
use Rattle.line_rates.specs.FloorSums.{floor_under, floors_under, FloorsFit}
use Rattle.line_rates.specs.Granted.{Granted, granted_ask, granted_octets, granted_under}
use Rattle.line_rates.specs.Names.{bears, want_of, floor_of}
use Rattle.line_rates.specs.Rates.{Rates}
use Rattle.line_rates.specs.TickTree.{Asker, ask_in, bears_at, IsNamed, AreNamed, IsTickTree}
use Rattle.line_rates.proofs.GrantLemmas.{sum_front, sum_same, kept}

floors_sum : (r : Rates) (n : Name) (asks : List Ask) → sum_over (bears_at r n asks) (map (floor_of r) asks) ≡ floors_under r n asks
floors_sum r n [] = refl
floors_sum r n (a ∷ asks) =
    omega (arith, sum_front (length (map (floor_of r) asks)) (λ i. cond (bears_at r n (a ∷ asks) i) (slice_index (map (floor_of r) (a ∷ asks)) i) 0), floors_sum r n asks, sum_by-cons (floor_under r n) a asks)

floor_wanted : (r : Rates) (asks : List Ask) (i : ℕ) → slice_index (map (floor_of r) asks) i ≤ slice_index (map want_of asks) i
floor_wanted r [] i = omega arith
floor_wanted r (a ∷ asks) zero = min-le_left a.want _
floor_wanted r (a ∷ asks) (suc i) = floor_wanted r asks i

branch_named : (r : Rates) (tick : ℕ) (asks : List Ask) (o : Option Name) (b : SharedBranch) → AreNamed r tick asks o (Some b) → (n : Name) × IsNamed r tick asks n b
branch_named r tick asks None b h = absurd h
branch_named r tick asks (Some n) b h = (n, h)

module _ (r : Rates) (tick : ℕ) (asks : List Ask) (t : LimitTree) (tree : IsTickTree r tick asks t) where
  pub floors_within : FloorsFit r tick asks → IsWithin t t.floors
  floors_within fit = record {
    wanted = record {
      leaves = ap length tree.floors ∙ length-map asks (floor_of r) ∙ sym (length-map asks want_of) ∙ ap length (sym tree.wants);
      wants = λ i lt. subst (λ fs. slice_index fs i ≤ slice_index t.wants i) (sym tree.floors) (subst (λ ws. slice_index (map (floor_of r) asks) i ≤ slice_index ws i) (sym tree.wants) (floor_wanted r asks i));
    };
    floors = λ i lt. omega arith;
    limits = λ k most b is limited.
        let x = branch_named r tick asks (tree.name k) b (subst (AreNamed r tick asks (tree.name k)) is (tree.named k)) in
        let le : floors_under r x.0 asks ≤ most = fit x.0 most (sym x.1.limit ∙ limited) in
        let sum : sum_over b.holds (map (floor_of r) asks) ≡ sum_over (bears_at r x.0 asks) (map (floor_of r) asks) =
        sum_same (length (map (floor_of r) asks)) (λ i. cond (b.holds i) (slice_index (map (floor_of r) asks) i) 0) (λ i. cond (bears_at r x.0 asks i) (slice_index (map (floor_of r) asks) i) 0)
        (λ i. ap (λ (c : Bool). cond c (slice_index (map (floor_of r) asks) i) 0) (x.1.holds i)) in
        let same : sum_over b.holds t.floors ≡ sum_over b.holds (map (floor_of r) asks) = ap (sum_over b.holds) tree.floors in
        omega (arith, floors_sum r x.0 asks);
  }

  abbrev guaranteed : Ask → Granted
  guaranteed a = record { ask = a; octets = floor_of r a }

  asks_of : (xs : List Ask) → map granted_ask (map guaranteed xs) ≡ xs
  asks_of [] = refl
  asks_of (x ∷ xs) = ap (λ ys. x ∷ ys) (asks_of xs)

  floors_of : (xs : List Ask) → map granted_octets (map guaranteed xs) ≡ map (floor_of r) xs
  floors_of [] = refl
  floors_of (x ∷ xs) = ap (λ ys. floor_of r x ∷ ys) (floors_of xs)

  under_of : (n : Name) (xs : List Ask) → granted_under r n (map guaranteed xs) ≡ floors_under r n xs
  under_of n [] = refl
  under_of n (x ∷ xs) =
      omega (arith, sum_by-cons (λ (g : Granted). cond (bears r n g.ask) g.octets 0) (guaranteed x) (map guaranteed xs), sum_by-cons (floor_under r n) x xs, under_of n xs)

  pub floors_fit : IsWithin t t.floors → FloorsFit r tick asks
  floors_fit within n most e =
      let le : granted_under r n (map guaranteed asks) ≤ most =
      kept r tick t (map guaranteed asks) (subst (λ xs. IsTickTree r tick xs t) (sym (asks_of asks)) tree) (subst (IsWithin t) (tree.floors ∙ sym (floors_of asks)) within) n most e in
      omega (arith, under_of n asks)

-- asks in another order fit alike
pub fit_in_order : (r : Rates) (tick : ℕ) (asks order : List Asker) → IsPermutation asks order → FloorsFit r tick (map ask_in asks) → FloorsFit r tick (map ask_in order)
fit_in_order r tick asks order p fit n most e =
    let le = fit n most e in
    let same : floors_under r n (map ask_in order) ≡ floors_under r n (map ask_in asks) = sum_by-IsPermutation (floor_under r n) (map ask_in asks) (map ask_in order) (IsPermutation-map ask_in asks order p) in
    omega arith

-- no node's own fault is that of floors above a limit
own_fault : (depth nodes leaves : ℕ) (kind : NodeKind) (k : ℕ) → node_fault depth nodes leaves kind ≡ Some (FloorsOverLimit k) → ⊥
own_fault depth nodes leaves kind k e = deep (nat_lt MAX_DEPTH depth) e
  where
    deep : (b : Bool) → cond b (Some TooDeep) (cond (nat_le MAX_NODES nodes || (is_leaf_kind kind && nat_le MAX_LEAVES leaves)) (Some TooManyLeaves) (kind_fault kind)) ≡ Some (FloorsOverLimit k) → ⊥
    deep true f = absurd (cc)
    deep false f = many (nat_le MAX_NODES nodes || (is_leaf_kind kind && nat_le MAX_LEAVES leaves)) f
      where
        many : (b : Bool) → cond b (Some TooManyLeaves) (kind_fault kind) ≡ Some (FloorsOverLimit k) → ⊥
        many true f = absurd (cc)
        many false f = own kind f
          where
            own : (kind : NodeKind) → kind_fault kind ≡ Some (FloorsOverLimit k) → ⊥
            own (Branch None) f = absurd (cc)
            own (Branch (Some limit)) f = limit_is (nat_lt MAX_LIMIT limit) f
              where
                limit_is : (b : Bool) → cond b (Some LimitTooLarge) None ≡ Some (FloorsOverLimit k) → ⊥
                limit_is true f = absurd (cc)
                limit_is false f = absurd (cc)
            own (Leaf want floor) f = want_is (nat_lt MAX_WANT want) f
              where
                want_is : (b : Bool) → cond b (Some WantTooLarge) (cond (nat_lt want floor) (Some FloorTooLarge) None) ≡ Some (FloorsOverLimit k) → ⊥
                want_is true f = absurd (cc)
                want_is false f = floor_is (nat_lt want floor) f
                  where
                    floor_is : (b : Bool) → cond b (Some FloorTooLarge) None ≡ Some (FloorsOverLimit k) → ⊥
                    floor_is true f = absurd (cc)
                    floor_is false f = absurd (cc)

no_first : (depth nodes leaves : ℕ) (ps : List Place) (k : ℕ) → first_fault depth nodes leaves ps ≡ Some (FloorsOverLimit k) → ⊥
no_first depth nodes leaves [] k e = absurd (cc)
no_first depth nodes leaves (p ∷ ps) k e = go (node_fault (depth + p.depth) nodes (leaves + p.first) p.kind) refl (no_first depth (nodes + 1) leaves ps k) e
  where
    go : (o : Option TreeFault) → node_fault (depth + p.depth) nodes (leaves + p.first) p.kind ≡ o → (first_fault depth (nodes + 1) leaves ps ≡ Some (FloorsOverLimit k) → ⊥) → or_else o (first_fault depth (nodes + 1) leaves ps) ≡ Some (FloorsOverLimit k) → ⊥
    go None own rest f = rest f
    go (Some fault) own rest f = own_fault (depth + p.depth) nodes (leaves + p.first) p.kind k (own ∙ f)

-- a branch whose floors are above its limit
record IsOver (ps : List Place) : Type 0 where
  number : ℕ
  place : Place
  most : ℕ
  found : slice_get ps number ≡ Some place
  kind : place.kind ≡ Branch (Some most)
  over : most < place.floors

over_branch : (n : ℕ) (floors : ℕ) (kind : NodeKind) (k : ℕ) → over_limit n floors kind ≡ Some k → (most : ℕ) × (kind ≡ Branch (Some most)) × (most < floors)
over_branch n floors (Leaf want floor) k e = absurd (cc)
over_branch n floors (Branch None) k e = absurd (cc)
over_branch n floors (Branch (Some limit)) k e = go (nat_lt limit floors) refl e
  where
    go : (b : Bool) → nat_lt limit floors ≡ b → cond b (Some n) None ≡ Some k → (most : ℕ) × (Branch (Some limit) ≡ Branch (Some most)) × (most < floors)
    go true t f = (limit, refl, ltb-true limit floors t)
    go false t f = absurd (cc)

some_over : (n : ℕ) (ps : List Place) (k : ℕ) → first_over n ps ≡ Some k → IsOver ps
some_over n [] k e = absurd (cc)
some_over n (p ∷ ps) k e = go (over_limit n p.floors p.kind) refl (some_over (n + 1) ps k) e
  where
    go : (o : Option ℕ) → over_limit n p.floors p.kind ≡ o → (first_over (n + 1) ps ≡ Some k → IsOver ps) → or_else o (first_over (n + 1) ps) ≡ Some k → IsOver (p ∷ ps)
    go None own rest f = let x = rest f in record { number = suc x.number; place = x.place; most = x.most; found = x.found; kind = x.kind; over = x.over }
    go (Some j) own rest f = let x = over_branch n p.floors p.kind j own in record { number = 0; place = p; most = x.0; found = refl; kind = x.1; over = x.2 }

-- a tree whose floors are within has no floors above a limit
pub none_over : {A : Type 0} (root : Node A) (k : ℕ) → tree_fault (places root) ≡ Some (FloorsOverLimit k) → IsWithin (limits (places root)) (limits (places root)).floors → ⊥
none_over root k e within = go (first_fault 0 0 0 (places root)) refl e
  where
    above : IsOver (places root) → ⊥
    above x =
        let b : SharedBranch = record { limit = Some x.most; holds = leaf_range x.place.first x.place.leaves } in
        let is : IsBranch (limits (places root)) x.number b = ap (λ o. option_and_then (λ p. branch_of p.kind p.first p.leaves) o) x.found ∙ ap (λ kind. branch_of kind x.place.first x.place.leaves) x.kind in
        let le : sum_over b.holds (floors_in (places root)) ≤ x.most = within.limits x.number x.most b is refl in
        let fits : x.place.first + x.place.leaves ≤ length (floors_in (places root)) = let bound = (ordered-tree root).bounded x.number x.place x.found in omega (arith, length-floors_in (places root)) in
        let sum : sum_over b.holds (floors_in (places root)) ≡ x.place.floors = sum_over-range x.place.first x.place.leaves (floors_in (places root)) fits ∙ sym (summed-tree root x.number x.place x.found) in
        let over = x.over in
        omega arith

    some : (o : Option ℕ) → first_over 0 (places root) ≡ o → option_map FloorsOverLimit o ≡ Some (FloorsOverLimit k) → ⊥
    some None own f = absurd (cc)
    some (Some j) own f = above (some_over 0 (places root) j own)

    go : (o : Option TreeFault) → first_fault 0 0 0 (places root) ≡ o → or_else o (option_map FloorsOverLimit (first_over 0 (places root))) ≡ Some (FloorsOverLimit k) → ⊥
    go None own f = some (first_over 0 (places root)) refl f
    go (Some fault) own f = no_first 0 0 0 (places root) k (own ∙ f)
