-- The tree of a tick over few asks, none of which wants too much, has no fault but floors above a limit.
use Rattle.std.proofs.Common.{◌≡◌, ℕ, zero, suc, ◌+◌, ◌*◌, ◌%◌, ◌<◌, ◌≤◌, Bool, true, false, List, [], ◌∷◌, map, length, length-append, refl, sym, ap, ◌∙◌, subst, arith, inl, inr, Option, Some, None, Result, Ok, Err}
use Rattle.std.specs.Prelude.{All, nat_eq, nat_lt, nat_le, ◌||◌, ◌&&◌, if◌then◌else◌, slice_get, unwrap_or, ⊤}
use Rattle.std.specs.Result.{IfOk}
use Rattle.std.specs.List.{list_any, cons_option}
use Rattle.std.specs.Option.{option_and_then, option_map}
use Rattle.std.specs.FinMap as finite
use Rattle.std.proofs.lemmas.Bool.{and_parts, and_from, or_parts, leb-true, ltb-true, ltb-false, le-leb, lt-ltb, lt-leb, le-ltb, eqb-true, cases_lt, cases_order}
use Rattle.std.proofs.lemmas.Option.{slice_get_within}
use Rattle.std.proofs.lemmas.List.{length-map}
use Rattle.std.proofs.lemmas.List.Elements.{All-nil, All-cons}
use Rattle.std.proofs.lemmas.List.Sorted.{All-permutation, length_permutation}
use Rattle.limit_tree.specs.Sharing.{Branch as SharedBranch}
use Rattle.limit_tree.specs.Outline.{leaf_count, leaf_range, leaf_want, leaf_floor, is_leaf_kind, branch_of, limits, places}
use Rattle.limit_tree.specs.Faults.{or_else, kind_fault, node_fault, first_fault, first_over}
use Rattle.limit_tree.specs.declared.bounds.TheConstants.{MAX_DEPTH, MAX_NODES, MAX_LEAVES, MAX_WANT, MAX_LIMIT}
use Rattle.limit_tree.specs.declared.place.NodeKind.{NodeKind}
use Rattle.limit_tree.specs.declared.place.NodeKind.TheVariants.{Branch, Leaf}
use Rattle.limit_tree.specs.declared.place.Place.{Place}
use Rattle.limit_tree.specs.declared.node.Node.{Node}
use Rattle.limit_tree.specs.declared.fault.TreeFault.{TreeFault}
use Rattle.limit_tree.specs.declared.fault.TreeFault.TheVariants.{FloorsOverLimit, WantTooLarge, FloorTooLarge, TooDeep, TooManyLeaves, LimitTooLarge}
use Rattle.limit_tree.proofs.Leaves.{wants_in, floors_in, length-wants_in}
use Rattle.limit_tree.proofs.Nested.{ordered-tree}
use Rattle.limit_tree.proofs.Shapes.{shaped-tree}
use Rattle.limit_tree.proofs.Deeper.{later_is_deeper}
use Rattle.limit_tree.proofs.Looks.{some_within}
use Rattle.grant_ledger.specs.declared.ledger.TheConstants.{MAX_LANES}
use Rattle.line_rates.specs.declared.ask.Ask.{Ask}
use Rattle.line_rates.specs.declared.ask.Way.{Way}
use Rattle.line_rates.specs.declared.ask.Way.TheVariants.{Down, Up}
use Rattle.line_rates.specs.declared.ask.Name.{Name}
use Rattle.line_rates.specs.declared.ask.Name.TheVariants.{Server, Direction, Group, User, Session}
use Rattle.line_rates.specs.declared.fault.PlanFault.TheVariants as plan
use Rattle.line_rates.specs.declared.rate.TheConstants.{MAX_RATE}
use Rattle.line_rates.specs.declared.row.GroupRate.{GroupRate}
use Rattle.line_rates.specs.declared.row.UserRate.{UserRate}
use Rattle.line_rates.specs.Names.{bears, is_number, same_way, want_of, floor_of}
use Rattle.line_rates.specs.Rates.{Rates, group_of, group_rate, user_rate, session_rate, rate_of, way_of}
use Rattle.line_rates.specs.Refused.{HasFault, IsNotOfFloors}
use Rattle.line_rates.specs.Stated.{by_number, group_number, user_number, FitsGroup, FitsUser}
use Rattle.line_rates.specs.Ticks.{rate_limit, share_of}
use Rattle.line_rates.specs.TickTree.{AreNamed, Asker, IsNamed, IsTickTree, ask_in, bears_at, bears_in, is_name}
use Rattle.line_rates.proofs.RowLemmas.{first_contains, get-by_number}
use Rattle.line_rates.proofs.TickLemmas.{times_more}
use Rattle.world_terms.specs.Decisions.{asker_of, in_round, in_round_from, wants_too_much}
use Rattle.world_terms.specs.Lanes.{Lane}
use Rattle.world_terms.specs.declared.event.LaneState.{LaneState}
use Rattle.world_terms.specs.declared.event.LaneState.TheVariants as state
use Rattle.share_world.specs.Shares.{AreFitRates}
use Rattle.share_world.proofs.Above.{IsOver, above}
use Rattle.share_world.proofs.Pigeons.{few_places}

-- ---- an ask counts under one name of each kind

abbrev code : Name → ℕ
code Server = 0
code (Direction w) = 1
code (Group w g) = 2
code (User w u) = 3
code (Session w u s) = 4

code_small : (n : Name) → code n < 5
code_small Server = omega arith
code_small (Direction w) = omega arith
code_small (Group w g) = omega arith
code_small (User w u) = omega arith
code_small (Session w u s) = omega arith

-- the name of a kind that an ask counts under, if it does under one
abbrev own : Rates → Ask → Name → Name
own r a Server = Server
own r a (Direction w) = Direction a.way
own r a (Group w g) = Group a.way (unwrap_or (group_of r a.user) 0)
own r a (User w u) = User a.way a.user
own r a (Session w u s) = Session a.way a.user a.session

own_same : (r : Rates) (a : Ask) (n m : Name) → code n ≡ code m → own r a n ≡ own r a m
own_same r a Server Server e = refl
own_same r a (Direction w) (Direction v) e = refl
own_same r a (Group w g) (Group v h) e = refl
own_same r a (User w u) (User v x) e = refl
own_same r a (Session w u s) (Session v x y) e = refl
own_same r a n m e = absurd (omega arith)

way_is : (v w : Way) → same_way v w ≡ true → w ≡ v
way_is Down Down e = refl
way_is Up Up e = refl
way_is Down Up e = absurd (cc)
way_is Up Down e = absurd (cc)

number_is : (o : Option ℕ) (g : ℕ) → is_number o g ≡ true → g ≡ unwrap_or o 0
number_is None g e = absurd (cc)
number_is (Some m) g e = sym (eqb-true m g e)

is_own : (r : Rates) (a : Ask) (n : Name) → bears r n a ≡ true → n ≡ own r a n
is_own r a Server e = refl
is_own r a (Direction w) e = ap Direction (way_is a.way w e)
is_own r a (Group w g) e =
    let parts = and_parts (same_way a.way w) (is_number (group_of r a.user) g) e in
    ap (λ (v : Way). Group v g) (way_is a.way w parts.0) ∙ ap (Group a.way) (number_is (group_of r a.user) g parts.1)
is_own r a (User w u) e =
    let parts = and_parts (same_way a.way w) (nat_eq a.user u) e in
    ap (λ (v : Way). User v u) (way_is a.way w parts.0) ∙ ap (User a.way) (sym (eqb-true a.user u parts.1))
is_own r a (Session w u s) e =
    let parts = and_parts (same_way a.way w) (nat_eq a.user u && nat_eq a.session s) e in
    let rest = and_parts (nat_eq a.user u) (nat_eq a.session s) parts.1 in
    ap (λ (v : Way). Session v u s) (way_is a.way w parts.0) ∙ (ap (λ (x : ℕ). Session a.way x s) (sym (eqb-true a.user u rest.0)) ∙ ap (Session a.way a.user) (sym (eqb-true a.session s rest.1)))

same_name : (r : Rates) (asks : List Ask) (i : ℕ) (n m : Name) → bears_at r n asks i ≡ true → bears_at r m asks i ≡ true → code n ≡ code m → n ≡ m
same_name r asks i n m = go (slice_get asks i)
  where
    go : (o : Option Ask) → bears_in r n o ≡ true → bears_in r m o ≡ true → code n ≡ code m → n ≡ m
    go None x y e = absurd (cc)
    go (Some a) x y e = is_own r a n x ∙ (own_same r a n m e ∙ sym (is_own r a m y))

-- ---- the branches of a tree of a tick

some_place : (x y : Place) → Some x ≡ Some y → x ≡ y
some_place x y e = cc

some_name : (x y : Name) → Some x ≡ Some y → x ≡ y
some_name x y e = cc

node_at : (ps : List Place) (k : ℕ) → k < length ps → (p : Place) × (slice_get ps k ≡ Some p)
node_at ps k less = go (slice_get ps k) refl
  where
    go : (o : Option Place) → slice_get ps k ≡ o → (p : Place) × (slice_get ps k ≡ Some p)
    go (Some p) e = (p, e)
    go None e = absurd (some_within ps k less e)

abbrev over : Option ℕ → Place → SharedBranch
over limit p = record { limit = limit; holds = leaf_range p.first p.leaves }

has_name : (r : Rates) (tick : ℕ) (asks : List Ask) (ps : List Place) (tree : IsTickTree r tick asks (limits ps)) (k : ℕ) (p : Place) (limit : Option ℕ) → slice_get ps k ≡ Some p → p.kind ≡ Branch limit
    → (n : Name) × (tree.name k ≡ Some n) × IsNamed r tick asks n (over limit p)
has_name r tick asks ps tree k p limit got kind =
    let is : (limits ps).branch k ≡ Some (over limit p) = ap (option_and_then (λ (q : Place). branch_of q.kind q.first q.leaves)) got ∙ ap (λ (x : NodeKind). branch_of x p.first p.leaves) kind in
    go (tree.name k) refl (subst (AreNamed r tick asks (tree.name k)) is (tree.named k))
  where
    go : (o : Option Name) → tree.name k ≡ o → AreNamed r tick asks o (Some (over limit p)) → (n : Name) × (tree.name k ≡ Some n) × IsNamed r tick asks n (over limit p)
    go None e h = absurd h
    go (Some n) e h = (n, e, h)

in_range : (first leaves i : ℕ) → first ≤ i → i < first + leaves → leaf_range first leaves i ≡ true
in_range first leaves i low high = and_from (nat_le first i) (nat_lt i (first + leaves)) (le-leb first i low) (lt-ltb i (first + leaves) high)

-- the depth of a branch with a leaf that counts under the ask's name of this kind
pub record HasKind {A : Type 0} (r : Rates) (tick : ℕ) (asks : List Ask) (root : Node A) (tree : IsTickTree r tick asks (limits (places root))) (b : Place) (i e c : ℕ) : Type 0 where
  pub at : ℕ
  pub above : IsOver (places root) at b e
  pub name : Name
  pub named : tree.name at ≡ Some name
  pub bears : bears_at r name asks i ≡ true
  pub code_is : code name ≡ c

few_deep : {A : Type 0} (r : Rates) (tick : ℕ) (asks : List Ask) (root : Node A) (tree : IsTickTree r tick asks (limits (places root))) (k : ℕ) (b : Place) → slice_get (places root) k ≡ Some b → 1 ≤ b.leaves → b.depth ≤ 5
few_deep {A} r tick asks root tree k b got some = few_places 5 b.depth (HasKind r tick asks root tree b b.first) each once
  where
    each : (e : ℕ) → e < b.depth → (c : ℕ) × (c < 5) × HasKind r tick asks root tree b b.first e c
    each e less =
        let up = above root k b got e less in
        let over = up.1 in
        let named = has_name r tick asks (places root) tree up.0 over.place over.limit over.there over.kind in
        let low : over.place.first ≤ b.first = over.low in
        let high : b.first + b.leaves ≤ over.place.first + over.place.leaves = over.high in (
          code named.0,
          code_small named.0,
          record {
            at = up.0;
            above = over;
            name = named.0;
            named = named.1;
            bears = sym (named.2.holds b.first) ∙ in_range over.place.first over.place.leaves b.first low (omega arith);
            code_is = refl;
          },
        )

    once : (d e c : ℕ) → HasKind r tick asks root tree b b.first d c → HasKind r tick asks root tree b b.first e c → d ≡ e
    once d e c x y =
        let name : x.name ≡ y.name = same_name r asks b.first x.name y.name x.bears y.bears (x.code_is ∙ sym y.code_is) in
        let at : x.at ≡ y.at = tree.once x.at y.at x.name x.named (y.named ∙ ap (λ (n : Name). Some n) (sym name)) in
        let there : slice_get (places root) x.at ≡ Some y.above.place = ap (slice_get (places root)) at ∙ y.above.there in
        let place : x.above.place ≡ y.above.place = some_place x.above.place y.above.place (sym x.above.there ∙ there) in
        sym x.above.at ∙ (ap (λ (p : Place). p.depth) place ∙ y.above.at)

any_at : (r : Rates) (n : Name) (asks : List Ask) → list_any (bears r n) asks ≡ true → (i : ℕ) × (bears_at r n asks i ≡ true)
any_at r n [] e = absurd (cc)
any_at r n (a ∷ asks) e = go (λ f. any_at r n asks f) (bears r n a) refl e
  where
    go : (list_any (bears r n) asks ≡ true → (i : ℕ) × (bears_at r n asks i ≡ true)) → (b : Bool) → bears r n a ≡ b → (b || list_any (bears r n) asks) ≡ true → (i : ℕ) × (bears_at r n (a ∷ asks) i ≡ true)
    go more true is e = (0, is)
    go more false is e = let rest = more e in (suc rest.0, rest.1)

name_at : (r : Rates) (asks : List Ask) (n : Name) → is_name r asks n ≡ true → 0 < length asks → (i : ℕ) × (bears_at r n asks i ≡ true)
name_at r [] Server e some = absurd (omega arith)
name_at r (a ∷ asks) Server e some = (0, refl)
name_at r asks (Direction w) e some = any_at r (Direction w) asks e
name_at r asks (Group w g) e some = any_at r (Group w g) asks e
name_at r asks (User w u) e some = any_at r (User w u) asks e
name_at r asks (Session w u s) e some = any_at r (Session w u s) asks e

some_leaf : (first leaves i : ℕ) → leaf_range first leaves i ≡ true → 1 ≤ leaves
some_leaf first leaves i e =
    let parts = and_parts (nat_le first i) (nat_lt i (first + leaves)) e in
    let low : first ≤ i = leb-true first i parts.0 in
    let high : i < first + leaves = ltb-true i (first + leaves) parts.1 in
    omega arith

-- each node of a tree with a leaf has one
has_leaf : {A : Type 0} (r : Rates) (tick : ℕ) (asks : List Ask) (root : Node A) (tree : IsTickTree r tick asks (limits (places root))) → 0 < length asks → (k : ℕ) (p : Place) → slice_get (places root) k ≡ Some p → 1 ≤ p.leaves
has_leaf {A} r tick asks root tree some k p got = go p.kind refl
  where
    go : (kind : NodeKind) → p.kind ≡ kind → 1 ≤ p.leaves
    go (Leaf want floor) is = let one : p.leaves ≡ 1 = ((shaped-tree root k p got).leaf want floor is).1 in omega arith
    go (Branch limit) is =
        let named = has_name r tick asks (places root) tree k p limit got is in
        let at = name_at r asks named.0 (tree.no_other k named.0 named.1) some in
        some_leaf p.first p.leaves at.0 (named.2.holds at.0 ∙ at.1)

leaves_are : {A : Type 0} (r : Rates) (tick : ℕ) (asks : List Ask) (root : Node A) → IsTickTree r tick asks (limits (places root)) → leaf_count (places root) ≡ length asks
leaves_are r tick asks root tree = sym (length-wants_in (places root)) ∙ (ap length tree.wants ∙ length-map asks want_of)

-- a node's first leaf and depth as one number, which no other node has
pub record HasPlace (ps : List Place) (k c : ℕ) : Type 0 where
  pub place : Place
  pub there : slice_get ps k ≡ Some place
  pub some : 1 ≤ place.leaves
  pub depth : place.depth ≤ 5
  pub is : c ≡ place.first * 6 + place.depth

later : {A : Type 0} (root : Node A) (j k : ℕ) (x y : Place) → slice_get (places root) j ≡ Some x → slice_get (places root) k ≡ Some y → 1 ≤ x.leaves → 1 ≤ y.leaves → x.first ≡ y.first → j < k → x.depth < y.depth
later root j k x y gx gy some_x some_y same less =
    later_is_deeper root j k x.first x y gx gy less (in_range x.first x.leaves x.first (omega arith) (omega arith)) (in_range y.first y.leaves x.first (omega arith) (omega arith))

few_nodes : {A : Type 0} (r : Rates) (tick : ℕ) (asks : List Ask) (root : Node A) → IsTickTree r tick asks (limits (places root)) → 0 < length asks → length (places root) ≤ 6 * length asks
few_nodes {A} r tick asks root tree some = few_places (6 * length asks) (length (places root)) (HasPlace (places root)) each once
  where
    each : (k : ℕ) → k < length (places root) → (c : ℕ) × (c < 6 * length asks) × HasPlace (places root) k c
    each k less =
        let node = node_at (places root) k less in
        let p = node.0 in
        let own_leaf : 1 ≤ p.leaves = has_leaf r tick asks root tree some k p node.1 in
        let deep : p.depth ≤ 5 = few_deep r tick asks root tree k p node.1 own_leaf in
        let most : p.first + p.leaves ≤ leaf_count (places root) = (ordered-tree root).bounded k p node.1 in
        let all : leaf_count (places root) ≡ length asks = leaves_are r tick asks root tree in
        (p.first * 6 + p.depth, omega arith, record { place = p; there = node.1; some = own_leaf; depth = deep; is = refl })

    once : (j k c : ℕ) → HasPlace (places root) j c → HasPlace (places root) k c → j ≡ k
    once j k c x y =
        let x_is : c ≡ x.place.first * 6 + x.place.depth = x.is in
        let y_is : c ≡ y.place.first * 6 + y.place.depth = y.is in
        let x_deep : x.place.depth ≤ 5 = x.depth in
        let y_deep : y.place.depth ≤ 5 = y.depth in
        let first : x.place.first ≡ y.place.first = omega arith in
        let depth : x.place.depth ≡ y.place.depth = omega arith in
        elim (cases_order j k) [
          | inl e ↦ e
          | inr either ↦ elim either [
            | inl less ↦ absurd (omega (arith, later root j k x.place y.place x.there y.there x.some y.some first less, depth))
            | inr more ↦ absurd (omega (arith, later root k j y.place x.place y.there x.there y.some x.some (sym first) more, depth))
          ]
        ]

-- ---- a tree over no asks is one branch

server_alone : (r : Rates) (n : Name) → is_name r [] n ≡ true → n ≡ Server
server_alone r Server e = refl
server_alone r (Direction w) e = absurd (cc)
server_alone r (Group w g) e = absurd (cc)
server_alone r (User w u) e = absurd (cc)
server_alone r (Session w u s) e = absurd (cc)

server_there : {A : Type 0} (r : Rates) (tick : ℕ) (root : Node A) (tree : IsTickTree r tick [] (limits (places root))) (k : ℕ) (p : Place) → slice_get (places root) k ≡ Some p → tree.name k ≡ Some Server
server_there {A} r tick root tree k p got = go p.kind refl
  where
    go : (kind : NodeKind) → p.kind ≡ kind → tree.name k ≡ Some Server
    go (Leaf want floor) is =
        let one : p.leaves ≡ 1 = ((shaped-tree root k p got).leaf want floor is).1 in
        let most : p.first + p.leaves ≤ leaf_count (places root) = (ordered-tree root).bounded k p got in
        let none : leaf_count (places root) ≡ 0 = leaves_are r tick [] root tree in
        absurd (omega arith)
    go (Branch limit) is =
        let named = has_name r tick [] (places root) tree k p limit got is in
        named.1 ∙ ap (λ (n : Name). Some n) (server_alone r named.0 (tree.no_other k named.0 named.1))

one_node : {A : Type 0} (r : Rates) (tick : ℕ) (root : Node A) (tree : IsTickTree r tick [] (limits (places root))) (j k : ℕ) (p q : Place) → slice_get (places root) j ≡ Some p → slice_get (places root) k ≡ Some q → j ≡ k
one_node r tick root tree j k p q gp gq = tree.once j k Server (server_there r tick root tree j p gp) (server_there r tick root tree k q gq)

-- ---- the bounds of a node

pub record IsSmall (asks : List Ask) (k : ℕ) (p : Place) : Type 0 where
  pub depth : p.depth ≤ 5
  pub number : k ≤ 6 * length asks
  pub leaves : p.first + p.leaves ≤ length asks

are_small : {A : Type 0} (r : Rates) (tick : ℕ) (asks : List Ask) (root : Node A) → IsTickTree r tick asks (limits (places root)) → (k : ℕ) (p : Place) → slice_get (places root) k ≡ Some p → IsSmall asks k p
are_small r tick [] root tree k p got = record {
  depth = elim (cases_lt 0 p.depth) [
    | inl deep ↦
        let up = above root k p got 0 deep in
        let is : up.0 ≡ k = one_node r tick root tree up.0 k up.1.place p up.1.there got in
        let place : up.1.place ≡ p = some_place up.1.place p (sym up.1.there ∙ (ap (slice_get (places root)) is ∙ got)) in
        omega (arith, ap (λ (x : Place). x.depth) place, up.1.at)
    | inr top ↦ omega arith
  ];
  number =
      let inside : k < length (places root) = slice_get_within (places root) k p got in
      let first = node_at (places root) 0 (omega arith) in
      let is : 0 ≡ k = one_node r tick root tree 0 k first.0 p first.1 got in
      omega arith;
  leaves = omega (arith, (ordered-tree root).bounded k p got, leaves_are r tick [] root tree);
}
are_small r tick (a ∷ asks) root tree k p got = record {
  depth = few_deep r tick (a ∷ asks) root tree k p got (has_leaf r tick (a ∷ asks) root tree (omega arith) k p got);
  number = omega (arith, few_nodes r tick (a ∷ asks) root tree (omega arith), slice_get_within (places root) k p got);
  leaves = omega (arith, (ordered-tree root).bounded k p got, leaves_are r tick (a ∷ asks) root tree);
}

-- ---- the numbers of a node

-- no ask wants more than a leaf may
abbrev AreModest : List Ask → Type 0
AreModest [] = ⊤
AreModest (a ∷ asks) = (a.want ≤ MAX_WANT) × AreModest asks

abbrev Fits : ℕ → ℕ → Type 0
Fits want floor = (want ≤ MAX_WANT) × (floor ≤ want)

first_of : {x y : ℕ} {xs ys : List ℕ} → x ∷ xs ≡ y ∷ ys → (x ≡ y) × (xs ≡ ys)
first_of e = (cc, cc)

same_leaf : (w f want floor : ℕ) → Leaf w f ≡ Leaf want floor → (w ≡ want) × (f ≡ floor)
same_leaf w f want floor e = (cc, cc)

not_branch : (limit : Option ℕ) (want floor : ℕ) → Branch limit ≡ Leaf want floor → ⊥
not_branch limit want floor e = cc

first_place : (x p : Place) (ps : List Place) → slice_get (x ∷ ps) 0 ≡ Some p → x ≡ p
first_place x p ps got = cc

-- what holds of the leaves after the first node
abbrev RestFits : Rates → List Place → Place → ℕ → ℕ → Type 0
RestFits r ps p want floor =
    (asks : List Ask) → wants_in ps ≡ map want_of asks → floors_in ps ≡ map (floor_of r) asks → AreModest asks → (k : ℕ) → slice_get ps k ≡ Some p → Fits want floor

after_leaf : (r : Rates) (x : Place) (ps : List Place) (p : Place) (want floor w f : ℕ) → RestFits r ps p want floor → x.kind ≡ Leaf w f → p.kind ≡ Leaf want floor
    → (asks : List Ask) → w ∷ wants_in ps ≡ map want_of asks → f ∷ floors_in ps ≡ map (floor_of r) asks → AreModest asks → (k : ℕ) → slice_get (x ∷ ps) k ≡ Some p → Fits want floor
after_leaf r x ps p want floor w f rest e is [] ws fs modest k got = absurd (cc)
after_leaf r x ps p want floor w f rest e is (a ∷ asks) ws fs modest zero got =
    let same = same_leaf w f want floor (sym e ∙ (ap (λ (q : Place). q.kind) (first_place x p ps got) ∙ is)) in
    let want_is : w ≡ a.want = (first_of ws).0 in
    let floor_is : f ≡ floor_of r a = (first_of fs).0 in
    let most : a.want ≤ MAX_WANT = modest.0 in
    (omega (arith, same.0), omega (arith, same.0, same.1))
after_leaf r x ps p want floor w f rest e is (a ∷ asks) ws fs modest (suc k) got = rest asks (first_of ws).1 (first_of fs).1 modest.1 k got

after_node : (r : Rates) (x : Place) (ps : List Place) (p : Place) (want floor : ℕ) → RestFits r ps p want floor → p.kind ≡ Leaf want floor → (kind : NodeKind) → x.kind ≡ kind
    → (asks : List Ask) → cons_option (leaf_want kind) (wants_in ps) ≡ map want_of asks → cons_option (leaf_floor kind) (floors_in ps) ≡ map (floor_of r) asks → AreModest asks → (k : ℕ) → slice_get (x ∷ ps) k ≡ Some p → Fits want floor
after_node r x ps p want floor rest is (Branch limit) e asks ws fs modest zero got =
    absurd (not_branch limit want floor (sym e ∙ (ap (λ (q : Place). q.kind) (first_place x p ps got) ∙ is)))
after_node r x ps p want floor rest is (Branch limit) e asks ws fs modest (suc k) got = rest asks ws fs modest k got
after_node r x ps p want floor rest is (Leaf w f) e asks ws fs modest k got = after_leaf r x ps p want floor w f rest e is asks ws fs modest k got

leaf_fits : (r : Rates) (ps : List Place) (p : Place) (want floor : ℕ) → p.kind ≡ Leaf want floor → RestFits r ps p want floor
leaf_fits r [] p want floor is = λ asks ws fs modest k got. absurd (cc)
leaf_fits r (x ∷ ps) p want floor is = λ asks ws fs modest k got. after_node r x ps p want floor (leaf_fits r ps p want floor is) is x.kind refl asks ws fs modest k got

share_fits : (rate tick : ℕ) → rate ≤ MAX_RATE → share_of rate tick ≤ MAX_LIMIT
share_fits rate tick most = omega (arith, times_more (tick % 10) rate)

limit_fits : (rate tick : ℕ) → rate ≤ MAX_RATE → kind_fault (Branch (rate_limit rate tick)) ≡ None
limit_fits rate tick most = go (nat_eq rate 0)
  where
    go : (b : Bool) → kind_fault (Branch (if b then None else Some (share_of rate tick))) ≡ None
    go true = refl
    go false = ap (λ (b : Bool). if b then Some LimitTooLarge else None) (le-ltb MAX_LIMIT (share_of rate tick) (share_fits rate tick most))

no_leaf_fault : (want floor : ℕ) → Fits want floor → kind_fault (Leaf want floor) ≡ None
no_leaf_fault want floor fits =
    ap (λ (b : Bool). if b then Some WantTooLarge else (if nat_lt want floor then Some FloorTooLarge else None)) (le-ltb MAX_WANT want fits.0)
    ∙ ap (λ (b : Bool). if b then Some FloorTooLarge else None) (le-ltb want floor fits.1)

no_kind_fault : {A : Type 0} (r : Rates) (tick : ℕ) (asks : List Ask) (root : Node A) (tree : IsTickTree r tick asks (limits (places root))) → AreFitRates r → AreModest asks → (k : ℕ) (p : Place) → slice_get (places root) k ≡ Some p → kind_fault p.kind ≡ None
no_kind_fault {A} r tick asks root tree fit modest k p got = go p.kind refl
  where
    go : (kind : NodeKind) → p.kind ≡ kind → kind_fault p.kind ≡ None
    go (Leaf want floor) is = ap kind_fault is ∙ no_leaf_fault want floor (leaf_fits r (places root) p want floor is asks tree.wants tree.floors modest k got)
    go (Branch limit) is =
        let named = has_name r tick asks (places root) tree k p limit got is in
        ap kind_fault is ∙ (ap (λ (o : Option ℕ). kind_fault (Branch o)) named.2.limit ∙ limit_fits (rate_of r named.0) tick (fit named.0))

-- ---- no fault of a node

first_leaf : {A : Type 0} (root : Node A) (k : ℕ) (p : Place) (asks : List Ask) → slice_get (places root) k ≡ Some p → p.first + p.leaves ≤ length asks → length asks ≤ MAX_LANES → (is_leaf_kind p.kind && nat_le MAX_LEAVES (0 + p.first)) ≡ false
first_leaf {A} root k p asks got most few = go p.kind refl
  where
    go : (kind : NodeKind) → p.kind ≡ kind → (is_leaf_kind p.kind && nat_le MAX_LEAVES (0 + p.first)) ≡ false
    go (Branch limit) is = ap (λ (x : NodeKind). is_leaf_kind x && nat_le MAX_LEAVES (0 + p.first)) is
    go (Leaf want floor) is =
        let one : p.leaves ≡ 1 = ((shaped-tree root k p got).leaf want floor is).1 in
        ap (λ (x : NodeKind). is_leaf_kind x && nat_le MAX_LEAVES (0 + p.first)) is ∙ lt-leb MAX_LEAVES (0 + p.first) (omega arith)

no_node_fault : {A : Type 0} (r : Rates) (tick : ℕ) (asks : List Ask) (root : Node A) → IsTickTree r tick asks (limits (places root)) → AreFitRates r → AreModest asks → length asks ≤ MAX_LANES → (k : ℕ) (p : Place) → slice_get (places root) k ≡ Some p
    → node_fault (0 + p.depth) (0 + k) (0 + p.first) p.kind ≡ None
no_node_fault r tick asks root tree fit modest few k p got =
    let small = are_small r tick asks root tree k p got in
    let depth : p.depth ≤ 5 = small.depth in
    let number : k ≤ 6 * length asks = small.number in
    let leaf = first_leaf root k p asks got small.leaves few in
    ap (λ (b : Bool). if b then Some TooDeep else (if nat_le MAX_NODES (0 + k) || (is_leaf_kind p.kind && nat_le MAX_LEAVES (0 + p.first)) then Some TooManyLeaves else kind_fault p.kind)) (le-ltb MAX_DEPTH (0 + p.depth) (omega arith))
    ∙ (ap (λ (b : Bool). if b || (is_leaf_kind p.kind && nat_le MAX_LEAVES (0 + p.first)) then Some TooManyLeaves else kind_fault p.kind) (lt-leb MAX_NODES (0 + k) (omega arith))
    ∙ (ap (λ (b : Bool). if b then Some TooManyLeaves else kind_fault p.kind) leaf
    ∙ no_kind_fault r tick asks root tree fit modest k p got))

no_first_fault : (n : ℕ) (ps : List Place) → ((k : ℕ) (p : Place) → slice_get ps k ≡ Some p → node_fault (0 + p.depth) (n + k) (0 + p.first) p.kind ≡ None) → first_fault 0 n 0 ps ≡ None
no_first_fault n [] none = refl
no_first_fault n (p ∷ ps) none =
    let here : node_fault (0 + p.depth) n (0 + p.first) p.kind ≡ None =
    subst (λ (m : ℕ). node_fault (0 + p.depth) m (0 + p.first) p.kind ≡ None) (let e : n + 0 ≡ n = omega arith in e) (none 0 p refl) in
    ap (λ (o : Option TreeFault). or_else o (first_fault 0 (n + 1) 0 ps)) here
    ∙ no_first_fault (n + 1) ps (λ k q got. subst (λ (m : ℕ). node_fault (0 + q.depth) m (0 + q.first) q.kind ≡ None) (let e : n + suc k ≡ n + 1 + k = omega arith in e) (none (suc k) q got))

-- ---- the asks, and the fault

none_large : (asks : List Asker) → list_any wants_too_much asks ≡ false → All (λ x. wants_too_much x ≡ false) asks
none_large [] e = All-nil (λ (x : Asker). wants_too_much x ≡ false)
none_large (x ∷ asks) e =
    let parts = or_parts (wants_too_much x) (list_any wants_too_much asks) e in
    All-cons (λ (x : Asker). wants_too_much x ≡ false) x asks parts.0 (none_large asks parts.1)

modest : (asks : List Asker) → All (λ x. wants_too_much x ≡ false) asks → AreModest (map ask_in asks)
modest [] all = tt
modest (x ∷ asks) all = (ltb-false MAX_WANT x.1.want (all 0 x (omega arith)), modest asks (λ k d less. all (suc k) d (omega arith)))

of_floors : (o : Option ℕ) (f : TreeFault) → option_map FloorsOverLimit o ≡ Some f → IsNotOfFloors (plan.Tree f) → ⊥
of_floors None f e = absurd (cc)
of_floors (Some branch) f e = λ not. subst (λ (x : TreeFault). IsNotOfFloors (plan.Tree x)) (sym (some_fault e)) not
  where
    some_fault : Some (FloorsOverLimit branch) ≡ Some f → FloorsOverLimit branch ≡ f
    some_fault e = cc

-- The tree of a tick over at most 64 asks, none of which wants too much, has no fault but floors above a limit.
pub no_other_fault : (A : Type 0) (r : Rates) (tick : ℕ) (asks : List Asker) (f : TreeFault) → AreFitRates r → length asks ≤ MAX_LANES → list_any wants_too_much asks ≡ false → HasFault A r tick asks f → IsNotOfFloors (plan.Tree f) → ⊥
no_other_fault A r tick asks f fit few small fault =
    let order = fault.order in
    let within : All (λ x. wants_too_much x ≡ false) order = All-permutation (λ (x : Asker). wants_too_much x ≡ false) asks order fault.all (none_large asks small) in
    let count : length (map ask_in order) ≡ length asks = length-map order ask_in ∙ length_permutation asks order fault.all in
    let none : first_fault 0 0 0 (places fault.root) ≡ None = no_first_fault 0 (places fault.root) (no_node_fault r tick (map ask_in order) fault.root fault.tree fit (modest order within) (omega (arith, count))) in
    of_floors (first_over 0 (places fault.root)) f (sym (ap (λ (o : Option TreeFault). or_else o (option_map FloorsOverLimit (first_over 0 (places fault.root)))) none) ∙ fault.is)

-- ---- the rates of rows that fit

row_of : {X : Type 0} (P : X → Type 0) (number : X → ℕ) (rows : List X) (q : ℕ) → All P rows → (x : X) → finite.get (by_number number rows) q ≡ Some x → P x
row_of P number rows q all x e =
    let found = first_contains number q rows x (sym (get-by_number number q rows) ∙ e) in
    subst P found.0.2 (all found.0.0 x found.0.1)

either_fits : (down up : ℕ) (w : Way) → down ≤ MAX_RATE → up ≤ MAX_RATE → way_of down up w ≤ MAX_RATE
either_fits down up Down d u = d
either_fits down up Up d u = u

group_fits : (o : Option GroupRate) (w : Way) → ((row : GroupRate) → o ≡ Some row → FitsGroup row) → group_rate o w ≤ MAX_RATE
group_fits None w fits = omega arith
group_fits (Some row) w fits = let f = fits row refl in either_fits row.down row.up w f.down f.up

user_fits : (o : Option UserRate) (w : Way) → ((row : UserRate) → o ≡ Some row → FitsUser row) → (user_rate o w ≤ MAX_RATE) × (session_rate o w ≤ MAX_RATE)
user_fits None w fits = (omega arith, omega arith)
user_fits (Some row) w fits = let f = fits row refl in (either_fits row.down row.up w f.down f.up, either_fits row.session_down row.session_up w f.session_down f.session_up)

pub rates_fit : (r : Rates) (groups : List GroupRate) (users : List UserRate) → by_number group_number groups ≡ r.groups → by_number user_number users ≡ r.users → All FitsGroup groups → All FitsUser users
    → r.server ≤ MAX_RATE → r.down ≤ MAX_RATE → r.up ≤ MAX_RATE → AreFitRates r
rates_fit r groups users of_groups of_users groups_fit users_fit server down up = go
  where
    group : (g : ℕ) (row : GroupRate) → finite.get r.groups g ≡ Some row → FitsGroup row
    group g row e = row_of FitsGroup group_number groups g groups_fit row (ap (λ m. finite.get m g) of_groups ∙ e)

    user : (u : ℕ) (row : UserRate) → finite.get r.users u ≡ Some row → FitsUser row
    user u row e = row_of FitsUser user_number users u users_fit row (ap (λ m. finite.get m u) of_users ∙ e)

    go : AreFitRates r
    go Server = server
    go (Direction w) = either_fits r.down r.up w down up
    go (Group w g) = group_fits (finite.get r.groups g) w (group g)
    go (User w u) = (user_fits (finite.get r.users u) w (user u)).0
    go (Session w u s) = (user_fits (finite.get r.users u) w (user u)).1

-- ---- there is at most one ask for each lane

few_askers : (i : ℕ) (s : LaneState) (o : Option Ask) → length (asker_of i s o) ≤ 1
few_askers i state.Free o = omega arith
few_askers i state.Worker o = omega arith
few_askers i state.Asked o = omega arith
few_askers i state.Round (Some a) = omega arith
few_askers i state.Round None = omega arith
few_askers i state.Granted o = omega arith

few_from : (i : ℕ) (ls : List Lane) → length (in_round_from i ls) ≤ length ls
few_from i [] = omega arith
few_from i (l ∷ ls) = omega (arith, length-append (asker_of i l.shown.state l.shown.ask) (in_round_from (suc i) ls), few_askers i l.shown.state l.shown.ask, few_from (suc i) ls)

pub few_in_round : (ls : List Lane) → length (in_round ls) ≤ length ls
few_in_round ls = few_from 0 ls

-- what holds anyway holds of a result
pub ok_always : {X E : Type 0} (r : Result X E) (T : Type 0) → T → IfOk r (λ _. T)
ok_always (Ok x) T h = h
ok_always (Err e) T h = tt
