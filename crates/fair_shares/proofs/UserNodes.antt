-- In the tree of a tick the leaves of each user are those of a branch, and such branches are side by side.
use Rattle.std.proofs.Common.{◌≡◌, ℕ, zero, suc, ◌+◌, ◌<◌, ◌≤◌, Bool, true, false, ◌||◌, [], ◌∷◌, ◌++◌, List, length, map, take, refl, sym, ap, subst, ◌∙◌, arith, inl, inr, Option, Some, None, length-append}
use Rattle.std.specs.Prelude.{IsTrue, slice_get, slice_index}
use Rattle.std.specs.List.{list_any}
use Rattle.std.specs.Option.{option_and_then}
use Rattle.std.proofs.lemmas.Bool.{cases_lt, cases_eq, false≢true}
use Rattle.std.proofs.lemmas.List.{append-nil, get_or_push}
use Rattle.std.proofs.lemmas.Option.{slice_get_within}
use Rattle.limit_tree.specs.Flat.{IsFlat, IsShaped}
use Rattle.limit_tree.specs.Outline.{branch_of, is_leaf_kind, leaf_count, leaf_range, limits}
use Rattle.limit_tree.specs.declared.place.NodeKind.{NodeKind}
use Rattle.limit_tree.specs.declared.place.NodeKind.TheVariants.{Branch, Leaf}
use Rattle.limit_tree.specs.declared.place.Place.{Place}
use Rattle.limit_tree.proofs.Nested.{in_range}
use Rattle.limit_tree.proofs.Places.{leaf_count-cons}
use Rattle.limit_tree.proofs.RangeSums.{leaf_range-inside}
use Rattle.line_rates.specs.declared.ask.Ask.{Ask}
use Rattle.line_rates.specs.declared.ask.Name.{Name}
use Rattle.line_rates.specs.declared.ask.Name.TheVariants.{User}
use Rattle.line_rates.specs.Names.{bears, want_of}
use Rattle.line_rates.specs.Rates.{Rates}
use Rattle.line_rates.specs.TickTree.{bears_in, AreNamed}
use Rattle.user_shares.specs.InRow.{AreInRow, IsNext, StandFrom}
use Rattle.fair_shares.specs.Users.{AreNodesOf, IsNodeOf, IsRunOf, IsTreeOf, is_of, is_of_user}
use Rattle.fair_shares.proofs.SameUsers.{ask_at, ask_of, at_leaf, same-self, same-through}

-- a branch with the leaves of the user of an ask
abbrev pub HasNode : List Place → List Ask → Ask → Type 0
HasNode outline asks a = (k : ℕ) × (n : IsNodeOf outline asks a k) × (is_leaf_kind n.place.kind ≡ false)

any_at : (p : Ask → Bool) (asks : List Ask) (i : ℕ) (a : Ask) → slice_get asks i ≡ Some a → p a ≡ true → list_any p asks ≡ true
any_at p [] i a at e = absurd (omega (arith, slice_get_within [] i a at))
any_at p (x ∷ asks) zero a at e = first (x_is at)
  where
    x_is : Some x ≡ Some a → p x ≡ true
    x_is h = subst (λ (o : Option Ask). true_of o ≡ true) (sym h) e
      where
        true_of : Option Ask → Bool
        true_of None = false
        true_of (Some y) = p y

    first : p x ≡ true → p x || list_any p asks ≡ true
    first h = ap (λ (b : Bool). b || list_any p asks) h
any_at p (x ∷ asks) (suc i) a at e = later (p x) (any_at p asks i a at e)
  where
    later : (b : Bool) → list_any p asks ≡ true → b || list_any p asks ≡ true
    later true h = refl
    later false h = h

same_asks : (r : Rates) (a : Ask) (o : Option Ask) → bears_in r (User a.way a.user) o ≡ is_of a o
same_asks r a None = refl
same_asks r a (Some b) = refl

pub has_node : (outline : List Place) (asks : List Ask) (i : ℕ) (a : Ask) → IsTreeOf asks (limits outline) → slice_get asks i ≡ Some a → HasNode outline asks a
has_node outline asks i a (r, tick, tree) at = by_place (slice_get outline k) refl (subst (λ (o : Option Name). AreNamed r tick asks o ((limits outline).branch k)) each.1 (tree.named k))
  where
    n : Name
    n = User a.way a.user

    each : (k : ℕ) × (tree.name k ≡ Some n)
    each = tree.each_name n (any_at (bears r n) asks i a at (same-self a))

    k : ℕ
    k = each.0

    by_kind : (p : Place) → slice_get outline k ≡ Some p → (kind : NodeKind) → p.kind ≡ kind → AreNamed r tick asks (Some n) (branch_of kind p.first p.leaves) → HasNode outline asks a
    by_kind p found (Leaf want floor) e h = absurd h
    by_kind p found (Branch limit) e h = (k, record { place = p; found = found; holds = λ j. h.holds j ∙ same_asks r a (slice_get asks j) }, ap is_leaf_kind e)

    by_place : (o : Option Place) → slice_get outline k ≡ o → AreNamed r tick asks (Some n) (option_and_then (λ p. branch_of p.kind p.first p.leaves) o) → HasNode outline asks a
    by_place None found h = absurd h
    by_place (Some p) found h = by_kind p found p.kind refl h

-- no ask from a leaf on is of the user of one before it
abbrev pub IsApartAt : List Ask → ℕ → Type 0
IsApartAt asks leaf = (j : ℕ) (b : Ask) → leaf ≤ j → slice_get asks j ≡ Some b → (i : ℕ) → i < leaf → IsTrue (is_of_user asks b i) → ⊥

-- the branch of the user whose asks begin at a leaf has the leaves of the run
pub run_is_user : (outline : List Place) (asks : List Ask) (leaf count : ℕ) (a : Ask) (k : ℕ) (n : IsNodeOf outline asks a k) → slice_get asks leaf ≡ Some a → IsRunOf asks leaf count → IsApartAt asks leaf → (n.place.first ≡ leaf) × (n.place.leaves ≡ count) × (1 ≤ count)
run_is_user outline asks leaf count a k n at run apart = (begins, long, omega (arith, mine.1, begins, long))
  where
    own : IsTrue (leaf_range n.place.first n.place.leaves leaf)
    own = n.holds leaf ∙ (at_leaf asks a a leaf at ∙ same-self a)

    mine : (n.place.first ≤ leaf) × (leaf < n.place.first + n.place.leaves)
    mine = in_range n.place.first n.place.leaves leaf own

    begins : n.place.first ≡ leaf
    begins = elim (cases_lt n.place.first leaf) [
      | inl l ↦ absurd (apart leaf a (omega arith) at n.place.first l (sym (n.holds n.place.first) ∙ leaf_range-inside n.place.first n.place.leaves n.place.first (omega arith) (omega (arith, mine.0, mine.1))))
      | inr nl ↦ omega (arith, nl, mine.0)
    ]

    more : n.place.leaves < count → ⊥
    more l = omega (arith, begins, (in_range n.place.first n.place.leaves (leaf + n.place.leaves) (n.holds (leaf + n.place.leaves) ∙ run.own a (leaf + n.place.leaves) at (omega arith) (omega (arith, l)))).1)

    fewer : count < n.place.leaves → ⊥
    fewer l = false≢true (sym (run.ends a at) ∙ (sym (n.holds (leaf + count)) ∙ leaf_range-inside n.place.first n.place.leaves (leaf + count) (omega (arith, begins)) (omega (arith, begins, l))))

    long : n.place.leaves ≡ count
    long = elim (cases_eq n.place.leaves count) [
      | inl e ↦ e
      | inr ne ↦ elim (cases_lt n.place.leaves count) [
        | inl l ↦ absurd (more l)
        | inr nl ↦ absurd (fewer (omega (arith, nl, ne)))
      ]
    ]

-- nodes with more leaves before them come later
leaves_before : (ps : List Place) (j k : ℕ) → j ≤ k → leaf_count (take j ps) ≤ leaf_count (take k ps)
leaves_before ps zero k le = omega arith
leaves_before [] (suc j) zero le = absurd (omega arith)
leaves_before [] (suc j) (suc k) le = omega arith
leaves_before (p ∷ ps) (suc j) zero le = absurd (omega arith)
leaves_before (p ∷ ps) (suc j) (suc k) le = omega (arith, leaves_before ps j k (omega arith), leaf_count-cons p (take j ps), leaf_count-cons p (take k ps))

pub comes_later : (outline : List Place) (j k : ℕ) (p q : Place) → IsShaped outline → slice_get outline j ≡ Some p → slice_get outline k ≡ Some q → p.first < q.first → j < k
comes_later outline j k p q shaped at_j at_k less =
    elim (cases_lt j k) [
      | inl l ↦ l
      | inr nl ↦ absurd (omega (arith, less, leaves_before outline k j (omega (arith, nl)), (shaped j p at_j).first, (shaped k q at_k).first))
    ]

-- What is known of the branches that were found for the asks before a leaf; `from` is the last of them.
pub record AreFoundTo (outline : List Place) (asks : List Ask) (nodes : List ℕ) (leaf from : ℕ) : Type 0 where
  pub within : leaf ≤ length asks
  pub apart : IsApartAt asks leaf
  pub low : (k count : ℕ) → IsNext outline k leaf count → from ≤ k
  pub row : (ks : List ℕ) → StandFrom outline leaf ks → StandFrom outline 0 (nodes ++ ks)
  pub users : AreNodesOf outline asks nodes

pub none_found : (outline : List Place) (asks : List Ask) → AreFoundTo outline asks [] 0 0
none_found outline asks = record {
  within = omega arith;
  apart = λ j b low at i less h. omega (arith, less);
  low = λ k count next. omega arith;
  row = λ ks h. h;
  users = λ u less. absurd (omega (arith, less));
}

-- the branch that is looked for
pub next_node : (outline : List Place) (asks : List Ask) (nodes : List ℕ) (leaf from count : ℕ) → IsTreeOf asks (limits outline) → AreFoundTo outline asks nodes leaf from → leaf < length asks → IsRunOf asks leaf count → (k : ℕ) × (from ≤ k) × IsNext outline k leaf count
next_node outline asks nodes leaf from count tree found less run =
    let a = ask_at asks leaf less in
    let n = has_node outline asks leaf a.0 tree a.1 in
    let is = run_is_user outline asks leaf count a.0 n.0 n.1 a.1 run found.apart in
    let next : IsNext outline n.0 leaf count = record { place = n.1.place; found = n.1.found; branch = n.2; some = omega (arith, is.1, is.2); at = is.0; count = is.1 } in
    (n.0, found.low n.0 count next, next)

push_all : (xs : List ℕ) (y : ℕ) (zs : List ℕ) → (xs ++ y ∷ []) ++ zs ≡ xs ++ y ∷ zs
push_all [] y zs = refl
push_all (x ∷ xs) y zs = ap (λ (l : List ℕ). x ∷ l) (push_all xs y zs)

index-front : (xs : List ℕ) (y i : ℕ) → i < length xs → slice_index (xs ++ y ∷ []) i ≡ slice_index xs i
index-front [] y i less = absurd (omega arith)
index-front (x ∷ xs) y zero less = refl
index-front (x ∷ xs) y (suc i) less = index-front xs y i (omega arith)

-- one branch more
pub one_found : (outline : List Place) (asks : List Ask) (nodes more : List ℕ) (leaf from count node : ℕ) → IsFlat outline → IsTreeOf asks (limits outline) → AreFoundTo outline asks nodes leaf from → leaf < length asks → IsRunOf asks leaf count → IsNext outline node leaf count → more ≡ nodes ++ node ∷ [] → AreFoundTo outline asks more (leaf + count) node
one_found outline asks nodes more leaf from count node flat tree found less run next is = record {
  within = run.within;
  apart = apart;
  low = λ k other n.
      let l = comes_later outline node k next.place n.place flat.shaped next.found n.found (omega (arith, next.at, n.at, user.2)) in
      omega (arith, l);
  row = λ ks h.
      subst (λ (l : List ℕ). StandFrom outline 0 l) (sym (ap (λ (l : List ℕ). l ++ ks) is ∙ push_all nodes node ks)) (found.row (node ∷ ks) (count, next, h));
  users = λ u l. elim (cases_lt u (length nodes)) [
    | inl low ↦
        let old = found.users u low in
        (old.0, subst (λ (k : ℕ). IsNodeOf outline asks old.0 k) (sym (at u ∙ index-front nodes node u low)) old.1)
    | inr high ↦
        (a.0, subst (λ (k : ℕ). IsNodeOf outline asks a.0 k) (sym (at u ∙ get_or_push nodes node 0 u (omega (arith, high, l, length-append nodes (node ∷ []), ap (λ (xs : List ℕ). length xs) is)))) own)
  ];
}
  where
    a : (b : Ask) × (slice_get asks leaf ≡ Some b)
    a = ask_at asks leaf less

    n : HasNode outline asks a.0
    n = has_node outline asks leaf a.0 tree a.1

    user : (n.1.place.first ≡ leaf) × (n.1.place.leaves ≡ count) × (1 ≤ count)
    user = run_is_user outline asks leaf count a.0 n.0 n.1 a.1 run found.apart

    at : (u : ℕ) → slice_index more u ≡ slice_index (nodes ++ node ∷ []) u
    at u = ap (λ (xs : List ℕ). slice_index xs u) is

    holds : (i : ℕ) → leaf_range leaf count i ≡ is_of_user asks a.0 i
    holds i = sym (ap (λ (f : ℕ). leaf_range f count i) user.0) ∙ (sym (ap (λ (c : ℕ). leaf_range n.1.place.first c i) user.1) ∙ n.1.holds i)

    own : IsNodeOf outline asks a.0 node
    own = record {
      place = next.place;
      found = next.found;
      holds = λ i. ap (λ (f : ℕ). leaf_range f next.place.leaves i) next.at ∙ (ap (λ (c : ℕ). leaf_range leaf c i) next.count ∙ holds i);
    }

    apart : IsApartAt asks (leaf + count)
    apart j b low at_j i less_i h = elim (cases_lt i leaf) [
      | inl l ↦ found.apart j b (omega (arith, low)) at_j i l h
      | inr nl ↦
          let x = ask_of asks b i h in
          let mine : IsTrue (is_of_user asks a.0 i) = sym (holds i) ∙ leaf_range-inside leaf count i (omega (arith, nl)) less_i in
          let same = same-through a.0 b x.0 (sym (at_leaf asks a.0 x.0 i x.1) ∙ mine) x.2 in
          omega (arith, low, (in_range leaf count j (holds j ∙ (at_leaf asks a.0 b j at_j ∙ same))).1)
    ]

length-map : (asks : List Ask) → length (map want_of asks) ≡ length asks
length-map [] = refl
length-map (a ∷ asks) = ap suc (length-map asks)

-- a leaf for each ask
pub asks_are_leaves : (outline : List Place) (asks : List Ask) → IsTreeOf asks (limits outline) → length (limits outline).wants ≡ length asks
asks_are_leaves outline asks tree = ap (λ (xs : List ℕ). length xs) tree.2.wants ∙ length-map asks

-- the branches of all users
pub all_found : (outline : List Place) (asks : List Ask) (nodes : List ℕ) (leaf from : ℕ) → IsTreeOf asks (limits outline) → AreFoundTo outline asks nodes leaf from → length asks ≤ leaf → AreInRow outline nodes
all_found outline asks nodes leaf from tree found all =
    subst (λ (l : List ℕ). StandFrom outline 0 l) (append-nil nodes) (found.row [] (omega (arith, found.within, all, asks_are_leaves outline asks tree)))
