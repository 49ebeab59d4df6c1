-- What a round by turns gives to peers.
use Rattle.std.proofs.Common.{◌≡◌, ℕ, zero, suc, ◌+◌, ◌*◌, ◌/◌, ◌<◌, ◌≤◌, Bool, true, false, cond, nat_eq, List, [], ◌∷◌, length, map, get_or, sym, refl, ap, ◌∙◌, subst, arith, ◌⊎◌, inl, inr, Option, Some, None, IsPermutation, min, count_by, sum_by, eq-eqb}
use Rattle.std.specs.Prelude.{slice_get, slice_index, slice_index_or, IsTrue, if◌then◌else◌}
use Rattle.std.specs.FinMap as finite
use Rattle.std.specs.List.{All, list_any}
use Rattle.std.specs.List.Sorted.{IsNonDecreasingBy}
use Rattle.std.specs.Option.{option_map}
use Rattle.std.proofs.lemmas.Bool.{cases_lt, cases_eq, false≢true, or_left, or_right}
use Rattle.std.proofs.lemmas.List.{get_or-map, length-map}
use Rattle.std.proofs.lemmas.List.Sums.{sum_by-cons}
use Rattle.std.proofs.lemmas.List.Sorted.{IsPermutation-map, IsPermutation-trans, sum_by-IsPermutation}
use Rattle.std.proofs.lemmas.Option.{slice_get_within, get_or_from_slice_get, slice_get-get_or}
use Rattle.limit_tree.specs.Sharing.{Branch, LeafSet, LimitTree, IsBranch, IsBest, IsWithin, sum_below, sum_over}
use Rattle.grant_certificate.specs.Equals.{HoldsOne, AreBeside, IsLimitedAs, AreEquals, EqualsAreNear}
use Rattle.round_allocator.specs.Order.{GivesInOrder}
use Rattle.line_rates.specs.declared.ask.Ask.{Ask}
use Rattle.line_rates.specs.declared.ask.Name.{Name}
use Rattle.line_rates.specs.Alike.{Numbered, number_in, asker_in, IsNumberOf, AreAlike, AreInOrder, IsOrderedPlan}
use Rattle.line_rates.specs.Names.{bears, want_of, floor_of}
use Rattle.line_rates.specs.Rates.{Rates, rate_of}
use Rattle.line_rates.specs.Ticks.{rate_limit}
use Rattle.line_rates.specs.TickTree.{Asker, ask_in, lane_in, IsTickTree, IsNamed, AreNamed, bears_in, bears_at, is_name, is_server, IsPlan}
use Rattle.fair_shares.specs.Asked.{AreApart}
use Rattle.fair_terms.specs.Fair.{IsFair}
use Rattle.line_rates.specs.declared.share_by.ShareBy.TheVariants as share
use Rattle.lane_desk.specs.Turns.{turn_of}
use Rattle.lane_desk.specs.Peers.{guarantee_of, HasRatesOf, ArePeers, ArePeersAt, turn_at, IsTurned}

-- names and branches
named_of : (r : Rates) (tick : ℕ) (asks : List Ask) (o : Option Name) (p : Option Branch) (b : Branch) → p ≡ Some b → AreNamed r tick asks o p → (n : Name) × IsNamed r tick asks n b
named_of r tick asks (Some n) (Some a) b e is = (n, subst (IsNamed r tick asks n) (inner a b e) is)
  where
    inner : (a b : Branch) → Some a ≡ Some b → a ≡ b
    inner a b e = cc
named_of r tick asks (Some n) None b e is = absurd is
named_of r tick asks None (Some a) b e is = absurd is
named_of r tick asks None None b e is = absurd (cc)

branch_of_name : (r : Rates) (tick : ℕ) (asks : List Ask) (n : Name) (o : Option Name) (p : Option Branch) → o ≡ Some n → AreNamed r tick asks o p → (b : Branch) × (p ≡ Some b) × IsNamed r tick asks n b
branch_of_name r tick asks n (Some m) (Some b) e is = (b, refl, subst (λ (x : Name). IsNamed r tick asks x b) (inner m n e) is)
  where
    inner : (m n : Name) → Some m ≡ Some n → m ≡ n
    inner m n e = cc
branch_of_name r tick asks n (Some m) None e is = absurd is
branch_of_name r tick asks n None p e is = absurd (cc)

-- an ask of a list under a name
some_bears : (p : Ask → Bool) (asks : List Ask) (i : ℕ) (a : Ask) → slice_get asks i ≡ Some a → p a ≡ true → list_any p asks ≡ true
some_bears p [] i a e is = absurd (cc)
some_bears p (x ∷ asks) zero a e is = or_left (p x) (list_any p asks) (ap p (inner x a e) ∙ is)
  where
    inner : (x a : Ask) → Some x ≡ Some a → x ≡ a
    inner x a e = cc
some_bears p (x ∷ asks) (suc i) a e is = or_right (p x) (list_any p asks) (some_bears p asks i a e is)

-- asks that pass a test
abbrev weight : Bool → ℕ
weight b = cond b 1 0

one_passes : (r : Rates) (n : Name) (asks : List Ask) (i : ℕ) → bears_at r n asks i ≡ true → 1 ≤ count_by (bears r n) asks
one_passes r n [] i is = absurd (false≢true is)
one_passes r n (x ∷ asks) zero is = let here = ap weight is in omega (arith, here, sum_by-cons (λ a. weight (bears r n a)) x asks)
one_passes r n (x ∷ asks) (suc i) is = omega (arith, one_passes r n asks i is, sum_by-cons (λ a. weight (bears r n a)) x asks)

two_pass : (r : Rates) (n : Name) (asks : List Ask) (i j : ℕ) → i < j → bears_at r n asks i ≡ true → bears_at r n asks j ≡ true → 2 ≤ count_by (bears r n) asks
two_pass r n [] i j lt in_i in_j = absurd (false≢true in_i)
two_pass r n (x ∷ asks) i zero lt in_i in_j = absurd (omega arith)
two_pass r n (x ∷ asks) zero (suc j) lt in_i in_j = let here = ap weight in_i in omega (arith, here, one_passes r n asks j in_j, sum_by-cons (λ a. weight (bears r n a)) x asks)
two_pass r n (x ∷ asks) (suc i) (suc j) lt in_i in_j = omega (arith, two_pass r n asks i j (omega arith) in_i in_j, sum_by-cons (λ a. weight (bears r n a)) x asks)

-- a name of one ask has a branch over one leaf
holds_one : (r : Rates) (tick : ℕ) (asks : List Ask) (n : Name) (b : Branch) → IsNamed r tick asks n b → count_by (bears r n) asks ≤ 1 → HoldsOne b
holds_one r tick asks n b named few i j in_i in_j = elim (cases_eq i j) [
  | inl same ↦ same
  | inr other ↦
      let here : bears_at r n asks i ≡ true = sym (named.holds i) ∙ in_i in
      let there : bears_at r n asks j ≡ true = sym (named.holds j) ∙ in_j in
      elim (cases_lt i j) [
        | inl lt ↦ absurd (omega (arith, two_pass r n asks i j lt here there))
        | inr le ↦ absurd (omega (arith, two_pass r n asks j i (omega arith) there here))
      ]
]

module _ (r : Rates) (tick : ℕ) (asks : List Ask) (t : LimitTree) (tree : IsTickTree r tick asks t) where
  held_by : (n : Name) (b : Branch) (i : ℕ) (a : Ask) → IsNamed r tick asks n b → slice_get asks i ≡ Some a → b.holds i ≡ bears r n a
  held_by n b i a named at = named.holds i ∙ ap (bears_in r n) at

  beside : (i j : ℕ) (a b : Ask) → slice_get asks i ≡ Some a → slice_get asks j ≡ Some b → AreAlike r asks a b → AreBeside t i j
  beside i j a b at_i at_j alike k c is =
      let named = named_of r tick asks (tree.name k) (t.branch k) c is (tree.named k) in
      elim (alike.names named.0) [
        | inl same ↦ inl (held_by named.0 c i a named.1 at_i ∙ same ∙ sym (held_by named.0 c j b named.1 at_j))
        | inr few ↦ inr (holds_one r tick asks named.0 c named.1 few)
      ]

  -- the branch of a name that an ask counts under
  branch_for : (n : Name) (i : ℕ) (a : Ask) → slice_get asks i ≡ Some a → bears r n a ≡ true → (k : ℕ) × (b : Branch) × IsBranch t k b × IsNamed r tick asks n b × IsTrue (b.holds i)
  branch_for n i a at is =
      let k = tree.each_name n (or_right (is_server n) (list_any (bears r n) asks) (some_bears (bears r n) asks i a at is)) in
      let b = branch_of_name r tick asks n (tree.name k.0) (t.branch k.0) k.1 (tree.named k.0) in
      (k.0, b.0, b.1, b.2, held_by n b.0 i a b.2 at ∙ is)

  limited_as : (i j : ℕ) (a b : Ask) → slice_get asks i ≡ Some a → slice_get asks j ≡ Some b → HasRatesOf r a b → IsLimitedAs t i j
  limited_as i j a b at_i at_j rates k most c is limit in_j not_i =
      let named = named_of r tick asks (tree.name k) (t.branch k) c is (tree.named k) in
      let twin = rates named.0 (sym (held_by named.0 c j b named.1 at_j) ∙ in_j) (sym (held_by named.0 c i a named.1 at_i) ∙ not_i) in
      let own = branch_for twin.0 i a at_i twin.1 in
      (own.0, own.1, own.2, own.3.limit ∙ ap (λ x. rate_limit x tick) twin.2 ∙ sym named.1.limit ∙ limit, own.4)

  equals : (i j : ℕ) (a b : Ask) → slice_get asks i ≡ Some a → slice_get asks j ≡ Some b → ArePeers r asks a b → AreEquals t i j
  equals i j a b at_i at_j peers = record {
    beside = beside i j a b at_i at_j peers.alike;
    one = limited_as i j a b at_i at_j peers.one;
    other = limited_as j i b a at_j at_i peers.other;
  }

-- the number of a leaf's ask
number_at : (f : Ask → ℕ) (asks : List Ask) (i : ℕ) (a : Ask) → slice_get asks i ≡ Some a → slice_index (map f asks) i ≡ f a
number_at f asks i a at = get_or-map f asks i a 0 (slice_get_within asks i a at) ∙ ap f (get_or_from_slice_get asks i a a at)

least : (n : ℕ) (holds : LeafSet) (g : List ℕ) (i : ℕ) → i < n → IsTrue (holds i) → slice_index g i ≤ sum_below n (λ k. if holds k then slice_index g k else 0)
least zero holds g i l held = absurd (omega arith)
least (suc n) holds g i l held = elim (cases_eq i n) [
  | inl same ↦
      let here : (if holds n then slice_index g n else 0) ≡ slice_index g n = ap (λ (b : Bool). if b then slice_index g n else 0) (subst (λ (k : ℕ). holds k ≡ true) same held) in
      omega (arith, here, ap (slice_index g) same)
  | inr other ↦ omega (arith, least n holds g i (omega arith) held)
]

most : (n : ℕ) (b : Branch) (g : List ℕ) (i : ℕ) → HoldsOne b → IsTrue (b.holds i) → sum_below n (λ k. if b.holds k then slice_index g k else 0) ≤ slice_index g i
most zero b g i one held = omega arith
most (suc n) b g i one held = elim (cases_eq i n) [
  | inl same ↦
      let here : (if b.holds n then slice_index g n else 0) ≤ slice_index g n = at_most (b.holds n) in
      omega (arith, here, nothing n (omega arith), ap (slice_index g) same)
  | inr other ↦
      let last : (if b.holds n then slice_index g n else 0) ≡ 0 = out (slice_index g n) (b.holds n) (λ h. other (one i n held h)) in
      omega (arith, last, most n b g i one held)
]
  where
    at_most : (x : Bool) → (if x then slice_index g n else 0) ≤ slice_index g n
    at_most true = omega arith
    at_most false = omega arith

    out : (m : ℕ) (x : Bool) → (IsTrue x → ⊥) → (if x then m else 0) ≡ 0
    out m true fails = absurd (fails refl)
    out m false fails = refl

    nothing : (m : ℕ) → m ≤ i → sum_below m (λ k. if b.holds k then slice_index g k else 0) ≤ 0
    nothing zero l = omega arith
    nothing (suc m) l =
        let last : (if b.holds m then slice_index g m else 0) ≡ 0 = out (slice_index g m) (b.holds m) (λ h. (let e : i ≡ m = one i m held h in omega arith)) in
        omega (arith, last, nothing m (omega arith))

swapped : (r : Rates) (asks : List Ask) (a b : Ask) → AreAlike r asks a b → AreAlike r asks b a
swapped r asks a b alike = record {
  group = sym alike.group;
  names = λ n. elim (alike.names n) [ inl same ↦ inl (sym same) | inr few ↦ inr few ];
}

-- peers the other way round
pub flipped : (r : Rates) (asks : List Ask) (g : List ℕ) (i j : ℕ) → ArePeersAt r asks g i j → ArePeersAt r asks g j i
flipped r asks g i j p = record {
  one = p.other;
  other = p.one;
  one_is = p.other_is;
  other_is = p.one_is;
  sessions = p.sessions;
  peers = record {
    alike = swapped r asks p.one p.other p.peers.alike;
    one = p.peers.other;
    other = p.peers.one;
    guarantees = sym p.peers.guarantees;
  };
  one_waits = p.other_waits;
  other_waits = p.one_waits;
}

module _ (r : Rates) (tick : ℕ) (asks : List Ask) (t : LimitTree) (g : List ℕ) (tree : IsTickTree r tick asks t) (best : IsBest t g) where
  size : length g ≡ length asks
  size = best.within.wanted.leaves ∙ (ap length tree.wants ∙ length-map asks want_of)

  inside : (i : ℕ) (a : Ask) → slice_get asks i ≡ Some a → i < length g
  inside i a at = omega (arith, size, slice_get_within asks i a at)

  floor_at : (i : ℕ) (a : Ask) → slice_get asks i ≡ Some a → (slice_index t.floors i ≡ min a.want (guarantee_of r a / 10)) × (slice_index t.floors i ≤ slice_index g i)
  floor_at i a at = (ap (λ fs. slice_index fs i) tree.floors ∙ number_at (floor_of r) asks i a at, best.within.floors i (inside i a at))

  want_at : (i : ℕ) (a : Ask) → slice_get asks i ≡ Some a → slice_index t.wants i ≡ a.want
  want_at i a at = ap (λ ws. slice_index ws i) tree.wants ∙ number_at want_of asks i a at

  -- peers that wait, of which one has its floor
  at_floor : (i j : ℕ) (p : ArePeersAt r asks g i j) → slice_index g i ≤ slice_index t.floors i → slice_index g i ≤ slice_index g j
  at_floor i j p low =
      let one = floor_at i p.one p.one_is in
      let other = floor_at j p.other p.other_is in
      let same : guarantee_of r p.one / 10 ≡ guarantee_of r p.other / 10 = ap (λ x. x / 10) p.peers.guarantees in
      omega (arith, low, one.0, other.0, other.1, same, p.one_waits, p.other_waits)

  pub peers_near : EqualsAreNear → (i j : ℕ) → ArePeersAt r asks g i j → slice_index g i ≤ slice_index g j + 1
  peers_near near i j p =
      let unmet : slice_index g j < slice_index t.wants j = omega (arith, want_at j p.other p.other_is, p.other_waits) in
      elim (near t g i j best (inside i p.one p.one_is) (inside j p.other p.other_is) (equals r tick asks t tree i j p.one p.other p.one_is p.other_is p.peers) unmet) [
        | inl le ↦ le
        | inr low ↦ omega (arith, at_floor i j p low)
      ]

  -- the one with the lower leaf
  pub lower_first : GivesInOrder t g → (i j : ℕ) → i < j → ArePeersAt r asks g i j → slice_index g j ≤ slice_index g i
  lower_first order i j lt p =
      let unmet : slice_index g i < slice_index t.wants i = omega (arith, want_at i p.one p.one_is, p.one_waits) in
      let eq = equals r tick asks t tree i j p.one p.other p.one_is p.other_is p.peers in
      elim (order i j lt (inside j p.other p.other_is) eq.beside unmet) [
        | inl le ↦ le
        | inr (inl low) ↦ at_floor j i (flipped r asks g i j p) low
        | inr (inr held) ↦
            let b = held.1 in
            let one : HoldsOne b = elim (eq.beside held.0 b held.2) [ inl same ↦ absurd (false≢true (sym held.4 ∙ (sym same ∙ held.3))) | inr one ↦ one ] in
            let twin = eq.other held.0 (sum_over b.holds g) b held.2 held.5 held.3 held.4 in
            omega (
              arith,
              most (length g) b g i one held.3,
              least (length g) twin.1.holds g j (inside j p.other p.other_is) twin.4,
              best.within.limits twin.0 (sum_over b.holds g) twin.1 twin.2 twin.3,
            )
      ]

-- the lanes of different leaves
abbrev on : ℕ → Asker → ℕ
on lane x = cond (nat_eq (lane_in x) lane) 1 0

once : (xs : List Asker) (lane k : ℕ) → k < length xs → slice_index (map lane_in xs) k ≡ lane → 1 ≤ sum_by (on lane) xs
once [] lane k lt is = absurd (omega arith)
once (x ∷ xs) lane zero lt is = let here = ap weight (eq-eqb (lane_in x) lane is) in omega (arith, here, sum_by-cons (on lane) x xs)
once (x ∷ xs) lane (suc k) lt is = omega (arith, once xs lane k (omega arith) is, sum_by-cons (on lane) x xs)

twice : (xs : List Asker) (lane k l : ℕ) → k < l → l < length xs → slice_index (map lane_in xs) k ≡ lane → slice_index (map lane_in xs) l ≡ lane → 2 ≤ sum_by (on lane) xs
twice [] lane k l less lt in_k in_l = absurd (omega arith)
twice (x ∷ xs) lane k zero less lt in_k in_l = absurd (omega arith)
twice (x ∷ xs) lane zero (suc l) less lt in_k in_l = let here = ap weight (eq-eqb (lane_in x) lane in_k) in omega (arith, here, once xs lane l (omega arith) in_l, sum_by-cons (on lane) x xs)
twice (x ∷ xs) lane (suc k) (suc l) less lt in_k in_l = omega (arith, twice xs lane k l (omega arith) (omega arith) in_k in_l, sum_by-cons (on lane) x xs)

lanes_apart : (order : List Asker) → AreApart order → (i j : ℕ) → i < length order → j < length order → slice_index (map lane_in order) i ≡ slice_index (map lane_in order) j → i ≡ j
lanes_apart order apart i j in_i in_j same =
    let lane : ℕ = slice_index (map lane_in order) i in
    elim (cases_eq i j) [
      | inl e ↦ e
      | inr other ↦ elim (cases_lt i j) [
        | inl lt ↦ absurd (omega (arith, twice order lane i j lt in_j refl (sym same), apart lane))
        | inr le ↦ absurd (omega (arith, twice order lane j i (omega arith) in_i (sym same) refl, apart lane))
      ]
    ]

pub apart_moved : (xs ys : List Asker) → IsPermutation xs ys → AreApart xs → AreApart ys
apart_moved xs ys moved apart lane = omega (arith, sum_by-IsPermutation (on lane) xs ys moved, apart lane)

-- alike among asks in another order
alike_moved : (r : Rates) (xs ys : List Ask) (a b : Ask) → IsPermutation xs ys → AreAlike r ys a b → AreAlike r xs a b
alike_moved r xs ys a b moved alike = record {
  group = alike.group;
  names = λ n. elim (alike.names n) [ inl same ↦ inl same | inr few ↦ inr (omega (arith, sum_by-IsPermutation (λ x. cond (bears r n x) 1 0) xs ys moved)) ];
}

-- alike asks are leaves in the order of their turns
in_turns : (r : Rates) (tick : ℕ) (had : List ℕ) (handed : List Asker) (t : LimitTree) (lanes : List ℕ) (o : IsOrderedPlan r tick handed t lanes) → IsNonDecreasingBy (turn_of had) handed
    → (k l : ℕ) (a b : Ask) → k < l → slice_get (map ask_in o.plan.order) k ≡ Some a → slice_get (map ask_in o.plan.order) l ≡ Some b → AreAlike r (map ask_in o.plan.order) a b → turn_at had lanes k ≤ turn_at had lanes l
in_turns r tick had handed t lanes o sorted k l a b lt at_k at_l alike =
    let d : Numbered = (0, (0, a)) in
    let leaves = o.leaves in
    let asks : map ask_in o.plan.order ≡ map ask_in (map asker_in leaves) = ap (map ask_in) (sym o.are) in
    let size : length (map ask_in (map asker_in leaves)) ≡ length leaves = length-map (map asker_in leaves) ask_in ∙ length-map leaves asker_in in
    let here : slice_get (map ask_in (map asker_in leaves)) k ≡ Some a = sym (ap (λ xs. slice_get xs k) asks) ∙ at_k in
    let there : slice_get (map ask_in (map asker_in leaves)) l ≡ Some b = sym (ap (λ xs. slice_get xs l) asks) ∙ at_l in
    let in_l : l < length leaves = omega (arith, size, slice_get_within (map ask_in (map asker_in leaves)) l b there) in
    let in_k : k < length leaves = omega arith in
    let x = get_or leaves k d in
    let y = get_or leaves l d in
    let ask_at : (m : ℕ) → m < length leaves → get_or (map ask_in (map asker_in leaves)) m a ≡ ask_in (asker_in (get_or leaves m d)) = λ m inside.
    get_or-map ask_in (map asker_in leaves) m (asker_in d) a (omega (arith, length-map leaves asker_in)) ∙ ap ask_in (get_or-map asker_in leaves m d (asker_in d) inside) in
    let is_a : ask_in (asker_in x) ≡ a = sym (ask_at k in_k) ∙ get_or_from_slice_get (map ask_in (map asker_in leaves)) k a a here in
    let is_b : ask_in (asker_in y) ≡ b = sym (ask_at l in_l) ∙ get_or_from_slice_get (map ask_in (map asker_in leaves)) l b a there in
    let alike_there = alike_moved r (map ask_in handed) (map ask_in o.plan.order) a b (IsPermutation-map ask_in handed o.plan.order o.plan.all) alike in
    let alike_here : AreAlike r (map ask_in handed) (ask_in (asker_in x)) (ask_in (asker_in y)) = subst (λ z. AreAlike r (map ask_in handed) z (ask_in (asker_in y))) (sym is_a) (subst (λ z. AreAlike r (map ask_in handed) a z) (sym is_b) alike_there) in
    let le = o.in_order k l x y lt (slice_get-get_or leaves k d in_k) (slice_get-get_or leaves l d in_l) alike_here in
    let from_x : slice_get handed (number_in x) ≡ Some (asker_in x) = o.of k d in_k in
    let from_y : slice_get handed (number_in y) ≡ Some (asker_in y) = o.of l d in_l in
    let up = sorted (number_in x) (number_in y) (asker_in d) le (slice_get_within handed (number_in y) (asker_in y) from_y) in
    let at_x : get_or handed (number_in x) (asker_in d) ≡ asker_in x = get_or_from_slice_get handed (number_in x) (asker_in x) (asker_in d) from_x in
    let at_y : get_or handed (number_in y) (asker_in d) ≡ asker_in y = get_or_from_slice_get handed (number_in y) (asker_in y) (asker_in d) from_y in
    let lane_at : (m : ℕ) → m < length leaves → slice_index lanes m ≡ lane_in (asker_in (get_or leaves m d)) = λ m inside.
    ap (λ xs. slice_index xs m) (o.plan.lanes_are ∙ ap (map lane_in) (sym o.are)) ∙ (get_or-map lane_in (map asker_in leaves) m (asker_in d) 0 (omega (arith, length-map leaves asker_in)) ∙ ap lane_in (get_or-map asker_in leaves m d (asker_in d) inside)) in
    let turn_x : turn_at had lanes k ≡ turn_of had (asker_in x) = ap (λ n. slice_index had n * 64 + n) (lane_at k in_k) in
    let turn_y : turn_at had lanes l ≡ turn_of had (asker_in y) = ap (λ n. slice_index had n * 64 + n) (lane_at l in_l) in
    let low : turn_of had (get_or handed (number_in x) (asker_in d)) ≡ turn_of had (asker_in x) = ap (turn_of had) at_x in
    let high : turn_of had (get_or handed (number_in y) (asker_in d)) ≡ turn_of had (asker_in y) = ap (turn_of had) at_y in
    subst (λ n. n ≤ turn_at had lanes l) (sym turn_x) (subst (λ n. turn_of had (asker_in x) ≤ n) (sym turn_y) (subst (λ n. n ≤ turn_of had (asker_in y)) low (subst (λ n. turn_of had (get_or handed (number_in x) (asker_in d)) ≤ n) high up)))

-- a round whose asks were handed over by turns
pub turned : (r : Rates) (tick : ℕ) (had : List ℕ) (handed : List Asker) (t : LimitTree) (lanes : List ℕ) (asks : List Ask) (g : List ℕ) (o : IsOrderedPlan r tick handed t lanes) → asks ≡ map ask_in o.plan.order → AreApart handed → (r.share_by ≡ share.Sessions → IsNonDecreasingBy (turn_of had) handed)
    → length lanes ≡ length g → IsFair r.share_by asks t g → (r.share_by ≡ share.Sessions → GivesInOrder t g) → EqualsAreNear → IsTurned had r lanes asks g
turned r tick had handed t lanes asks g o is apart sorted each fair order near =
    let order_size : length lanes ≡ length o.plan.order = ap length o.plan.lanes_are ∙ length-map o.plan.order lane_in in
    let tree : IsTickTree r tick asks t = subst (λ xs. IsTickTree r tick xs t) (sym is) o.plan.tree in
    let best : r.share_by ≡ share.Sessions → IsBest t g = λ sessions. subst (λ by. IsFair by asks t g) sessions fair in
    let later : (i j : ℕ) → ArePeersAt r asks g i j → i < j → turn_at had lanes i ≤ turn_at had lanes j = λ i j p lt.
    in_turns r tick had handed t lanes o (sorted p.sessions) i j p.one p.other lt (sym (ap (λ xs. slice_get xs i) is) ∙ p.one_is) (sym (ap (λ xs. slice_get xs j) is) ∙ p.other_is) (subst (λ xs. AreAlike r xs p.one p.other) is p.peers.alike) in
    record {
      each = each;
      apart = λ i j in_i in_j same. lanes_apart o.plan.order (apart_moved handed o.plan.order o.plan.all apart) i j (omega (arith, order_size)) (omega (arith, order_size))
          (sym (ap (λ xs. slice_index xs i) o.plan.lanes_are) ∙ same ∙ ap (λ xs. slice_index xs j) o.plan.lanes_are);
      near = λ i j p. peers_near r tick asks t g tree (best p.sessions) near i j p;
      first = λ i j p turns. elim (cases_lt i j) [
        | inl lt ↦ lower_first r tick asks t g tree (best p.sessions) (order p.sessions) i j lt p
        | inr le ↦ elim (cases_eq i j) [
          | inl same ↦ (let e = ap (turn_at had lanes) same in absurd (omega arith))
          | inr other ↦ absurd (omega (arith, later j i (flipped r asks g i j p) (omega arith)))
        ]
      ];
    }
