-- A grown tree, from its root on, is the tree of the tick.
use Rattle.std.proofs.Common.{◌≡◌, ℕ, zero, suc, ◌≤◌, Bool, true, false, ◌||◌, cond, List, [], ◌∷◌, map, sym, refl, ap, ◌∙◌, subst, arith, Option, Some, None}
use Rattle.std.specs.Prelude.{slice_get, ◌&&◌, count_by, IsPermutation}
use Rattle.std.specs.List.{AllByRecursion, list_any}
use Rattle.std.specs.Option.{option_and_then}
use Rattle.std.proofs.lemmas.Bool.{le-leb}
use Rattle.std.proofs.lemmas.List.Sums.{sum_by-cons}
use Rattle.std.proofs.lemmas.List.Sorted.{list_any-IsPermutation, IsPermutation-map}
use Rattle.limit_tree.specs.Sharing.{Branch as SharedBranch}
use Rattle.limit_tree.specs.Outline.{is_leaf_kind, limits, places, branch_of, deeper, branch_over}
use Rattle.limit_tree.specs.declared.node.Node.{Node}
use Rattle.limit_tree.specs.declared.place.NodeKind.{NodeKind}
use Rattle.limit_tree.specs.declared.place.NodeKind.TheVariants.{Branch, Leaf}
use Rattle.limit_tree.specs.declared.place.Place.{Place}
use Rattle.line_rates.specs.declared.ask.Ask.{Ask}
use Rattle.line_rates.specs.declared.ask.Name.{Name}
use Rattle.line_rates.specs.declared.ask.Name.TheVariants.{Server, Direction, Group, User, Session}
use Rattle.line_rates.specs.Names.{bears}
use Rattle.line_rates.specs.Rates.{Rates, group_of, rate_of}
use Rattle.line_rates.specs.Ticks.{rate_limit}
use Rattle.line_rates.specs.TickTree.{Asker, ask_in, lane_in, IsPlan, is_server, is_name, AreNamed, IsTickTree}
use Rattle.line_rates.specs.Grown.{same_name, level_of, bears_from, named_from, Mark, place_in, is_option, is_marked, IsMarkBy, IsMark, IsGrown, IsGrownFrom}
use Rattle.line_rates.specs.FloorSums.{FloorsFit}
use Rattle.line_rates.specs.Refused.{HasFault, IsNotOfFloors}
use Rattle.line_rates.specs.declared.fault.PlanFault.TheVariants.{Tree}
use Rattle.limit_tree.specs.Faults.{tree_fault}
use Rattle.limit_tree.specs.declared.fault.TreeFault.{TreeFault}
use Rattle.limit_tree.specs.declared.fault.TreeFault.TheVariants.{TooDeep, TooManyLeaves, WantTooLarge, LimitTooLarge, FloorTooLarge, FloorsOverLimit}
use Rattle.line_rates.proofs.FloorLemmas.{floors_within, fit_in_order, none_over}
use Rattle.line_rates.proofs.MarkLemmas.{grown_over, grown_named}
use Rattle.line_rates.proofs.NameLemmas.{same_name-is, same_name-refl}

-- the name of a number
abbrev pub name_in : List Mark → ℕ → Option Name
name_in ms k = option_and_then (λ m. m.name) (slice_get ms k)

abbrev branch_in : List Mark → ℕ → Option SharedBranch
branch_in ms k = option_and_then (λ p. branch_of p.kind p.first p.leaves) (slice_get (map place_in ms) k)

mark_named : (r : Rates) (tick : ℕ) (named : Name → Bool) (asks : List Ask) (o : Option Name) (p : Place) → IsMarkBy r tick named asks o p → AreNamed r tick asks o (branch_of p.kind p.first p.leaves)
mark_named r tick named asks None p h = leafy p.kind h
  where
    leafy : (k : NodeKind) → is_leaf_kind k ≡ true → AreNamed r tick asks None (branch_of k p.first p.leaves)
    leafy (Branch limit) e = absurd (cc)
    leafy (Leaf want floor) e = tt
mark_named r tick named asks (Some n) p h = subst (λ k. AreNamed r tick asks (Some n) (branch_of k p.first p.leaves)) (sym h.kind) (record { limit = refl; holds = h.holds })

all_named : (r : Rates) (tick : ℕ) (named : Name → Bool) (asks : List Ask) (ms : List Mark) → AllByRecursion (IsMark r tick named asks) ms → (k : ℕ) → AreNamed r tick asks (name_in ms k) (branch_in ms k)
all_named r tick named asks [] h k = tt
all_named r tick named asks (m ∷ ms) h zero = mark_named r tick named asks m.name m.place h.0
all_named r tick named asks (m ∷ ms) h (suc k) = all_named r tick named asks ms h.1 k

is_among : (r : Rates) (tick : ℕ) (named : Name → Bool) (asks : List Ask) (ms : List Mark) → AllByRecursion (IsMark r tick named asks) ms → (k : ℕ) (n : Name) → name_in ms k ≡ Some n → named n ≡ true
is_among r tick named asks [] h k n e = absurd (cc)
is_among r tick named asks (m ∷ ms) h zero n e = (subst (λ o. IsMarkBy r tick named asks o m.place) e h.0).among
is_among r tick named asks (m ∷ ms) h (suc k) n e = is_among r tick named asks ms h.1 k n e

abbrev mark_count : Name → Mark → ℕ
mark_count n m = cond (is_marked n m) 1 0

abbrev one_if : Bool → ℕ
one_if b = cond b 1 0

counted : (n : Name) (ms : List Mark) (k : ℕ) → name_in ms k ≡ Some n → 1 ≤ count_by (is_marked n) ms
counted n [] k e = absurd (cc)
counted n (m ∷ ms) zero e = let one : mark_count n m ≡ 1 = ap one_if (ap (is_option n) e ∙ same_name-refl n) in omega (arith, sum_by-cons (mark_count n) m ms)
counted n (m ∷ ms) (suc k) e = omega (arith, sum_by-cons (mark_count n) m ms, counted n ms k e)

found_mark : (n : Name) (ms : List Mark) → 1 ≤ count_by (is_marked n) ms → (k : ℕ) × (name_in ms k ≡ Some n)
found_mark n [] h = absurd (omega arith)
found_mark n (m ∷ ms) h = go (λ l. found_mark n ms l) m.name refl (same_name-is n)
  where
    here : (o : Option Name) → m.name ≡ o → is_option n o ≡ true → ((k : Name) → same_name n k ≡ true → n ≡ k) → m.name ≡ Some n
    here None e t is = absurd (cc)
    here (Some k) e t is = e ∙ ap (λ x. Some x) (sym (is k t))

    go : (1 ≤ count_by (is_marked n) ms → (k : ℕ) × (name_in ms k ≡ Some n)) → (o : Option Name) → m.name ≡ o → ((k : Name) → same_name n k ≡ true → n ≡ k) → (k : ℕ) × (name_in (m ∷ ms) k ≡ Some n)
    go more o e is = choose more (is_option n o) refl
      where
        choose : (1 ≤ count_by (is_marked n) ms → (k : ℕ) × (name_in ms k ≡ Some n)) → (b : Bool) → is_option n o ≡ b → (k : ℕ) × (name_in (m ∷ ms) k ≡ Some n)
        choose next true t = (0, here o e t is)
        choose next false t = let none : mark_count n m ≡ 0 = ap one_if (ap (is_option n) e ∙ t) in let r = next (omega (arith, sum_by-cons (mark_count n) m ms)) in (suc r.0, r.1)

one_mark : (n : Name) (ms : List Mark) → count_by (is_marked n) ms ≤ 1 → (j k : ℕ) → name_in ms j ≡ Some n → name_in ms k ≡ Some n → j ≡ k
one_mark n [] h j k a b = absurd (cc)
one_mark n (m ∷ ms) h zero zero a b = refl
one_mark n (m ∷ ms) h zero (suc k) a b =
    let one : mark_count n m ≡ 1 = ap one_if (ap (is_option n) a ∙ same_name-refl n) in absurd (omega (arith, sum_by-cons (mark_count n) m ms, counted n ms k b))
one_mark n (m ∷ ms) h (suc j) zero a b =
    let one : mark_count n m ≡ 1 = ap one_if (ap (is_option n) b ∙ same_name-refl n) in absurd (omega (arith, sum_by-cons (mark_count n) m ms, counted n ms j a))
one_mark n (m ∷ ms) h (suc j) (suc k) a b = ap (λ (x : ℕ). suc x) (one_mark n ms (omega (arith, sum_by-cons (mark_count n) m ms)) j k a b)

at_most_one : (b : Bool) → cond b 1 0 ≤ 1
at_most_one true = omega arith
at_most_one false = omega arith

-- grown by all names, it is the tree of the tick
pub grown_whole : (r : Rates) (tick : ℕ) (asks : List Ask) (ps : List Place) → IsGrown r tick (is_name r asks) asks ps → IsTickTree r tick asks (limits ps)
grown_whole r tick asks ps g = record {
  wants = g.wants;
  floors = g.floors;
  name = name_in g.marks;
  named = λ k. subst (λ (us : List Place). AreNamed r tick asks (name_in g.marks k) ((limits us).branch k)) (sym g.are) (all_named r tick (is_name r asks) asks g.marks g.right k);
  no_other = is_among r tick (is_name r asks) asks g.marks g.right;
  each_name = λ n h. found_mark n g.marks (let one : one_if (is_name r asks n) ≡ 1 = ap one_if h in omega (arith, g.once n));
  once = λ j k n. one_mark n g.marks (omega (arith, g.once n, at_most_one (is_name r asks n))) j k;
}

server_above : (r : Rates) (asks : List Ask) → named_from r 1 asks Server ≡ false
server_above r [] = refl
server_above r (a ∷ asks) = server_above r asks

all_server : (r : Rates) (asks : List Ask) → AllByRecursion (λ a. bears r Server a ≡ true) asks
all_server r [] = tt
all_server r (a ∷ asks) = (refl, all_server r asks)

and_it : (b : Bool) → (b && true) ≡ b
and_it true = refl
and_it false = refl

pub any_same : (p q : Ask → Bool) → ((a : Ask) → p a ≡ q a) → (asks : List Ask) → list_any p asks ≡ list_any q asks
any_same p q h [] = refl
any_same p q h (a ∷ asks) = ap (λ (b : Bool). b || list_any p asks) (h a) ∙ ap (λ (b : Bool). q a || b) (any_same p q h asks)

below_server : (r : Rates) (n : Name) → is_server n ≡ false → (a : Ask) → bears_from r 1 n a ≡ bears r n a
below_server r Server e a = absurd (cc)
below_server r (Direction w) e a = and_it (bears r (Direction w) a)
below_server r (Group w g) e a = and_it (bears r (Group w g) a)
below_server r (User w u) e a = ap (λ (b : Bool). bears r (User w u) a && b) (le-leb 1 (level_of (group_of r a.user) (User w u)) (omega arith)) ∙ and_it (bears r (User w u) a)
below_server r (Session w u s) e a = ap (λ (b : Bool). bears r (Session w u s) a && b) (le-leb 1 (level_of (group_of r a.user) (Session w u s)) (omega arith)) ∙ and_it (bears r (Session w u s) a)

moved : (r : Rates) (rows order : List Asker) → IsPermutation rows order → (n : Name) → is_server n ≡ false → named_from r 1 (map ask_in rows) n ≡ list_any (bears r n) (map ask_in order)
moved r rows order p n e = any_same (bears_from r 1 n) (bears r n) (below_server r n e) (map ask_in rows) ∙ list_any-IsPermutation (bears r n) (map ask_in rows) (map ask_in order) (IsPermutation-map ask_in rows order p)

names_are : (r : Rates) (rows order : List Asker) → IsPermutation rows order → (n : Name) → (same_name n Server || named_from r 1 (map ask_in rows) n) ≡ is_name r (map ask_in order) n
names_are r rows order p Server = refl
names_are r rows order p (Direction w) = moved r rows order p (Direction w) refl
names_are r rows order p (Group w g) = moved r rows order p (Group w g) refl
names_are r rows order p (User w u) = moved r rows order p (User w u) refl
names_are r rows order p (Session w u s) = moved r rows order p (Session w u s) refl

-- under the server's branch
pub whole_tree : (r : Rates) (tick kids : ℕ) (rows order : List Asker) (ps : List Place) → IsGrownFrom r tick 1 rows order ps → IsTickTree r tick (map ask_in order) (limits (branch_over (rate_limit (rate_of r Server) tick) kids ps ∷ map deeper ps))
whole_tree r tick kids rows order ps g =
    grown_whole r tick (map ask_in order) (branch_over (rate_limit (rate_of r Server) tick) kids ps ∷ map deeper ps)
    (grown_named r tick (λ n. same_name n Server || named_from r 1 (map ask_in rows) n) (is_name r (map ask_in order)) (map ask_in order) (branch_over (rate_limit (rate_of r Server) tick) kids ps ∷ map deeper ps) (names_are r rows order g.all)
    (grown_over r tick (named_from r 1 (map ask_in rows)) (map ask_in order) ps Server kids g.grown (all_server r (map ask_in order)) (server_above r (map ask_in rows)) (λ n. same_name-is n Server) refl))

pub server_over : (r : Rates) (tick kids : ℕ) (rows order : List Asker) (ps outline : List Place) (limit : Option ℕ) → IsGrownFrom r tick 1 rows order ps → limit ≡ rate_limit (rate_of r Server) tick
    → outline ≡ branch_over limit kids ps ∷ map deeper ps → IsTickTree r tick (map ask_in order) (limits outline)
server_over r tick kids rows order ps outline limit g limited is =
    subst (λ (us : List Place). IsTickTree r tick (map ask_in order) (limits us)) (sym (is ∙ ap (λ o. branch_over o kids ps ∷ map deeper ps) limited)) (whole_tree r tick kids rows order ps g)

unfoldable pub plan_is : (r : Rates) (tick kids : ℕ) (asks rows order : List Asker) (ps outline : List Place) (limit : Option ℕ) (lanes : List ℕ) → rows ≡ asks → IsGrownFrom r tick 1 rows order ps
    → limit ≡ rate_limit (rate_of r Server) tick → outline ≡ branch_over limit kids ps ∷ map deeper ps → lanes ≡ map lane_in order → IsPlan r tick asks (limits outline) lanes
plan_is r tick kids asks rows order ps outline limit lanes same g limited is reported = record {
  order = order;
  all = subst (λ (xs : List Asker). IsPermutation xs order) same g.all;
  tree = server_over r tick kids rows order ps outline limit g limited is;
  lanes_are = reported;
}

pub fault_is : {A : Type 0} (r : Rates) (tick kids : ℕ) (asks rows order : List Asker) (ps : List Place) (root : Node A) (limit : Option ℕ) (fault : TreeFault) → rows ≡ asks → IsGrownFrom r tick 1 rows order ps
    → limit ≡ rate_limit (rate_of r Server) tick → places root ≡ branch_over limit kids ps ∷ map deeper ps → tree_fault (places root) ≡ Some fault → HasFault A r tick asks fault
fault_is r tick kids asks rows order ps root limit fault same g limited is found = record {
  order = order;
  root = root;
  all = subst (λ (xs : List Asker). IsPermutation xs order) same g.all;
  tree = server_over r tick kids rows order ps (places root) limit g limited is;
  is = found;
}

-- where what is guaranteed fits, the fault is another
pub fault_of_floors : {A : Type 0} (r : Rates) (tick : ℕ) (asks : List Asker) (fault : TreeFault) → HasFault A r tick asks fault → FloorsFit r tick (map ask_in asks) → IsNotOfFloors (Tree fault)
fault_of_floors r tick asks (FloorsOverLimit k) has fit =
    none_over has.root k has.is
    (floors_within r tick (map ask_in has.order) (limits (places has.root)) has.tree (fit_in_order r tick asks has.order has.all fit))
fault_of_floors r tick asks TooDeep has fit = tt
fault_of_floors r tick asks TooManyLeaves has fit = tt
fault_of_floors r tick asks WantTooLarge has fit = tt
fault_of_floors r tick asks LimitTooLarge has fit = tt
fault_of_floors r tick asks FloorTooLarge has fit = tt
