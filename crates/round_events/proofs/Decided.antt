-- A plan with fair grants decides what the core decides, and the other way round.
use Rattle.std.proofs.Common.{◌≡◌, ◌≢◌, ℕ, zero, suc, ◌+◌, ◌<◌, inl, inr, List, [], ◌∷◌, ◌++◌, map, length, get_or, set, sum, sym, refl, ap, ◌∙◌, subst, arith, append_assoc, All, Option, Some, None, IsPermutation, swap}
use Rattle.std.proofs.lemmas.List.{ext_get_or, length-append, length-map, map-append, map-set}
use Rattle.std.proofs.lemmas.List.Elements.{All-append, All-cons, All-head, All-nil, All-tail}
use Rattle.std.proofs.lemmas.List.Sums.{sum_by-append, sum_by-cons}
use Rattle.std.proofs.lemmas.List.Sorted.{All-permutation, IsPermutation-keeps, IsPermutation-map, IsPermutation-refl, IsPermutation-sym, IsPermutation-trans, sum_by-IsPermutation}
use Rattle.fair_terms.specs.Fair.{IsFair, fair_within}
use Rattle.limit_tree.specs.Sharing.{LimitTree}
use Rattle.line_rates.specs.declared.ask.Ask.{Ask}
use Rattle.line_rates.specs.Granted.{Granted, granted_ask, granted_octets}
use Rattle.line_rates.specs.Names.{want_of}
use Rattle.line_rates.specs.Rates.{Rates}
use Rattle.line_rates.specs.TickTree.{Asker, IsTickTree, ask_in, lane_in}
use Rattle.share_world.specs.Shares.{IsFairPlan}
use Rattle.world_terms.specs.declared.event.LaneState.{LaneState}
use Rattle.world_terms.specs.declared.event.LaneState.TheVariants as state
use Rattle.world_terms.specs.Decisions.{AllPosted, AreGiven, IsGiven, IsPosted, IsShared, asker_of, decided_grants, decided_of, decided_sum, grant_of, in_round, in_round_from}
use Rattle.world_terms.specs.Lanes.{Lane, amount}
use Rattle.round_events.specs.Decided.{IsPlanned, OneDecision, decided_on}

-- an ask with the amount decided for its lane
abbrev grant_by : (ℕ → ℕ) → Asker → Granted
grant_by d x = record { ask = x.1; octets = d x.0 }

-- the amounts of the lanes, of which the first has number k
abbrev Amounts : (ℕ → ℕ) → ℕ → List Lane → Type 0
Amounts d k [] = Unit {0}
Amounts d k (m ∷ ms) = (d k ≡ amount m.hidden.decided) × Amounts d (suc k) ms

amounts_from : (d : ℕ → ℕ) (k : ℕ) (ms : List Lane) → ((i : ℕ) → d (k + i) ≡ amount (decided_on ms i)) → Amounts d k ms
amounts_from d k [] h = tt
amounts_from d k (m ∷ ms) h = (
  (let e : k ≡ k + 0 = omega arith in ap d e) ∙ h 0,
  amounts_from d (suc k) ms (λ i. (let e : suc k + i ≡ k + suc i = omega arith in ap d e) ∙ h (suc i)),
)

amounts_in : (ms : List Lane) → Amounts (λ i. amount (decided_on ms i)) 0 ms
amounts_in ms = amounts_from (λ i. amount (decided_on ms i)) 0 ms (λ i. (let e : 0 + i ≡ i = omega arith in ap (λ (n : ℕ). amount (decided_on ms n)) e))

none_granted : (o : Option Ask) (d : Option ℕ) → d ≡ None → grant_of o d ≡ []
none_granted (Some a) d e = ap (grant_of (Some a)) e
none_granted None d e = refl

pub none_asks : (k : ℕ) (s : LaneState) (o : Option Ask) → s ≢ state.Round → asker_of k s o ≡ []
none_asks k state.Free o ne = refl
none_asks k state.Worker o ne = refl
none_asks k state.Asked o ne = refl
none_asks k state.Round o ne = absurd (ne refl)
none_asks k state.Granted o ne = refl

pub one_asks : (k : ℕ) (l : Lane) (a : Ask) → l.shown.state ≡ state.Round → l.shown.ask ≡ Some a → asker_of k l.shown.state l.shown.ask ≡ (k, a) ∷ []
one_asks k l a s o = ap (λ (x : LaneState). asker_of k x l.shown.ask) s ∙ ap (asker_of k state.Round) o

-- the grant of a lane is that of its ask
one_grant : (d : ℕ → ℕ) (k : ℕ) (l m : Lane) → IsPosted l → IsGiven l m → d k ≡ amount m.hidden.decided → grant_of m.shown.ask m.hidden.decided ≡ map (grant_by d) (asker_of k l.shown.state l.shown.ask)
one_grant d k l m p (inl g) e =
    let a : Ask = g.0.1.0 in
    let n : ℕ = g.1.0 in
    let amount_is : d k ≡ n = e ∙ ap (λ (x : Lane). amount x.hidden.decided) g.1.1 in
    ap (λ (x : Lane). grant_of x.shown.ask x.hidden.decided) g.1.1 ∙ ap (λ (o : Option Ask). grant_of o (Some n)) g.0.1.1
    ∙ ap (λ (i : ℕ). record { ask = a; octets = i } ∷ []) (sym amount_is) ∙ sym (ap (map (grant_by d)) (one_asks k l a g.0.0 g.0.1.1))
one_grant d k l m p (inr g) e =
    ap (λ (x : Lane). grant_of x.shown.ask x.hidden.decided) g.1 ∙ none_granted l.shown.ask l.hidden.decided p ∙ sym (ap (map (grant_by d)) (none_asks k l.shown.state l.shown.ask g.0))

grants_are : (d : ℕ → ℕ) (k : ℕ) (ls ms : List Lane) → AllPosted ls → AreGiven ls ms → Amounts d k ms → decided_grants ms ≡ map (grant_by d) (in_round_from k ls)
grants_are d k [] [] p g e = refl
grants_are d k [] (m ∷ ms) p g e = absurd g
grants_are d k (l ∷ ls) [] p g e = absurd g
grants_are d k (l ∷ ls) (m ∷ ms) p g e =
    (λ q. one_grant d k l m (All-head IsPosted l ls p) g.0 e.0 q ++ grants_are d (suc k) ls ms (All-tail IsPosted l ls p) g.1 e.1 q)
    ∙ sym (map-append (grant_by d) (asker_of k l.shown.state l.shown.ask) (in_round_from (suc k) ls))

asks_of : (d : ℕ → ℕ) (xs : List Asker) → map granted_ask (map (grant_by d) xs) ≡ map ask_in xs
asks_of d [] = refl
asks_of d (x ∷ xs) = ap (λ (bs : List Ask). x.1 ∷ bs) (asks_of d xs)

octets_of : (d : ℕ → ℕ) (xs : List Asker) → map granted_octets (map (grant_by d) xs) ≡ map (λ x. d x.0) xs
octets_of d [] = refl
octets_of d (x ∷ xs) = ap (λ (ns : List ℕ). d x.0 ∷ ns) (octets_of d xs)

-- ---- from a plan

wants_length : (xs : List Asker) → length (map want_of (map ask_in xs)) ≡ length xs
wants_length [] = refl
wants_length (x ∷ xs) = omega (arith, wants_length xs)

pub plan_length : (rates : Rates) (tick : ℕ) (asks : List Asker) (t : LimitTree) (lanes grants : List ℕ) → (p : IsFairPlan rates tick asks t lanes grants) → length p.plan.order ≡ length grants
plan_length rates tick asks t lanes grants p =
    sym ((fair_within rates.share_by (map ask_in p.plan.order) t grants p.fair).wanted.leaves ∙ ap length p.plan.tree.wants ∙ wants_length p.plan.order)

lane_amount : (d : ℕ → ℕ) (xs : List Asker) (i : ℕ) → i < length xs → get_or (map (λ (x : Asker). d x.0) xs) i 0 ≡ d (get_or (map lane_in xs) i 0)
lane_amount d [] i h = absurd (omega arith)
lane_amount d (x ∷ xs) zero h = refl
lane_amount d (x ∷ xs) (suc i) h = lane_amount d xs i (omega arith)

-- each ask in Round has an amount decided for its lane
abbrev HasAmount : List Lane → Asker → Type 0
HasAmount ms x = decided_on ms x.0 ≡ Some (amount (decided_on ms x.0))

has_amount : (ms : List Lane) (i n : ℕ) → decided_on ms i ≡ Some n → decided_on ms i ≡ Some (amount (decided_on ms i))
has_amount ms i n e = e ∙ sym (ap (λ (o : Option ℕ). Some (amount o)) e)

-- the lane behind `done` is the one with that number
pub decided_at : (done : List Lane) (m : Lane) (ms : List Lane) (k : ℕ) → length done ≡ k → decided_on (done ++ m ∷ ms) k ≡ m.hidden.decided
decided_at [] m ms zero e = refl
decided_at [] m ms (suc k) e = absurd (omega (arith, e))
decided_at (x ∷ done) m ms zero e = absurd (omega (arith, e))
decided_at (x ∷ done) m ms (suc k) e = decided_at done m ms k (omega (arith, e))

one_has : (all : List Lane) (k : ℕ) (l m : Lane) → IsGiven l m → decided_on all k ≡ m.hidden.decided → All (HasAmount all) (asker_of k l.shown.state l.shown.ask)
one_has all k l m (inl g) e =
    subst (All (HasAmount all)) (sym (one_asks k l g.0.1.0 g.0.0 g.0.1.1)) (All-cons (HasAmount all) (k, g.0.1.0) [] (has_amount all k g.1.0 (e ∙ ap (λ (x : Lane). x.hidden.decided) g.1.1)) (All-nil (HasAmount all)))
one_has all k l m (inr g) e = subst (All (HasAmount all)) (sym (none_asks k l.shown.state l.shown.ask g.0)) (All-nil (HasAmount all))

all_have : (done ls ms : List Lane) (k : ℕ) → length done ≡ k → AreGiven ls ms → All (HasAmount (done ++ ms)) (in_round_from k ls)
all_have done [] [] k e g = All-nil (HasAmount (done ++ []))
all_have done [] (m ∷ ms) k e g = absurd g
all_have done (l ∷ ls) [] k e g = absurd g
all_have done (l ∷ ls) (m ∷ ms) k e g =
    All-append (HasAmount (done ++ m ∷ ms)) (asker_of k l.shown.state l.shown.ask) (in_round_from (suc k) ls)
    (one_has (done ++ m ∷ ms) k l m g.0 (decided_at done m ms k e))
    (subst (λ (xs : List Lane). All (HasAmount xs) (in_round_from (suc k) ls)) (append_assoc done (m ∷ []) ms) (all_have (done ++ m ∷ []) ls ms (suc k) (omega (arith, e, length-append done (m ∷ []))) g.1))

get_mapped : (f : Asker → Granted) (xs : List Asker) (i : ℕ) (d : Asker) → f (get_or xs i d) ≡ get_or (map f xs) i (f d)
get_mapped f [] i d = refl
get_mapped f (x ∷ xs) zero d = refl
get_mapped f (x ∷ xs) (suc i) d = get_mapped f xs i d

map_swap : (f : Asker → Granted) (xs : List Asker) (i j : ℕ) → map f (swap xs i j) ≡ swap (map f xs) i j
map_swap f [] i j = refl
map_swap f (d ∷ xs) i j =
    let l : List Asker = d ∷ xs in
    map-set f (set l i (get_or l j d)) j (get_or l i d) ∙ ap (λ (ys : List Granted). set ys j (f (get_or l i d))) (map-set f l i (get_or l j d))
    ∙ (λ q. set (set (map f l) i (get_mapped f l j d q)) j (get_mapped f l i d q))

-- an order of a list after a map is one of the list
order_of : (f : Asker → Granted) (xs : List Asker) (ys : List Granted) → IsPermutation (map f xs) ys → (order : List Asker) × IsPermutation xs order × (map f order ≡ ys)
order_of f xs ys p = IsPermutation-keeps (map f xs) (λ (l : List Granted). (order : List Asker) × IsPermutation xs order × (map f order ≡ l)) (xs, IsPermutation-refl xs, refl)
    (λ l i j a b h.
    let long : length h.0 ≡ length l = sym (length-map h.0 f) ∙ ap length h.2 in (
      swap h.0 i j,
      IsPermutation-trans xs h.0 (swap h.0 i j) h.1 (record { moves = (i, j) ∷ []; below = (subst (λ (n : ℕ). i < n) (sym long) a, subst (λ (n : ℕ). j < n) (sym long) b, tt); is = refl }),
      map_swap f h.0 i j ∙ ap (λ (ys : List Granted). swap ys i j) h.2,
    )) ys p

amounts_at : (ms : List Lane) (xs : List Asker) (j : ℕ) → All (HasAmount ms) xs → j < length (map lane_in xs) → decided_on ms (get_or (map lane_in xs) j 0) ≡ Some (get_or (map (λ (x : Asker). amount (decided_on ms x.0)) xs) j 0)
amounts_at ms [] j h less = absurd (omega arith)
amounts_at ms (x ∷ xs) zero h less = All-head (HasAmount ms) x xs h
amounts_at ms (x ∷ xs) (suc j) h less = amounts_at ms xs j (All-tail (HasAmount ms) x xs h) (omega arith)

one_octets : (l m : Lane) → IsPosted l → IsGiven l m → sum (map granted_octets (grant_of m.shown.ask m.hidden.decided)) ≡ decided_of m
one_octets l m p (inl g) =
    let a : Ask = g.0.1.0 in
    let n : ℕ = g.1.0 in
    let left : grant_of m.shown.ask m.hidden.decided ≡ record { ask = a; octets = n } ∷ [] = ap (λ (x : Lane). grant_of x.shown.ask x.hidden.decided) g.1.1 ∙ ap (λ (o : Option Ask). grant_of o (Some n)) g.0.1.1 in
    let right : decided_of m ≡ n = ap decided_of g.1.1 in
    omega (arith, ap (λ (gs : List Granted). sum (map granted_octets gs)) left, right, sum_by-cons (λ (k : ℕ). k) n [])
one_octets l m p (inr g) =
    let none : m.hidden.decided ≡ None = ap (λ (x : Lane). x.hidden.decided) g.1 ∙ p in
    ap (λ (gs : List Granted). sum (map granted_octets gs)) (none_granted m.shown.ask m.hidden.decided none) ∙ sym (ap amount none)

decided_octets : (ls ms : List Lane) → AllPosted ls → AreGiven ls ms → sum (map granted_octets (decided_grants ms)) ≡ decided_sum ms
decided_octets [] [] p g = refl
decided_octets [] (m ∷ ms) p g = absurd g
decided_octets (l ∷ ls) [] p g = absurd g
decided_octets (l ∷ ls) (m ∷ ms) p g =
    let gs = grant_of m.shown.ask m.hidden.decided in
    let whole : sum (map granted_octets (gs ++ decided_grants ms)) ≡ sum (map granted_octets gs) + sum (map granted_octets (decided_grants ms)) =
    ap sum (map-append granted_octets gs (decided_grants ms)) ∙ sum_by-append (λ (k : ℕ). k) (map granted_octets gs) (map granted_octets (decided_grants ms)) in
    omega (arith, whole, one_octets l m (All-head IsPosted l ls p) g.0, decided_octets ls ms (All-tail IsPosted l ls p) g.1, sum_by-cons decided_of m ms)

module _ (rates : Rates) (tick : ℕ) (ls ms : List Lane) (posted : AllPosted ls) where
  amounts_of : ℕ → ℕ
  amounts_of i = amount (decided_on ms i)

  grants_in_round : AreGiven ls ms → decided_grants ms ≡ map (grant_by amounts_of) (in_round ls)
  unfolding amounts_of
  grants_in_round g = grants_are amounts_of 0 ls ms posted g (amounts_in ms)

  planned_grants : (p : IsPlanned rates tick ls ms) → map (λ (x : Asker). amounts_of x.0) p.shares.plan.order ≡ p.grants
  unfolding amounts_of
  planned_grants p =
      let order = p.shares.plan.order in
      let long : length order ≡ length p.grants = plan_length rates tick (in_round ls) p.tree p.lanes p.grants p.shares in
      let wide : length p.lanes ≡ length order = ap length p.shares.plan.lanes_are ∙ length-map order lane_in in
      ext_get_or 0 (map (λ (x : Asker). amounts_of x.0) order) p.grants (length-map order (λ (x : Asker). amounts_of x.0) ∙ long)
      (λ i less. let within : i < length order = omega (arith, less, length-map order (λ (x : Asker). amounts_of x.0)) in
      lane_amount amounts_of order i within ∙ ap (λ (is : List ℕ). amounts_of (get_or is i 0)) (sym p.shares.plan.lanes_are) ∙ ap amount (p.decided i (omega (arith, within, wide))))

  pub shared_of : IsPlanned rates tick ls ms → IsShared rates tick ls ms
  shared_of p =
      let order = p.shares.plan.order in
      record {
        given = p.given;
        leaves = map (grant_by amounts_of) order;
        all = subst (IsPermutation (map (grant_by amounts_of) order)) (sym (grants_in_round p.given)) (IsPermutation-map (grant_by amounts_of) order (in_round ls) (IsPermutation-sym (in_round ls) order p.shares.plan.all));
        tree = p.tree;
        of_tick = subst (λ (bs : List Ask). IsTickTree rates tick bs p.tree) (sym (asks_of amounts_of order)) p.shares.plan.tree;
        best = subst (λ (bs : List Ask). IsFair rates.share_by bs p.tree (map granted_octets (map (grant_by amounts_of) order))) (sym (asks_of amounts_of order))
            (subst (IsFair rates.share_by (map ask_in order) p.tree) (sym (octets_of amounts_of order ∙ planned_grants p)) p.shares.fair);
      }

  -- the amounts decided add up to the grants
  pub planned_sum : (p : IsPlanned rates tick ls ms) → decided_sum ms ≡ sum p.grants
  unfolding amounts_of
  planned_sum p =
      let f : Asker → ℕ = λ (x : Asker). amounts_of x.0 in
      sym (decided_octets ls ms posted p.given) ∙ ap (λ (gs : List Granted). sum (map granted_octets gs)) (grants_in_round p.given) ∙ ap sum (octets_of amounts_of (in_round ls))
      ∙ sym (sum_by-IsPermutation (λ (n : ℕ). n) (map f (in_round ls)) (map f p.shares.plan.order) (IsPermutation-map f (in_round ls) p.shares.plan.order p.shares.plan.all)) ∙ ap sum (planned_grants p)

  planned_from : (s : IsShared rates tick ls ms) (order : List Asker) → IsPermutation (in_round ls) order → map (grant_by amounts_of) order ≡ s.leaves → IsPlanned rates tick ls ms
  unfolding amounts_of
  planned_from s order perm same = record {
    given = s.given;
    tree = s.tree;
    lanes = map lane_in order;
    grants = map (λ (x : Asker). amounts_of x.0) order;
    shares = record {
      plan = record {
        order = order;
        all = perm;
        tree = subst (λ (bs : List Ask). IsTickTree rates tick bs s.tree) (ap (map granted_ask) (sym same) ∙ asks_of amounts_of order) s.of_tick;
        lanes_are = refl;
      };
      fair = subst (λ (bs : List Ask). IsFair rates.share_by bs s.tree (map (λ (x : Asker). amounts_of x.0) order)) (ap (map granted_ask) (sym same) ∙ asks_of amounts_of order)
          (subst (IsFair rates.share_by (map granted_ask s.leaves) s.tree) (ap (map granted_octets) (sym same) ∙ octets_of amounts_of order) s.best);
    };
    decided = λ j less. amounts_at ms order j (All-permutation (HasAmount ms) (in_round ls) order perm (all_have [] ls ms 0 refl s.given)) less;
  }

  pub planned_of : IsShared rates tick ls ms → IsPlanned rates tick ls ms
  planned_of s =
      let same : IsPermutation (map (grant_by amounts_of) (in_round ls)) s.leaves = subst (λ (gs : List Granted). IsPermutation gs s.leaves) (grants_in_round s.given) (IsPermutation-sym s.leaves (decided_grants ms) s.all) in
      let o = order_of (grant_by amounts_of) (in_round ls) s.leaves same in
      planned_from s o.0 o.1 o.2

pub one_decision : OneDecision
one_decision rates tick ls ms posted = (planned_of rates tick ls ms posted, shared_of rates tick ls ms posted)
