-- What decisions give: sums over the lanes, the asks that they are for, the limits and floors that they keep.
use Rattle.std.proofs.Common.{◌≡◌, ◌≢◌, ℕ, zero, suc, ◌+◌, ◌<◌, ◌≤◌, inl, inr, Bool, true, false, ◌&&◌, ◌||◌, cond, List, [], ◌∷◌, ◌++◌, length, map, sum, sum_by, sym, refl, ap, ◌∙◌, subst, arith, Option, Some, None}
use Rattle.std.specs.Prelude.{slice_get, slice_index, All, IsPermutation}
use Rattle.std.specs.List.{list_any}
use Rattle.std.proofs.lemmas.Bool.{or_parts}
use Rattle.std.proofs.lemmas.List.Sums.{sum_by-cons, sum_by-append}
use Rattle.std.proofs.lemmas.List.Sorted.{sum_by-IsPermutation, All-permutation, IsPermutation-map, IsPermutation-sym}
use Rattle.fair_terms.specs.Fair.{fair_within}
use Rattle.line_rates.specs.declared.ask.Ask.{Ask}
use Rattle.line_rates.specs.declared.ask.Name.{Name}
use Rattle.line_rates.specs.Granted.{Granted, granted_ask, granted_octets, granted_under, GrantsKeepNames}
use Rattle.line_rates.specs.Names.{bears, floor_of}
use Rattle.line_rates.specs.Rates.{Rates, rate_of}
use Rattle.line_rates.specs.Ticks.{rate_limit}
use Rattle.line_rates.specs.TickTree.{Asker, ask_in, bears_in}
use Rattle.world_terms.specs.declared.event.LaneState.{LaneState}
use Rattle.world_terms.specs.declared.event.LaneState.TheVariants as state
use Rattle.world_terms.specs.Decisions.{asker_of, in_round_from, in_round, IsPosted, AllPosted, with_amount, IsGiven, AreGiven, IsDecision, grant_of, decided_grants, IsShared, decided_of, decided_sum}
use Rattle.world_terms.specs.Lanes.{Lane, World, amount}
use Rattle.share_world.specs.Laws.{AreBestInRound, decided_under}

abbrev pub EachPosted : List Lane → Type 0
EachPosted [] = Unit {0}
EachPosted (l ∷ ls) = IsPosted l × EachPosted ls

pub posted_all : (ls : List Lane) → AllPosted ls → EachPosted ls
posted_all [] h = tt
posted_all (l ∷ ls) h = (h 0 l (omega arith), posted_all ls (λ k d less. h (suc k) d (omega arith)))

pub given_at : (ls ms : List Lane) (i : ℕ) (m : Lane) → AreGiven ls ms → slice_get ms i ≡ Some m → (l : Lane) × (slice_get ls i ≡ Some l) × IsGiven l m
given_at [] [] i m g e = absurd (cc)
given_at (l ∷ ls) (x ∷ ms) zero m g e = let same : x ≡ m = cc in (l, refl, subst (IsGiven l) same g.0)
given_at (l ∷ ls) (x ∷ ms) (suc i) m g e = given_at ls ms i m g.1 e
given_at [] (x ∷ ms) i m g e = absurd g
given_at (l ∷ ls) [] i m g e = absurd g

-- what holds of the lane as it is, and with an amount where it is in Round, holds after the decision
pub given_case : (P : Lane → Type 0) (l m : Lane) → IsGiven l m → ((n : ℕ) → l.shown.state ≡ state.Round → P (with_amount n l)) → (l.shown.state ≢ state.Round → P l) → P m
given_case P l m (inl g) here there = subst P (sym g.1.1) (here g.1.0 g.0.0)
given_case P l m (inr g) here there = subst P (sym g.1) (there g.0)

pub given_ask : (l m : Lane) → IsGiven l m → m.shown.ask ≡ l.shown.ask
given_ask l m g = given_case (λ (x : Lane). x.shown.ask ≡ l.shown.ask) l m g (λ n here. refl) (λ there. refl)

-- a sum that grows at each lane by what is given there
abbrev pub Adds : (Lane → ℕ) → (Lane → ℕ) → Type 0
Adds f g = (l m : Lane) → l.hidden.decided ≡ None → IsGiven l m → f m ≡ f l + g m

pub given_sum : (f g : Lane → ℕ) → Adds f g → (ls ms : List Lane) → EachPosted ls → AreGiven ls ms → sum_by f ms ≡ sum_by f ls + sum_by g ms
given_sum f g each [] [] p h = refl
given_sum f g each (l ∷ ls) (m ∷ ms) p h = omega (arith, sum_by-cons f l ls, sum_by-cons f m ms, sum_by-cons g m ms, each l m p.0 h.0, given_sum f g each ls ms p.1 h.1)
given_sum f g each [] (m ∷ ms) p h = absurd h
given_sum f g each (l ∷ ls) [] p h = absurd h

pub cond_zero : (b : Bool) (z : ℕ) → z ≡ 0 → cond b z 0 ≡ 0
cond_zero true z e = e
cond_zero false z e = refl

-- ---- the limits

one_grant : (r : Rates) (n : Name) (a : Option Ask) (d : Option ℕ) → granted_under r n (grant_of a d) ≡ cond (bears_in r n a) (amount d) 0
one_grant r n (Some a) (Some k) = sum_by-cons (λ (g : Granted). cond (bears r n g.ask) g.octets 0) (record { ask = a; octets = k }) [] ∙ omega arith
one_grant r n (Some a) None = sym (cond_zero (bears r n a) 0 refl)
one_grant r n None d = refl

lanes_sum : (r : Rates) (n : Name) (ls : List Lane) → granted_under r n (decided_grants ls) ≡ sum_by (decided_under r n) ls
lanes_sum r n [] = refl
lanes_sum r n (l ∷ ls) = omega (arith, sum_by-append (λ (g : Granted). cond (bears r n g.ask) g.octets 0) (grant_of l.shown.ask l.hidden.decided) (decided_grants ls), one_grant r n l.shown.ask l.hidden.decided, lanes_sum r n ls, sum_by-cons (decided_under r n) l ls)

pub keeps_limits : GrantsKeepNames → (r : Rates) (tick : ℕ) (ls ms : List Lane) → IsShared r tick ls ms → (n : Name) (most : ℕ) → rate_limit (rate_of r n) tick ≡ Some most → sum_by (decided_under r n) ms ≤ most
keeps_limits law r tick ls ms s n most e =
    omega (arith, lanes_sum r n ms, sum_by-IsPermutation (λ (g : Granted). cond (bears r n g.ask) g.octets 0) s.leaves (decided_grants ms) s.all, law r tick s.tree s.leaves s.of_tick (fair_within r.share_by (map granted_ask s.leaves) s.tree (map granted_octets s.leaves) s.best) n most e)

-- ---- the asks

abbrev is_round : LaneState → Bool
is_round state.Round = true
is_round s = false

map_append : (xs ys : List Granted) → map granted_ask (xs ++ ys) ≡ map granted_ask xs ++ map granted_ask ys
map_append [] ys = refl
map_append (x ∷ xs) ys = ap (λ (zs : List Ask). x.ask ∷ zs) (map_append xs ys)

asks_append : (xs ys : List Asker) → map ask_in (xs ++ ys) ≡ map ask_in xs ++ map ask_in ys
asks_append [] ys = refl
asks_append (x ∷ xs) ys = ap (λ (zs : List Ask). x.1 ∷ zs) (asks_append xs ys)

one_ask : (i : ℕ) (s : LaneState) (o : Option Ask) (n : ℕ) → s ≡ state.Round → map granted_ask (grant_of o (Some n)) ≡ map ask_in (asker_of i s o)
one_ask i s (Some a) n e = subst (λ (x : LaneState). a ∷ [] ≡ map ask_in (asker_of i x (Some a))) (sym e) refl
one_ask i s None n e = subst (λ (x : LaneState). [] ≡ map ask_in (asker_of i x None)) (sym e) refl

not_asker : (i : ℕ) (s : LaneState) (o : Option Ask) → s ≢ state.Round → [] ≡ map ask_in (asker_of i s o)
not_asker i state.Free o ne = refl
not_asker i state.Worker o ne = refl
not_asker i state.Asked o ne = refl
not_asker i state.Round o ne = absurd (ne refl)
not_asker i state.Granted o ne = refl

no_grant : (o : Option Ask) (d : Option ℕ) → d ≡ None → grant_of o d ≡ []
no_grant (Some a) d e = ap (grant_of (Some a)) e
no_grant None d e = refl

lane_ask : (i : ℕ) (l m : Lane) → IsPosted l → IsGiven l m → map granted_ask (grant_of m.shown.ask m.hidden.decided) ≡ map ask_in (asker_of i l.shown.state l.shown.ask)
lane_ask i l m p g = given_case (λ (x : Lane). map granted_ask (grant_of x.shown.ask x.hidden.decided) ≡ map ask_in (asker_of i l.shown.state l.shown.ask)) l m g
    (λ n here. one_ask i l.shown.state l.shown.ask n here)
    (λ there. ap (map granted_ask) (no_grant l.shown.ask l.hidden.decided p) ∙ not_asker i l.shown.state l.shown.ask there)

pub same_asks : (i : ℕ) (ls ms : List Lane) → EachPosted ls → AreGiven ls ms → map granted_ask (decided_grants ms) ≡ map ask_in (in_round_from i ls)
same_asks i [] [] p g = refl
same_asks i (l ∷ ls) (m ∷ ms) p g =
    map_append (grant_of m.shown.ask m.hidden.decided) (decided_grants ms)
    ∙ ap (λ (xs : List Ask). xs ++ map granted_ask (decided_grants ms)) (lane_ask i l m p.0 g.0)
    ∙ ap (λ (xs : List Ask). map ask_in (asker_of i l.shown.state l.shown.ask) ++ xs) (same_asks (suc i) ls ms p.1 g.1)
    ∙ sym (asks_append (asker_of i l.shown.state l.shown.ask) (in_round_from (suc i) ls))
same_asks i [] (m ∷ ms) p g = absurd g
same_asks i (l ∷ ls) [] p g = absurd g

-- nothing is decided under a name that no ask in Round bears
any_askers : (r : Rates) (n : Name) (i : ℕ) (s : LaneState) (o : Option Ask) (rest : List Asker)
    → list_any (bears r n) (map ask_in (asker_of i s o ++ rest)) ≡ ((is_round s && bears_in r n o) || list_any (bears r n) (map ask_in rest))
any_askers r n i state.Free o rest = refl
any_askers r n i state.Worker o rest = refl
any_askers r n i state.Asked o rest = refl
any_askers r n i state.Round (Some a) rest = refl
any_askers r n i state.Round None rest = refl
any_askers r n i state.Granted o rest = refl

none_borne : (s : LaneState) (b : Bool) (k : ℕ) → s ≡ state.Round → (is_round s && b) ≡ false → cond b k 0 ≡ 0
none_borne s b k e h = let no : b ≡ false = subst (λ (q : LaneState). (is_round q && b) ≡ false) e h in ap (λ (c : Bool). cond c k 0) no

pub none_decided : (r : Rates) (n : Name) (i : ℕ) (ls ms : List Lane) → EachPosted ls → AreGiven ls ms → list_any (bears r n) (map ask_in (in_round_from i ls)) ≡ false → sum_by (decided_under r n) ms ≡ 0
none_decided r n i [] [] p g h = refl
none_decided r n i (l ∷ ls) (m ∷ ms) p g h =
    let parts : ((is_round l.shown.state && bears_in r n l.shown.ask) ≡ false) × (list_any (bears r n) (map ask_in (in_round_from (suc i) ls)) ≡ false) =
    or_parts _ _ (sym (any_askers r n i l.shown.state l.shown.ask (in_round_from (suc i) ls)) ∙ h) in
    let one : decided_under r n m ≡ 0 = given_case (λ (x : Lane). decided_under r n x ≡ 0) l m g.0
    (λ k here. none_borne l.shown.state (bears_in r n l.shown.ask) k here parts.0)
    (λ there. cond_zero (bears_in r n l.shown.ask) (decided_of l) (ap amount p.0)) in
    omega (arith, sum_by-cons (decided_under r n) m ms, none_decided r n (suc i) ls ms p.1 g.1 parts.1)
none_decided r n i [] (m ∷ ms) p g h = absurd g
none_decided r n i (l ∷ ls) [] p g h = absurd g

-- ---- what is decided in all

octets_at : (o : Option Ask) (a : Ask) (n : ℕ) → o ≡ Some a → sum (map granted_octets (grant_of o (Some n))) ≡ n
octets_at o a n e = subst (λ (x : Option Ask). sum (map granted_octets (grant_of x (Some n))) ≡ n) (sym e) (sum_by-cons (λ (x : ℕ). x) n [] ∙ omega arith)

lane_octets : (l m : Lane) → IsPosted l → IsGiven l m → sum (map granted_octets (grant_of m.shown.ask m.hidden.decided)) ≡ decided_of m
lane_octets l m p (inl g) = subst (λ (x : Lane). sum (map granted_octets (grant_of x.shown.ask x.hidden.decided)) ≡ decided_of x) (sym g.1.1) (octets_at l.shown.ask g.0.1.0 g.1.0 g.0.1.1)
lane_octets l m p (inr g) = subst (λ (x : Lane). sum (map granted_octets (grant_of x.shown.ask x.hidden.decided)) ≡ decided_of x) (sym g.1)
    (ap (λ (gs : List Granted). sum (map granted_octets gs)) (no_grant l.shown.ask l.hidden.decided p) ∙ sym (ap amount p))

octets_append : (xs ys : List Granted) → sum (map granted_octets (xs ++ ys)) ≡ sum (map granted_octets xs) + sum (map granted_octets ys)
octets_append [] ys = omega arith
octets_append (x ∷ xs) ys = omega (arith, octets_append xs ys, sum_by-cons (λ (n : ℕ). n) x.octets (map granted_octets (xs ++ ys)), sum_by-cons (λ (n : ℕ). n) x.octets (map granted_octets xs))

pub all_octets : (ls ms : List Lane) → EachPosted ls → AreGiven ls ms → sum (map granted_octets (decided_grants ms)) ≡ decided_sum ms
all_octets [] [] p g = refl
all_octets (l ∷ ls) (m ∷ ms) p g = omega (arith, octets_append (grant_of m.shown.ask m.hidden.decided) (decided_grants ms), lane_octets l m p.0 g.0, all_octets ls ms p.1 g.1, sum_by-cons decided_of m ms)
all_octets [] (m ∷ ms) p g = absurd g
all_octets (l ∷ ls) [] p g = absurd g

-- ---- the floors

-- a grant is at least what its ask is guaranteed
abbrev IsFloored : Rates → Granted → Type 0
IsFloored r g = floor_of r g.ask ≤ g.octets

abbrev AreFloored : Rates → List Granted → Type 0
AreFloored r [] = Unit {0}
AreFloored r (g ∷ gs) = IsFloored r g × AreFloored r gs

leaves_floored : (r : Rates) (gs : List Granted) → ((i : ℕ) → i < length (map granted_octets gs) → slice_index (map (floor_of r) (map granted_ask gs)) i ≤ slice_index (map granted_octets gs) i) → All (IsFloored r) gs
leaves_floored r [] h k d less = absurd (omega arith)
leaves_floored r (g ∷ gs) h zero d less = h 0 (omega arith)
leaves_floored r (g ∷ gs) h (suc k) d less = leaves_floored r gs (λ i below. h (suc i) (omega arith)) k d (omega arith)

one_by_one : (r : Rates) (gs : List Granted) → All (IsFloored r) gs → AreFloored r gs
one_by_one r [] h = tt
one_by_one r (g ∷ gs) h = (h 0 g (omega arith), one_by_one r gs (λ k d less. h (suc k) d (omega arith)))

behind : (r : Rates) (xs ys : List Granted) → AreFloored r (xs ++ ys) → AreFloored r ys
behind r [] ys h = h
behind r (x ∷ xs) ys h = behind r xs ys h.1

lane_floored : (r : Rates) (l m : Lane) (a : Ask) (rest : List Granted) → IsGiven l m → l.shown.state ≡ state.Round → l.shown.ask ≡ Some a
    → AreFloored r (grant_of m.shown.ask m.hidden.decided ++ rest) → floor_of r a ≤ decided_of m
lane_floored r l m a rest (inl g) here asks h =
    let ask_is : m.shown.ask ≡ Some a = ap (λ (x : Lane). x.shown.ask) g.1.1 ∙ asks in
    let decided_is : m.hidden.decided ≡ Some g.1.0 = ap (λ (x : Lane). x.hidden.decided) g.1.1 in
    let here_is : AreFloored r (grant_of (Some a) (Some g.1.0) ++ rest) =
    subst (λ (d : Option ℕ). AreFloored r (grant_of (Some a) d ++ rest)) decided_is (subst (λ (o : Option Ask). AreFloored r (grant_of o m.hidden.decided ++ rest)) ask_is h) in
    subst (λ (d : Option ℕ). floor_of r a ≤ amount d) (sym decided_is) here_is.0
lane_floored r l m a rest (inr g) here asks h = absurd (g.0 here)

lanes_floored : (r : Rates) (ls ms : List Lane) (i : ℕ) (l m : Lane) (a : Ask) → AreGiven ls ms → slice_get ls i ≡ Some l → slice_get ms i ≡ Some m → l.shown.state ≡ state.Round → l.shown.ask ≡ Some a
    → AreFloored r (decided_grants ms) → floor_of r a ≤ decided_of m
lanes_floored r [] [] i l m a g x y here asks h = absurd (cc)
lanes_floored r (k ∷ ls) (n ∷ ms) zero l m a g x y here asks h =
    let old : k ≡ l = cc in
    let new : n ≡ m = cc in
    let given : IsGiven l m = subst (λ (z : Lane). IsGiven z m) old (subst (λ (z : Lane). IsGiven k z) new g.0) in
    lane_floored r l m a (decided_grants ms) given here asks (subst (λ (z : Lane). AreFloored r (grant_of z.shown.ask z.hidden.decided ++ decided_grants ms)) new h)
lanes_floored r (k ∷ ls) (n ∷ ms) (suc i) l m a g x y here asks h = lanes_floored r ls ms i l m a g.1 x y here asks (behind r (grant_of n.shown.ask n.hidden.decided) (decided_grants ms) h)
lanes_floored r [] (n ∷ ms) i l m a g x y here asks h = absurd g
lanes_floored r (k ∷ ls) [] i l m a g x y here asks h = absurd g

pub keeps_floors : (r : Rates) (tick : ℕ) (ls ms : List Lane) → IsShared r tick ls ms → (i : ℕ) (l m : Lane) (a : Ask) → slice_get ls i ≡ Some l → slice_get ms i ≡ Some m → l.shown.state ≡ state.Round → l.shown.ask ≡ Some a
    → floor_of r a ≤ decided_of m
keeps_floors r tick ls ms s i l m a x y here asks =
    let floors : (j : ℕ) → j < length (map granted_octets s.leaves) → slice_index (map (floor_of r) (map granted_ask s.leaves)) j ≤ slice_index (map granted_octets s.leaves) j =
    λ j less. subst (λ (fs : List ℕ). slice_index fs j ≤ slice_index (map granted_octets s.leaves) j) s.of_tick.floors ((fair_within r.share_by (map granted_ask s.leaves) s.tree (map granted_octets s.leaves) s.best).floors j less) in
    lanes_floored r ls ms i l m a s.given x y here asks (one_by_one r (decided_grants ms) (All-permutation (IsFloored r) s.leaves (decided_grants ms) s.all (leaves_floored r s.leaves floors)))

-- ---- each decision

pub best_in_round : (r : Rates) (w : World) (moment tick total : ℕ) (end : World) → IsDecision r w moment tick total end → AreBestInRound r w tick total end
best_in_round r w moment tick total end d =
    let posted : EachPosted w.lanes = posted_all w.lanes d.ready.posted in
    let s : IsShared r tick w.lanes end.lanes = d.shared in
    let moved : IsPermutation (map granted_ask s.leaves) (map granted_ask (decided_grants end.lanes)) = IsPermutation-map granted_ask s.leaves (decided_grants end.lanes) s.all in
    let octets : sum (map granted_octets (decided_grants end.lanes)) ≡ sum (map granted_octets s.leaves) =
    sum_by-IsPermutation (λ (n : ℕ). n) (map granted_octets s.leaves) (map granted_octets (decided_grants end.lanes)) (IsPermutation-map granted_octets s.leaves (decided_grants end.lanes) s.all) in
    record {
      given = s.given;
      leaves = s.leaves;
      decided = s.all;
      all = IsPermutation-sym (map granted_ask s.leaves) (map ask_in (in_round w.lanes)) (subst (IsPermutation (map granted_ask s.leaves)) (same_asks 0 w.lanes end.lanes posted s.given) moved);
      tree = s.tree;
      of_tick = s.of_tick;
      best = s.best;
      total_is = d.total_is ∙ sym (all_octets w.lanes end.lanes posted s.given) ∙ octets;
    }
