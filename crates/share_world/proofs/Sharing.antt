-- Fair grants of a plan for the asks in Round, dealt to their lanes, are a decision.
use Rattle.std.proofs.Common.{◌≡◌, ◌≢◌, ℕ, zero, suc, ◌+◌, ◌/◌, ◌<◌, ◌≤◌, ◌⊎◌, inl, inr, Bool, cond, List, [], ◌∷◌, ◌++◌, length, map, set, sum, sum_by, sym, refl, ap, ◌∙◌, subst, arith, append-nil, Option, Some, None}
use Rattle.std.specs.Prelude.{All, slice_get, slice_index_or, nat_eq, IsPermutation}
use Rattle.std.proofs.lemmas.Bool.Decides.{eqb_tells}
use Rattle.std.proofs.lemmas.Bool.{eq-eqb}
use Rattle.std.proofs.lemmas.List.Sums.{sum_by-cons, sum_by-append}
use Rattle.std.proofs.lemmas.List.Sorted.{All-permutation, IsPermutation-sym, IsPermutation-trans, IsPermutation-middle, IsPermutation-append_right, IsPermutation-map, IsPermutation-refl, sum_by-IsPermutation}
use Rattle.grant_ledger.specs.Books.{NamesNot}
use Rattle.limit_tree.specs.Sharing.{LimitTree}
use Rattle.fair_terms.specs.Fair.{IsFair, fair_within}
use Rattle.fair_shares.specs.Asked.{AreApart}
use Rattle.line_rates.specs.declared.ask.Ask.{Ask}
use Rattle.line_rates.specs.declared.ask.Way.TheVariants as way
use Rattle.line_rates.specs.Granted.{Granted, granted_ask, granted_octets}
use Rattle.line_rates.specs.Names.{want_of}
use Rattle.line_rates.specs.Rates.{Rates}
use Rattle.line_rates.specs.TickTree.{Asker, IsPlan, IsTickTree, ask_in, lane_in}
use Rattle.world_terms.specs.declared.event.LaneState.{LaneState}
use Rattle.world_terms.specs.declared.event.LaneState.TheVariants as state
use Rattle.world_terms.specs.Decisions.{AllPosted, AreGiven, IsDecision, IsDue, IsGiven, IsPosted, IsReady, IsShared, asker_of, decided_grants, decided_of, decided_sum, grant_of, in_round, in_round_from, with_amount}
use Rattle.world_terms.specs.Lanes.{Lane, World, new_lane}
use Rattle.world_terms.specs.Steps.{PassesMost}
use Rattle.world_terms.specs.Sums.{shares}
use Rattle.grant_ledger.specs.declared.ledger.TheConstants.{MAX_ISSUED, MAX_LANES}
use Rattle.share_world.proofs.Grants.{EachPosted, all_octets, given_sum, posted_all}
use Rattle.share_world.proofs.Kept.{shares_add}
use Rattle.share_world.specs.Limited.{IsKept}
use Rattle.share_world.specs.Shares.{AreOpen, IsFairPlan, dealt}
use Rattle.share_world.specs.Performed.{HasAsk}
use Rattle.share_world.proofs.Deals.{get_here, get_other, same_at}

-- ---- each lane in Round is one of the plan, and is so once

abbrev pub is_at : ℕ → Asker → ℕ
is_at k x = cond (nat_eq x.0 k) 1 0

-- how many asks are of lane k
abbrev pub many : ℕ → List Asker → ℕ
many k xs = sum_by (is_at k) xs

at_self : (k : ℕ) (a : Ask) → is_at k (k, a) ≡ 1
at_self k a = ap {B = ℕ} (λ (b : Bool). cond b 1 0) (eq-eqb k k refl)

not_at : (i k : ℕ) (a : Ask) → i ≢ k → is_at k (i, a) ≡ 0
not_at i k a ne = elim (eqb_tells i k) [ inl h ↦ absurd (ne h.1) | inr h ↦ ap {B = ℕ} (λ (b : Bool). cond b 1 0) h.0 ]

many_one : (k i : ℕ) (s : LaneState) (o : Option Ask) → many k (asker_of i s o) ≤ is_at k (i, record { user = 0; session = 0; way = way.Down; want = 0 })
many_one k i state.Free o = omega arith
many_one k i state.Worker o = omega arith
many_one k i state.Asked o = omega arith
many_one k i state.Round (Some a) = omega (arith, sum_by-cons (is_at k) (i, a) [])
many_one k i state.Round None = omega arith
many_one k i state.Granted o = omega arith

-- none before the first, and at most one
none_before : (k i : ℕ) (ls : List Lane) → k < i → many k (in_round_from i ls) ≡ 0
none_before k i [] less = refl
none_before k i (l ∷ ls) less =
    omega (
      arith,
      sum_by-append (is_at k) (asker_of i l.shown.state l.shown.ask) (in_round_from (suc i) ls),
      many_one k i l.shown.state l.shown.ask,
      not_at i k (record { user = 0; session = 0; way = way.Down; want = 0 }) (omega arith),
      none_before k (suc i) ls (omega arith),
    )

at_most_one : (k i : ℕ) (ls : List Lane) → many k (in_round_from i ls) ≤ 1
at_most_one k i [] = omega arith
at_most_one k i (l ∷ ls) = elim (eqb_tells i k) [
  | inl h ↦ omega (arith, sum_by-append (is_at k) (asker_of i l.shown.state l.shown.ask) (in_round_from (suc i) ls), many_one k i l.shown.state l.shown.ask, one_at i k, none_before k (suc i) ls (let e : i ≡ k = h.1 in omega arith))
  | inr h ↦ omega (arith, sum_by-append (is_at k) (asker_of i l.shown.state l.shown.ask) (in_round_from (suc i) ls), many_one k i l.shown.state l.shown.ask, ap {B = ℕ} (λ (b : Bool). cond b 1 0) h.0, at_most_one k (suc i) ls)
]
  where
    one_at : (i k : ℕ) → is_at k (i, record { user = 0; session = 0; way = way.Down; want = 0 }) ≤ 1
    one_at i k = elim (eqb_tells i k) [ inl h ↦ omega (arith, ap {B = ℕ} (λ (b : Bool). cond b 1 0) h.0) | inr h ↦ omega (arith, ap {B = ℕ} (λ (b : Bool). cond b 1 0) h.0) ]

-- a lane in Round with an ask is one of them
one_there : (ls : List Lane) (i j : ℕ) (l : Lane) (a : Ask) → slice_get ls j ≡ Some l → l.shown.state ≡ state.Round → l.shown.ask ≡ Some a → 1 ≤ many (i + j) (in_round_from i ls)
one_there [] i j l a e here asks = absurd (cc)
one_there (x ∷ ls) i zero l a e here asks =
    let same : x ≡ l = cc in
    let asker : asker_of i x.shown.state x.shown.ask ≡ (i, a) ∷ [] =
    ap (λ (y : Lane). asker_of i y.shown.state y.shown.ask) same ∙ ap (λ (s : LaneState). asker_of i s l.shown.ask) here ∙ ap (asker_of i state.Round) asks in
    let one : many (i + 0) (asker_of i x.shown.state x.shown.ask) ≡ 1 = ap (many (i + 0)) asker ∙ sum_by-cons (is_at (i + 0)) (i, a) [] ∙ (let s : is_at (i + 0) (i, a) ≡ 1 = subst (λ (n : ℕ). is_at n (i, a) ≡ 1) (let z : i ≡ i + 0 = omega arith in z) (at_self i a) in omega arith) in
    omega (arith, sum_by-append (is_at (i + 0)) (asker_of i x.shown.state x.shown.ask) (in_round_from (suc i) ls))
one_there (x ∷ ls) i (suc j) l a e here asks =
    let later : 1 ≤ many (suc i + j) (in_round_from (suc i) ls) = one_there ls (suc i) j l a e here asks in
    let at : suc i + j ≡ i + suc j = omega arith in
    let moved : 1 ≤ many (i + suc j) (in_round_from (suc i) ls) = subst (λ (n : ℕ). 1 ≤ many n (in_round_from (suc i) ls)) at later in
    omega (arith, sum_by-append (is_at (i + suc j)) (asker_of i x.shown.state x.shown.ask) (in_round_from (suc i) ls))

-- what is named nowhere is not counted, and what is not counted is named nowhere
names_not : (k : ℕ) (xs : List Asker) → many k xs ≡ 0 → NamesNot k (map lane_in xs)
names_not k [] h = tt
names_not k (x ∷ xs) h = (λ e. let one : is_at k x ≡ 1 = ap {B = ℕ} (λ (b : Bool). cond b 1 0) (eq-eqb x.0 k (sym e)) in omega (arith, sum_by-cons (is_at k) x xs), names_not k xs (omega (arith, sum_by-cons (is_at k) x xs)))

not_many : (k : ℕ) (xs : List Asker) → NamesNot k (map lane_in xs) → many k xs ≡ 0
not_many k [] h = refl
not_many k (x ∷ xs) h = omega (arith, sum_by-cons (is_at k) x xs, not_at x.0 k x.1 (λ e. h.0 (sym e)), not_many k xs h.1)

-- ---- the lanes of the plan are open

-- the lane of an ask is in Round with it, and nothing is decided for it
pub record IsAsking (ls : List Lane) (x : Asker) : Type 0 where
  pub lane : Lane
  pub there : slice_get ls x.0 ≡ Some lane
  pub round : lane.shown.state ≡ state.Round
  pub asks : lane.shown.ask ≡ Some x.1
  pub posted : IsPosted lane

abbrev Each : (Asker → Type 0) → List Asker → Type 0
Each P [] = Unit {0}
Each P (x ∷ xs) = P x × Each P xs

each_append : (P : Asker → Type 0) (xs ys : List Asker) → Each P xs → Each P ys → Each P (xs ++ ys)
each_append P [] ys h k = k
each_append P (x ∷ xs) ys h k = (h.0, each_append P xs ys h.1 k)

each_all : (P : Asker → Type 0) (xs : List Asker) → Each P xs → All P xs
each_all P [] h k d less = absurd (omega arith)
each_all P (x ∷ xs) h zero d less = h.0
each_all P (x ∷ xs) h (suc k) d less = each_all P xs h.1 k d (omega arith)

all_each : (P : Asker → Type 0) (xs : List Asker) → All P xs → Each P xs
all_each P [] h = tt
all_each P (x ∷ xs) h = (h 0 x (omega arith), all_each P xs (λ k d less. h (suc k) d (omega arith)))

lane_asks : (all : List Lane) (i : ℕ) (l : Lane) (s : LaneState) (o : Option Ask) → slice_get all i ≡ Some l → l.shown.state ≡ s → l.shown.ask ≡ o → IsPosted l → Each (IsAsking all) (asker_of i s o)
lane_asks all i l state.Free o there e f p = tt
lane_asks all i l state.Worker o there e f p = tt
lane_asks all i l state.Asked o there e f p = tt
lane_asks all i l state.Round (Some a) there e f p = (record { lane = l; there = there; round = e; asks = f; posted = p }, tt)
lane_asks all i l state.Round None there e f p = tt
lane_asks all i l state.Granted o there e f p = tt

lanes_ask : (all : List Lane) (i : ℕ) (ls : List Lane) → ((j : ℕ) (l : Lane) → slice_get ls j ≡ Some l → slice_get all (i + j) ≡ Some l) → EachPosted ls → Each (IsAsking all) (in_round_from i ls)
lanes_ask all i [] at p = tt
lanes_ask all i (l ∷ ls) at p = each_append (IsAsking all) (asker_of i l.shown.state l.shown.ask) (in_round_from (suc i) ls)
    (lane_asks all i l l.shown.state l.shown.ask (subst (λ (n : ℕ). slice_get all n ≡ Some l) (let e : i + 0 ≡ i = omega arith in e) (at 0 l refl)) refl refl p.0)
    (lanes_ask all (suc i) ls (λ j x e. subst (λ (n : ℕ). slice_get all n ≡ Some x) (let e : i + suc j ≡ suc i + j = omega arith in e) (at (suc j) x e)) p.1)

open_lanes : (ls : List Lane) (xs : List Asker) → Each (IsAsking ls) xs → ((k : ℕ) → many k xs ≤ 1) → AreOpen (map lane_in xs) ls
open_lanes ls [] h few = tt
open_lanes ls (x ∷ xs) h few =
    let self : is_at x.0 x ≡ 1 = ap {B = ℕ} (λ (b : Bool). cond b 1 0) (eq-eqb x.0 x.0 refl) in (
      record { lane = h.0.lane; there = h.0.there; round = h.0.round; posted = h.0.posted },
      names_not x.0 xs (omega (arith, few x.0, sum_by-cons (is_at x.0) x xs)),
      open_lanes ls xs h.1 (λ k. omega (arith, few k, sum_by-cons (is_at k) x xs)),
    )

abbrev pub AreAsking : List Lane → List Asker → Type 0
AreAsking ls xs = Each (IsAsking ls) xs × ((k : ℕ) → many k xs ≤ 1)

pub plan_asks : (ls : List Lane) (order : List Asker) → EachPosted ls → IsPermutation (in_round ls) order → AreAsking ls order
plan_asks ls order p perm = (
  all_each (IsAsking ls) order (All-permutation (IsAsking ls) (in_round ls) order perm (each_all (IsAsking ls) (in_round ls) (lanes_ask ls 0 ls (λ j l e. subst (λ (n : ℕ). slice_get ls n ≡ Some l) (let z : j ≡ 0 + j = omega arith in z) e) p))),
  λ k. omega (arith, sum_by-IsPermutation (is_at k) (in_round ls) order perm, at_most_one k 0 ls),
)

pub plan_open : (ls : List Lane) (order : List Asker) → AreAsking ls order → AreOpen (map lane_in order) ls
plan_open ls order h = open_lanes ls order h.0 h.1

-- ---- what is dealt is given

-- an open lane other than the one that was given to is open still
asks_on : (ls : List Lane) (i : ℕ) (m : Lane) (xs : List Asker) → NamesNot i (map lane_in xs) → Each (IsAsking ls) xs → Each (IsAsking (set ls i m)) xs
asks_on ls i m [] ne h = tt
asks_on ls i m (x ∷ xs) ne h =
    (record { lane = h.0.lane; there = get_other ls i x.0 m (λ e. ne.0 (sym e)) ∙ h.0.there; round = h.0.round; asks = h.0.asks; posted = h.0.posted }, asks_on ls i m xs ne.1 h.1)

-- the lane of the first ask, and the others after it was given to
first_here : (ls : List Lane) (x : Asker) (h : IsAsking ls x) → slice_index_or ls x.0 new_lane ≡ h.lane
first_here ls x h = same_at ls x.0 h.lane (slice_index_or ls x.0 new_lane) new_lane h.there refl

abbrev given_first : List Lane → Asker → ℕ → List Lane
given_first ls x n = set ls x.0 (with_amount n (slice_index_or ls x.0 new_lane))

others_ask : (ls : List Lane) (x : Asker) (n : ℕ) (xs : List Asker) → AreAsking ls (x ∷ xs) → AreAsking (given_first ls x n) xs
others_ask ls x n xs h =
    let self : is_at x.0 x ≡ 1 = ap {B = ℕ} (λ (b : Bool). cond b 1 0) (eq-eqb x.0 x.0 refl) in (
      asks_on ls x.0 (with_amount n (slice_index_or ls x.0 new_lane)) xs (names_not x.0 xs (omega (arith, h.1 x.0, sum_by-cons (is_at x.0) x xs))) h.0.1,
      λ k. omega (arith, h.1 k, sum_by-cons (is_at k) x xs),
    )

-- lane j after the deal: not of the plan and as it was, or given an amount
abbrev IsDealt : List Asker → ℕ → Lane → Lane → Type 0
IsDealt xs j l m = (NamesNot j (map lane_in xs) × (m ≡ l)) ⊎ (IsDue l × ((n : ℕ) × (m ≡ with_amount n l)))

dealt_same : (j : ℕ) (x : Asker) (n : ℕ) (xs : List Asker) (l k m : Lane) → j ≡ x.0 → IsDue l → k ≡ with_amount n l → IsDealt xs j k m → IsDealt (x ∷ xs) j l m
dealt_same j x n xs l k m at due is (inl h) = inr (due, (n, h.1 ∙ is))
dealt_same j x n xs l k m at due is (inr h) = inr (due, (h.1.0, h.1.1 ∙ ap (with_amount h.1.0) is))

dealt_other : (j : ℕ) (x : Asker) (xs : List Asker) (l m : Lane) → j ≢ x.0 → IsDealt xs j l m → IsDealt (x ∷ xs) j l m
dealt_other j x xs l m ne (inl h) = inl ((ne, h.0), h.1)
dealt_other j x xs l m ne (inr h) = inr h

dealt_at : (xs : List Asker) (ns : List ℕ) (ls : List Lane) (j : ℕ) (l m : Lane) → length xs ≡ length ns → AreAsking ls xs → slice_get ls j ≡ Some l → slice_get (dealt (map lane_in xs) ns ls) j ≡ Some m → IsDealt xs j l m
dealt_at [] ns ls j l m each h x y = inl (tt, let e : m ≡ l = cc in e)
dealt_at (x ∷ xs) [] ls j l m each h e f = absurd (omega arith)
dealt_at (x ∷ xs) (n ∷ ns) ls j l m each h e f = elim (eqb_tells j x.0) [
  | inl same ↦
      let at : j ≡ x.0 = same.1 in
      let lane : h.0.0.lane ≡ l = let there : slice_get ls x.0 ≡ Some l = subst (λ (i : ℕ). slice_get ls i ≡ Some l) at e in let t : slice_get ls x.0 ≡ Some h.0.0.lane = h.0.0.there in cc in
      let due : IsDue l = subst IsDue lane (h.0.0.round, (x.1, h.0.0.asks)) in
      let now : slice_get (given_first ls x n) j ≡ Some (with_amount n (slice_index_or ls x.0 new_lane)) =
      subst (λ (i : ℕ). slice_get (given_first ls x n) i ≡ Some (with_amount n (slice_index_or ls x.0 new_lane))) (sym at) (get_here ls x.0 h.0.0.lane (with_amount n (slice_index_or ls x.0 new_lane)) h.0.0.there) in
      dealt_same j x n xs l (with_amount n (slice_index_or ls x.0 new_lane)) m at due (ap (with_amount n) (first_here ls x h.0.0 ∙ lane))
      (dealt_at xs ns (given_first ls x n) j (with_amount n (slice_index_or ls x.0 new_lane)) m (omega arith) (others_ask ls x n xs h) now f)
  | inr other ↦
      let ne : j ≢ x.0 = other.1 in
      dealt_other j x xs l m ne (dealt_at xs ns (given_first ls x n) j l m (omega arith) (others_ask ls x n xs h) (get_other ls x.0 j (with_amount n (slice_index_or ls x.0 new_lane)) ne ∙ e) f)
]

pub set_length : (ls : List Lane) (i : ℕ) (m : Lane) → length (set ls i m) ≡ length ls
set_length [] i m = refl
set_length (x ∷ ls) zero m = omega arith
set_length (x ∷ ls) (suc i) m = omega (arith, set_length ls i m)

dealt_length : (is ns : List ℕ) (ls : List Lane) → length (dealt is ns ls) ≡ length ls
dealt_length [] ns ls = refl
dealt_length (i ∷ is) [] ls = refl
dealt_length (i ∷ is) (n ∷ ns) ls = dealt_length is ns (set ls i (with_amount n (slice_index_or ls i new_lane))) ∙ set_length ls i (with_amount n (slice_index_or ls i new_lane))

given_from : (ls ms : List Lane) → length ms ≡ length ls → ((j : ℕ) (l m : Lane) → slice_get ls j ≡ Some l → slice_get ms j ≡ Some m → IsGiven l m) → AreGiven ls ms
given_from [] [] e h = tt
given_from (l ∷ ls) (m ∷ ms) e h = (h 0 l m refl refl, given_from ls ms (omega arith) (λ j x y a b. h (suc j) x y a b))
given_from [] (m ∷ ms) e h = absurd (omega arith)
given_from (l ∷ ls) [] e h = absurd (omega arith)

ask_at : (ls : List Lane) (j : ℕ) (l : Lane) → All HasAsk ls → slice_get ls j ≡ Some l → HasAsk l
ask_at [] j l h e = absurd (cc)
ask_at (x ∷ ls) zero l h e = let same : x ≡ l = cc in subst HasAsk same (h 0 x (omega arith))
ask_at (x ∷ ls) (suc j) l h e = ask_at ls j l (λ k d less. h (suc k) d (omega arith)) e

given_one : (ls : List Lane) (order : List Asker) (j : ℕ) (l m : Lane) → IsPermutation (in_round ls) order → All HasAsk ls → slice_get ls j ≡ Some l → IsDealt order j l m → IsGiven l m
given_one ls order j l m perm asked e (inl h) = inr (
  (λ here.
      let a : (a : Ask) × (l.shown.ask ≡ Some a) = ask_at ls j l asked e here in
      let there : 1 ≤ many (0 + j) (in_round ls) = one_there ls 0 j l a.0 e here a.1 in
      let none : many (0 + j) order ≡ 0 = subst (λ (n : ℕ). many n order ≡ 0) (let z : j ≡ 0 + j = omega arith in z) (not_many j order h.0) in
      absurd (omega (arith, sum_by-IsPermutation (is_at (0 + j)) (in_round ls) order perm))),
  h.1,
)
given_one ls order j l m perm asked e (inr h) = inl h

pub are_given : (ls : List Lane) (order : List Asker) (ns : List ℕ) → length order ≡ length ns → EachPosted ls → All HasAsk ls → IsPermutation (in_round ls) order → AreGiven ls (dealt (map lane_in order) ns ls)
are_given ls order ns each p asked perm = given_from ls (dealt (map lane_in order) ns ls) (dealt_length (map lane_in order) ns ls)
    (λ j l m e f. given_one ls order j l m perm asked e (dealt_at order ns ls j l m each (plan_asks ls order p perm) e f))

-- ---- the grants that are dealt are those of the leaves

abbrev pub leaf_grants : List Asker → List ℕ → List Granted
leaf_grants [] ns = []
leaf_grants (x ∷ xs) [] = []
leaf_grants (x ∷ xs) (n ∷ ns) = record { ask = x.1; octets = n } ∷ leaf_grants xs ns

leaf_asks : (xs : List Asker) (ns : List ℕ) → length xs ≡ length ns → map granted_ask (leaf_grants xs ns) ≡ map ask_in xs
leaf_asks [] ns e = refl
leaf_asks (x ∷ xs) [] e = absurd (omega arith)
leaf_asks (x ∷ xs) (n ∷ ns) e = ap (λ (asks : List Ask). x.1 ∷ asks) (leaf_asks xs ns (omega arith))

leaf_octets : (xs : List Asker) (ns : List ℕ) → length xs ≡ length ns → map granted_octets (leaf_grants xs ns) ≡ ns
leaf_octets [] [] e = refl
leaf_octets [] (n ∷ ns) e = absurd (omega arith)
leaf_octets (x ∷ xs) [] e = absurd (omega arith)
leaf_octets (x ∷ xs) (n ∷ ns) e = ap (λ (ms : List ℕ). n ∷ ms) (leaf_octets xs ns (omega arith))

one_more : (ls : List Lane) (i n : ℕ) (l : Lane) (a : Ask) → slice_get ls i ≡ Some l → l.shown.ask ≡ Some a → IsPosted l → IsPermutation (record { ask = a; octets = n } ∷ decided_grants ls) (decided_grants (set ls i (with_amount n l)))
one_more [] i n l a e asks p = absurd (cc)
one_more (x ∷ ls) zero n l a e asks p =
    let same : x ≡ l = cc in
    let g : Granted = record { ask = a; octets = n } in
    let new : grant_of l.shown.ask (Some n) ≡ g ∷ [] = ap (λ (o : Option Ask). grant_of o (Some n)) asks in
    let old : grant_of x.shown.ask x.hidden.decided ≡ [] = ap (λ (y : Lane). grant_of y.shown.ask y.hidden.decided) same ∙ ap (λ (o : Option Ask). grant_of o l.hidden.decided) asks ∙ ap (grant_of (Some a)) p in
    subst (λ (gs : List Granted). IsPermutation (g ∷ (gs ++ decided_grants ls)) (grant_of l.shown.ask (Some n) ++ decided_grants ls)) (sym old)
    (subst (λ (gs : List Granted). IsPermutation (g ∷ decided_grants ls) (gs ++ decided_grants ls)) (sym new) (IsPermutation-refl (g ∷ decided_grants ls)))
one_more (x ∷ ls) (suc i) n l a e asks p =
    let g : Granted = record { ask = a; octets = n } in
    let gx = grant_of x.shown.ask x.hidden.decided in
    IsPermutation-trans (g ∷ (gx ++ decided_grants ls)) (gx ++ g ∷ decided_grants ls) (gx ++ decided_grants (set ls i (with_amount n l)))
    (IsPermutation-sym (gx ++ g ∷ decided_grants ls) (g ∷ (gx ++ decided_grants ls)) (IsPermutation-middle gx g (decided_grants ls)))
    (IsPermutation-append_right gx (g ∷ decided_grants ls) (decided_grants (set ls i (with_amount n l))) (one_more ls i n l a e asks p))

all_more : (xs : List Asker) (ns : List ℕ) (ls : List Lane) → length xs ≡ length ns → AreAsking ls xs → IsPermutation (leaf_grants xs ns ++ decided_grants ls) (decided_grants (dealt (map lane_in xs) ns ls))
all_more [] ns ls each h = IsPermutation-refl (decided_grants ls)
all_more (x ∷ xs) [] ls each h = absurd (omega arith)
all_more (x ∷ xs) (n ∷ ns) ls each h =
    let g : Granted = record { ask = x.1; octets = n } in
    let lane = h.0.0.lane in
    let one : IsPermutation (g ∷ decided_grants ls) (decided_grants (given_first ls x n)) =
    subst (λ (y : Lane). IsPermutation (g ∷ decided_grants ls) (decided_grants (set ls x.0 (with_amount n y)))) (sym (first_here ls x h.0.0)) (one_more ls x.0 n lane x.1 h.0.0.there h.0.0.asks h.0.0.posted) in
    let rest : IsPermutation (leaf_grants xs ns ++ decided_grants (given_first ls x n)) (decided_grants (dealt (map lane_in xs) ns (given_first ls x n))) = all_more xs ns (given_first ls x n) (omega arith) (others_ask ls x n xs h) in
    IsPermutation-trans (g ∷ (leaf_grants xs ns ++ decided_grants ls)) (leaf_grants xs ns ++ g ∷ decided_grants ls) (decided_grants (dealt (map lane_in xs) ns (given_first ls x n)))
    (IsPermutation-sym (leaf_grants xs ns ++ g ∷ decided_grants ls) (g ∷ (leaf_grants xs ns ++ decided_grants ls)) (IsPermutation-middle (leaf_grants xs ns) g (decided_grants ls)))
    (IsPermutation-trans (leaf_grants xs ns ++ g ∷ decided_grants ls) (leaf_grants xs ns ++ decided_grants (given_first ls x n)) (decided_grants (dealt (map lane_in xs) ns (given_first ls x n)))
    (IsPermutation-append_right (leaf_grants xs ns) (g ∷ decided_grants ls) (decided_grants (given_first ls x n)) one)
    rest)

none_decided : (ls : List Lane) → EachPosted ls → decided_grants ls ≡ []
none_decided [] p = refl
none_decided (l ∷ ls) p = ap (λ (gs : List Granted). gs ++ decided_grants ls) (no_grant l.shown.ask l.hidden.decided p.0) ∙ none_decided ls p.1
  where
    no_grant : (o : Option Ask) (d : Option ℕ) → d ≡ None → grant_of o d ≡ []
    no_grant (Some a) d e = ap (grant_of (Some a)) e
    no_grant None d e = refl

-- ---- the whole

map_length : (xs : List Asker) → length (map lane_in xs) ≡ length xs
map_length [] = refl
map_length (x ∷ xs) = omega (arith, map_length xs)

pub is_shared : (r : Rates) (tick : ℕ) (ls : List Lane) (t : LimitTree) (numbers ns : List ℕ) → AllPosted ls → All HasAsk ls → (plan : IsPlan r tick (in_round ls) t numbers) → IsFair r.share_by (map ask_in plan.order) t ns → length numbers ≡ length ns
    → IsShared r tick ls (dealt numbers ns ls)
is_shared r tick ls t numbers ns posted asked plan fair each =
    let p : EachPosted ls = posted_all ls posted in
    let order_each : length plan.order ≡ length ns = omega (arith, map_length plan.order, ap length plan.lanes_are) in
    subst (λ (is : List ℕ). IsShared r tick ls (dealt is ns ls)) (sym plan.lanes_are) (record {
      given = are_given ls plan.order ns order_each p asked plan.all;
      leaves = leaf_grants plan.order ns;
      all = subst (λ (gs : List Granted). IsPermutation gs (decided_grants (dealt (map lane_in plan.order) ns ls))) (ap (λ (gs : List Granted). leaf_grants plan.order ns ++ gs) (none_decided ls p) ∙ append-nil (leaf_grants plan.order ns))
          (all_more plan.order ns ls order_each (plan_asks ls plan.order p plan.all));
      tree = t;
      of_tick = subst (λ (asks : List Ask). IsTickTree r tick asks t) (sym (leaf_asks plan.order ns order_each)) plan.tree;
      best = subst (λ (asks : List Ask). IsFair r.share_by asks t (map granted_octets (leaf_grants plan.order ns))) (sym (leaf_asks plan.order ns order_each))
          (subst (IsFair r.share_by (map ask_in plan.order) t) (sym (leaf_octets plan.order ns order_each)) fair);
    })

-- ---- as the code has it

-- no two asks in Round are of one lane
pub apart_in_round : (ls : List Lane) → AreApart (in_round ls)
apart_in_round ls k = at_most_one k 0 ls

-- a plan for the asks in Round with fair grants
pub record IsDeal (r : Rates) (tick : ℕ) (ls : List Lane) (t : LimitTree) (numbers ns : List ℕ) : Type 0 where
  pub posted : AllPosted ls
  pub asked : All HasAsk ls
  pub fair : IsFairPlan r tick (in_round ls) t numbers ns

wants_length : (xs : List Asker) → length (map want_of (map ask_in xs)) ≡ length xs
wants_length [] = refl
wants_length (x ∷ xs) = omega (arith, wants_length xs)

deal_each : (r : Rates) (tick : ℕ) (ls : List Lane) (t : LimitTree) (numbers ns : List ℕ) → IsDeal r tick ls t numbers ns → length numbers ≡ length ns
deal_each r tick ls t numbers ns d =
    let plan = d.fair.plan in
    omega (arith, ap length plan.lanes_are, map_length plan.order, (fair_within r.share_by (map ask_in plan.order) t ns d.fair.fair).wanted.leaves, ap length plan.tree.wants, wants_length plan.order)

pub deal_due : (r : Rates) (tick : ℕ) (ls : List Lane) (t : LimitTree) (numbers ns : List ℕ) → IsDeal r tick ls t numbers ns → AreOpen numbers ls
deal_due r tick ls t numbers ns d = subst (λ (is : List ℕ). AreOpen is ls) (sym d.fair.plan.lanes_are) (plan_open ls d.fair.plan.order (plan_asks ls d.fair.plan.order (posted_all ls d.posted) d.fair.plan.all))

pub deal_shared : (r : Rates) (tick : ℕ) (ls : List Lane) (t : LimitTree) (numbers ns : List ℕ) → IsDeal r tick ls t numbers ns → IsShared r tick ls (dealt numbers ns ls)
deal_shared r tick ls t numbers ns d = is_shared r tick ls t numbers ns d.posted d.asked d.fair.plan d.fair.fair (deal_each r tick ls t numbers ns d)

pub deal_sum : (r : Rates) (tick : ℕ) (ls : List Lane) (t : LimitTree) (numbers ns : List ℕ) → IsDeal r tick ls t numbers ns → decided_sum (dealt numbers ns ls) ≡ sum ns
deal_sum r tick ls t numbers ns d =
    let p : EachPosted ls = posted_all ls d.posted in
    let each : length d.fair.plan.order ≡ length ns = omega (arith, map_length d.fair.plan.order, ap length d.fair.plan.lanes_are, deal_each r tick ls t numbers ns d) in
    let perm : IsPermutation (leaf_grants d.fair.plan.order ns) (decided_grants (dealt (map lane_in d.fair.plan.order) ns ls)) =
    subst (λ (gs : List Granted). IsPermutation gs (decided_grants (dealt (map lane_in d.fair.plan.order) ns ls))) (ap (λ (gs : List Granted). leaf_grants d.fair.plan.order ns ++ gs) (none_decided ls p) ∙ append-nil (leaf_grants d.fair.plan.order ns))
    (all_more d.fair.plan.order ns ls each (plan_asks ls d.fair.plan.order p d.fair.plan.all)) in
    let octets : sum (map granted_octets (decided_grants (dealt (map lane_in d.fair.plan.order) ns ls))) ≡ sum (map granted_octets (leaf_grants d.fair.plan.order ns)) =
    sum_by-IsPermutation (λ (n : ℕ). n) (map granted_octets (leaf_grants d.fair.plan.order ns)) (map granted_octets (decided_grants (dealt (map lane_in d.fair.plan.order) ns ls)))
    (IsPermutation-map granted_octets (leaf_grants d.fair.plan.order ns) (decided_grants (dealt (map lane_in d.fair.plan.order) ns ls)) perm) in
    ap (λ (is : List ℕ). decided_sum (dealt is ns ls)) d.fair.plan.lanes_are
    ∙ sym (all_octets ls (dealt (map lane_in d.fair.plan.order) ns ls) p (are_given ls d.fair.plan.order ns each p d.asked d.fair.plan.all))
    ∙ octets ∙ ap sum (leaf_octets d.fair.plan.order ns each)

pub deal_kept : (r : Rates) (tick : ℕ) (ls : List Lane) (t : LimitTree) (numbers ns : List ℕ) (total issued : ℕ) → IsDeal r tick ls t numbers ns → total ≡ sum ns → issued + total ≤ MAX_ISSUED → IsKept ls issued → IsKept (dealt numbers ns ls) (issued + total)
deal_kept r tick ls t numbers ns total issued d is most k = record {
  booked = record {
    shares_are =
        let before : issued ≡ sum_by shares ls = k.booked.shares_are in
        let more : sum_by shares (dealt numbers ns ls) ≡ sum_by shares ls + sum_by decided_of (dealt numbers ns ls) = given_sum shares decided_of shares_add ls (dealt numbers ns ls) (posted_all ls d.posted) (deal_shared r tick ls t numbers ns d).given in
        let sum_is : sum_by decided_of (dealt numbers ns ls) ≡ sum ns = deal_sum r tick ls t numbers ns d in
        omega arith;
    most = most;
  };
  few = let few : length ls ≤ MAX_LANES = k.few in omega (arith, dealt_length numbers ns ls);
}

pub deal_decides : (r : Rates) (w : World) (moment : ℕ) (t : LimitTree) (numbers ns : List ℕ) (total issued : ℕ) (ms : List Lane) → IsReady w moment → IsDeal r (moment / 100) w.lanes t numbers ns → total ≡ sum ns → issued ≡ w.issued → issued + total ≤ MAX_ISSUED
    → ms ≡ dealt numbers ns w.lanes → IsDecision r w moment (moment / 100) total (record { lanes = ms; last_tick = Some (moment / 100); issued = issued + total })
deal_decides r w moment t numbers ns total issued ms ready d is same most at = record {
  ready = ready;
  tick_is = refl;
  shared = subst (IsShared r (moment / 100) w.lanes) (sym at) (deal_shared r (moment / 100) w.lanes t numbers ns d);
  total_is = is ∙ sym (deal_sum r (moment / 100) w.lanes t numbers ns d) ∙ ap decided_sum (sym at);
  last_is = refl;
  issued_is = ap (λ (n : ℕ). n + total) same;
  most = most;
}

pub deal_passes : (r : Rates) (w : World) (moment : ℕ) (t : LimitTree) (numbers ns : List ℕ) (total : ℕ) → IsDeal r (moment / 100) w.lanes t numbers ns → total ≡ sum ns → MAX_ISSUED < w.issued + total → PassesMost r w moment
deal_passes r w moment t numbers ns total d is above = record {
  lanes = dealt numbers ns w.lanes;
  shared = deal_shared r (moment / 100) w.lanes t numbers ns d;
  above = let sum_is : decided_sum (dealt numbers ns w.lanes) ≡ sum ns = deal_sum r (moment / 100) w.lanes t numbers ns d in omega arith;
}
