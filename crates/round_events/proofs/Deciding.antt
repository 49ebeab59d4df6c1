-- A plan with fair grants for the asks in Round leads to a decision.
use Rattle.std.proofs.Common.{◌≡◌, ◌≢◌, ℕ, zero, suc, ◌+◌, ◌/◌, ◌<◌, ◌≤◌, ◌⊎◌, inl, inr, Bool, cond, nat_eq, eq-eqb, ne_eqb, List, [], ◌∷◌, ◌++◌, map, length, get_or, sum, sym, refl, ap, ◌∙◌, subst, arith, append_assoc, All, Option, Some}
use Rattle.std.proofs.lemmas.List.{length-append, length-map}
use Rattle.std.proofs.lemmas.List.Elements.{All-append, All-cons, All-head, All-nil, All-tail}
use Rattle.std.proofs.lemmas.List.Sorted.{All-permutation}
use Rattle.grant_ledger.specs.Books.{NamesNot}
use Rattle.grant_ledger.specs.declared.ledger.TheConstants.{MAX_ISSUED}
use Rattle.limit_tree.specs.Sharing.{LimitTree}
use Rattle.line_rates.specs.Rates.{Rates}
use Rattle.line_rates.specs.TickTree.{Asker, lane_in}
use Rattle.share_world.specs.Shares.{IsFairPlan}
use Rattle.world_terms.specs.declared.event.LaneState.{LaneState}
use Rattle.world_terms.specs.declared.event.LaneState.TheVariants as state
use Rattle.world_terms.specs.Decisions.{AllPosted, AreGiven, IsDecision, IsGiven, IsReady, IsShared, asker_of, decided_sum, in_round, in_round_from, with_amount}
use Rattle.world_terms.specs.Lanes.{Lane}
use Rattle.share_world.specs.Performed.{HasAsk}
use Rattle.lane_desk.proofs.PostedLemmas.{names_other}
use Rattle.round_events.specs.Decided.{IsPlanned, decided_on}
use Rattle.round_events.proofs.Collects.{at}
use Rattle.round_events.proofs.Decided.{decided_at, none_asks, one_asks, plan_length, planned_sum, shared_of}

-- a lane with an amount, if it is in Round
abbrev pub given_to : LaneState → ℕ → Lane → Lane
given_to state.Round n l = with_amount n l
given_to s n l = l

-- the lanes with an amount for each in Round; the first has number k
abbrev pub give : (ℕ → ℕ) → ℕ → List Lane → List Lane
give f k [] = []
give f k (l ∷ ls) = given_to l.shown.state (f k) l ∷ give f (suc k) ls

-- the amount of the first of these lanes with that number
abbrev pub amount_on : List ℕ → List ℕ → ℕ → ℕ
amount_on [] ns i = 0
amount_on (k ∷ ks) [] i = 0
amount_on (k ∷ ks) (n ∷ ns) i = cond (nat_eq k i) n (amount_on ks ns i)

-- no number occurs twice
abbrev pub Once : List ℕ → Type 0
Once [] = Unit {0}
Once (i ∷ is) = NamesNot i is × Once is

pub to_round : (s : LaneState) (n : ℕ) (l : Lane) → s ≡ state.Round → given_to s n l ≡ with_amount n l
to_round s n l e = ap (λ (x : LaneState). given_to x n l) e

pub to_other : (s : LaneState) (n : ℕ) (l : Lane) → s ≢ state.Round → given_to s n l ≡ l
to_other state.Free n l ne = refl
to_other state.Worker n l ne = refl
to_other state.Asked n l ne = refl
to_other state.Round n l ne = absurd (ne refl)
to_other state.Granted n l ne = refl

is_round : (s : LaneState) → (s ≡ state.Round) ⊎ (s ≢ state.Round)
is_round state.Free = inr (λ e. cc)
is_round state.Worker = inr (λ e. cc)
is_round state.Asked = inr (λ e. cc)
is_round state.Round = inl refl
is_round state.Granted = inr (λ e. cc)

one_given : (n : ℕ) (l : Lane) → HasAsk l → IsGiven l (given_to l.shown.state n l)
one_given n l h = elim (is_round l.shown.state) [
  | inl e ↦ inl ((e, h e), (n, to_round l.shown.state n l e))
  | inr ne ↦ inr (ne, to_other l.shown.state n l ne)
]

are_given : (f : ℕ → ℕ) (k : ℕ) (ls : List Lane) → All HasAsk ls → AreGiven ls (give f k ls)
are_given f k [] h = tt
are_given f k (l ∷ ls) h = (one_given (f k) l (All-head HasAsk l ls h), are_given f (suc k) ls (All-tail HasAsk l ls h))

-- the lane of an ask in Round has its amount
abbrev GivesTo : (ℕ → ℕ) → List Lane → Asker → Type 0
GivesTo f ms x = decided_on ms x.0 ≡ Some (f x.0)

one_gives : (f : ℕ → ℕ) (all : List Lane) (k : ℕ) (l : Lane) → HasAsk l → decided_on all k ≡ (given_to l.shown.state (f k) l).hidden.decided → All (GivesTo f all) (asker_of k l.shown.state l.shown.ask)
one_gives f all k l h e = elim (is_round l.shown.state) [
  | inl r ↦
      let a = h r in
      subst (All (GivesTo f all)) (sym (one_asks k l a.0 r a.1)) (All-cons (GivesTo f all) (k, a.0) [] (e ∙ ap (λ (x : Lane). x.hidden.decided) (to_round l.shown.state (f k) l r)) (All-nil (GivesTo f all)))
  | inr ne ↦ subst (All (GivesTo f all)) (sym (none_asks k l.shown.state l.shown.ask ne)) (All-nil (GivesTo f all))
]

all_give : (f : ℕ → ℕ) (done ls : List Lane) (k : ℕ) → length done ≡ k → All HasAsk ls → All (GivesTo f (done ++ give f k ls)) (in_round_from k ls)
all_give f done [] k e h = All-nil (GivesTo f (done ++ []))
all_give f done (l ∷ ls) k e h =
    let m : Lane = given_to l.shown.state (f k) l in
    let all : List Lane = done ++ m ∷ give f (suc k) ls in
    All-append (GivesTo f all) (asker_of k l.shown.state l.shown.ask) (in_round_from (suc k) ls)
    (one_gives f all k l (All-head HasAsk l ls h) (decided_at done m (give f (suc k) ls) k e))
    (subst (λ (xs : List Lane). All (GivesTo f xs) (in_round_from (suc k) ls)) (append_assoc done (m ∷ []) (give f (suc k) ls)) (all_give f (done ++ m ∷ []) ls (suc k) (omega (arith, e, length-append done (m ∷ []))) (All-tail HasAsk l ls h)))

gives_at : (f : ℕ → ℕ) (ms : List Lane) (xs : List Asker) (j : ℕ) → All (GivesTo f ms) xs → j < length (map lane_in xs) → decided_on ms (get_or (map lane_in xs) j 0) ≡ Some (f (get_or (map lane_in xs) j 0))
gives_at f ms [] j h less = absurd (omega arith)
gives_at f ms (x ∷ xs) zero h less = All-head (GivesTo f ms) x xs h
gives_at f ms (x ∷ xs) (suc j) h less = gives_at f ms xs j (All-tail (GivesTo f ms) x xs h) (omega arith)

-- each leaf's amount is found by its lane
pub amount_at : (is ns : List ℕ) (j : ℕ) → Once is → length is ≡ length ns → j < length is → amount_on is ns (get_or is j 0) ≡ get_or ns j 0
amount_at [] ns j once long less = absurd (omega arith)
amount_at (i ∷ is) [] j once long less = absurd (omega (arith, long))
amount_at (i ∷ is) (n ∷ ns) zero once long less = ap (λ (b : Bool). cond b n (amount_on is ns i)) (eq-eqb i i refl)
amount_at (i ∷ is) (n ∷ ns) (suc j) once long less =
    let k : ℕ = get_or is j 0 in
    ap (λ (b : Bool). cond b n (amount_on is ns k)) (ne_eqb i k (λ e. names_other i is j once.0 (omega arith) (sym e))) ∙ amount_at is ns j once.1 (omega (arith, long)) (omega arith)

module _ (rates : Rates) (tick : ℕ) (ls : List Lane) (t : LimitTree) (lanes grants : List ℕ) (asked : All HasAsk ls) (p : IsFairPlan rates tick (in_round ls) t lanes grants) (once : Once lanes) where
  abbrev pub decided_lanes : List Lane
  decided_lanes = give (amount_on lanes grants) 0 ls

  pub lanes_length : length lanes ≡ length grants
  lanes_length = ap length p.plan.lanes_are ∙ length-map p.plan.order lane_in ∙ plan_length rates tick (in_round ls) t lanes grants p

  pub planned : IsPlanned rates tick ls decided_lanes
  planned =
      let f : ℕ → ℕ = amount_on lanes grants in
      let gives : All (GivesTo f decided_lanes) p.plan.order = All-permutation (GivesTo f decided_lanes) (in_round ls) p.plan.order p.plan.all (all_give f [] ls 0 refl asked) in
      record {
        given = are_given f 0 ls asked;
        tree = t;
        lanes = lanes;
        grants = grants;
        shares = p;
        decided = λ j less.
            subst (λ (is : List ℕ). decided_on decided_lanes (get_or is j 0) ≡ Some (f (get_or is j 0))) (sym p.plan.lanes_are) (gives_at f decided_lanes p.plan.order j gives (subst (λ (is : List ℕ). j < length is) p.plan.lanes_are less))
            ∙ ap Some (amount_at lanes grants j once lanes_length less);
      }

  -- the amounts decided are a decision of the core, and add up to the grants
  pub decided_is : AllPosted ls → IsShared rates tick ls decided_lanes × (decided_sum decided_lanes ≡ sum grants)
  unfolding planned
  decided_is posted = (shared_of rates tick ls decided_lanes posted planned, planned_sum rates tick ls decided_lanes posted planned)

-- a round's decision
pub decides : (rates : Rates) (moment : ℕ) (last : Option ℕ) (issued : ℕ) (ls : List Lane) (t : LimitTree) (lanes grants : List ℕ) → All HasAsk ls → IsFairPlan rates (moment / 100) (in_round ls) t lanes grants → Once lanes
    → IsReady (at last issued ls) moment → issued + sum grants ≤ MAX_ISSUED
    → IsDecision rates (at last issued ls) moment (moment / 100) (sum grants) (at (Some (moment / 100)) (issued + sum grants) (give (amount_on lanes grants) 0 ls))
decides rates moment last issued ls t lanes grants asked p once ready room =
    let is = decided_is rates (moment / 100) ls t lanes grants asked p once ready.posted in
    record {
      ready = ready;
      tick_is = refl;
      shared = is.0;
      total_is = sym is.1;
      last_is = refl;
      issued_is = refl;
      most = room;
    }
