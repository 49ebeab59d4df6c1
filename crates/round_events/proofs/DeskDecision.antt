-- A decision of a round at the desk is a decision of the core.
use Rattle.std.proofs.Common.{◌≡◌, ◌≢◌, ◌⊎◌, inl, inr, ℕ, zero, suc, ◌+◌, ◌/◌, ◌<◌, ◌≤◌, Bool, cond, eq-eqb, ne_eqb, List, [], ◌∷◌, ◌++◌, map, length, get_or, sym, refl, ap, ◌∙◌, subst, arith, append-nil, All, Option, Some, None}
use mathlib.Core.Option.{none, some, some-injective}
use lib.ListN.{get_elem?}
use Rattle.std.specs.List.{list_any}
use Rattle.std.proofs.lemmas.List.{length-map}
use Rattle.std.proofs.lemmas.List.Elements.{All-cons, All-head, All-nil, All-tail}
use Rattle.atomic_table.specs.Table.{State}
use Rattle.grant_ledger.specs.Books.{NamesNot}
use Rattle.line_rates.specs.declared.ask.Ask.{Ask}
use Rattle.line_rates.specs.Rates.{Rates}
use Rattle.line_rates.specs.TickTree.{Asker}
use Rattle.world_terms.specs.declared.event.LaneState.TheVariants as state
use Rattle.world_terms.specs.Decisions.{IsDecision, asker_of, in_round, in_round_from, wants_too_much}
use Rattle.world_terms.specs.Lanes.{Hidden, Lane, Shown, World, hidden}
use Rattle.desk_rule.specs.declared.view.DeskView.{DeskView}
use Rattle.desk_rule.specs.declared.view.DeskView.TheVariants.{Round}
use Rattle.desk_rule.specs.declared.view.LaneSlot.{LaneSlot}
use Rattle.desk_rule.specs.declared.view.LaneView.{LaneView}
use Rattle.desk_rule.specs.declared.view.RoundView.{RoundView}
use Rattle.desk_rule.specs.declared.view.TraceView.{TraceView}
use Rattle.desk_rule.specs.Lanes.{Agrees, Kept, KnowsRound, Phase, free, worker, asked, round, granted}
use Rattle.desk_rule.specs.Shown.{last_of, shown_in, state_in}
use Rattle.lane_desk.specs.Tried.{asks_from}
use Rattle.round_events.specs.Desk.{HoldsDecision, Holdings, NoneDecided, decided_by, due_ask, grant_on, lanes_by, world_of}
use Rattle.share_world.specs.Performed.{HasAsk}
use Rattle.share_world.specs.Shares.{IsFairPlan}
use Rattle.lane_desk.proofs.PostedLemmas.{names_other}
use Rattle.round_events.proofs.Deciding.{Once, amount_on, amount_at, decides, give, given_to, lanes_length, to_other}
use Rattle.round_events.proofs.Desk.{all_decided}
use Rattle.round_events.proofs.Found.{AreFound, are_found}

-- a lane is with the round, with the ask that is due; or it is not, and none is due
abbrev pub IsDueOn : Option Ask → Shown → Type 0
IsDueOn o x = ((x.state ≡ state.Round) × (o ≡ x.ask) × ((a : Ask) × (x.ask ≡ Some a))) ⊎ ((x.state ≢ state.Round) × (o ≡ None))

pub not_due : (t : TraceView) → length t.collected ≡ length t.posted + 0 → due_ask t ≡ None
not_due t e = ap (λ (b : Bool). cond b (last_of t.collected) None) (ne_eqb (length t.collected) (length t.posted + 1) (λ same. omega (arith, e, same)))

pub is_now_due : (t : TraceView) → length t.collected ≡ length t.posted + 1 → due_ask t ≡ last_of t.collected
is_now_due t e = ap (λ (b : Bool). cond b (last_of t.collected) None) (eq-eqb (length t.collected) (length t.posted + 1) e)

last_some : (xs : List Ask) (n : ℕ) → length xs ≡ n + 1 → (a : Ask) × (last_of xs ≡ Some a)
last_some [] n e = absurd (omega (arith, e))
last_some (a ∷ []) n e = (a, refl)
last_some (a ∷ b ∷ xs) n e = last_some (b ∷ xs) (length xs) (omega arith)

module _ {N : Type 0} where
  pub due_on : (i n : ℕ) (h : mathlib.Core.Option.Option (mathlib.Core.Option.Option (LaneSlot N))) (x : LaneView) (t : TraceView) (ph : Phase N) → Agrees i n h x t ph → IsDueOn (due_ask t) (Rattle.desk_rule.specs.Shown.shown_of ph x t)
  due_on i n h x t free ok = inr ((λ e. cc), not_due t ok.answered)
  due_on i n h x t worker ok = inr ((λ e. cc), not_due t ok.answered)
  due_on i n h x t (asked a) ok = inr ((λ e. cc), not_due t ok.answered)
  due_on i n h x t round ok =
      let same : x.asks ≡ t.collected = ok.asks_are ∙ append-nil t.collected in
      let last = last_some t.collected (length t.posted) ok.answered in
      inl (refl, is_now_due t ok.answered ∙ ap last_of (sym same), (last.0, ap last_of same ∙ last.1))
  due_on i n h x t (granted g) ok = inr ((λ e. cc), not_due t ok.answered)

pub due_mapped : (ts : List TraceView) (i : ℕ) (t : TraceView) → get_elem? ts i ≡ some t → get_or (map due_ask ts) i None ≡ due_ask t
due_mapped [] i t e = absurd (cc)
due_mapped (u ∷ ts) zero t e = ap due_ask (some-injective _ _ e)
due_mapped (u ∷ ts) (suc i) t e = due_mapped ts i t e

-- each lane, of which the first has number k
abbrev EachDue : (ℕ → Shown) → (ℕ → Option Ask) → ℕ → List Hidden → Type 0
EachDue f o k [] = Unit {0}
EachDue f o k (x ∷ xs) = IsDueOn (o k) (f k) × EachDue f o (suc k) xs

one_due_asks : (k : ℕ) (x : Shown) (y : Hidden) (o : Option Ask) (rest : List (Option Ask)) → IsDueOn o x → asker_of k x.state x.ask ++ asks_from (k + 1) rest ≡ asks_from k (o ∷ rest)
one_due_asks k x y o rest (inl d) =
    let a = d.2 in
    (λ q. asker_of k (d.0 q) (a.1 q) ++ asks_from (k + 1) rest) ∙ sym (ap (λ (p : Option Ask). asks_from k (p ∷ rest)) (d.1 ∙ a.1))
one_due_asks k x y o rest (inr d) = ap (λ (xs : List Asker). xs ++ asks_from (k + 1) rest) (Rattle.round_events.proofs.Decided.none_asks k x.state x.ask d.0) ∙ sym (ap (λ (p : Option Ask). asks_from k (p ∷ rest)) d.1)

due_asks_are : (f : ℕ → Shown) (o : ℕ → Option Ask) (k : ℕ) (xs : List Hidden) (os : List (Option Ask)) → length os ≡ length xs → ((i : ℕ) → o (k + i) ≡ get_or os i None) → EachDue f o k xs → in_round_from k (lanes_by f k xs) ≡ asks_from k os
due_asks_are f o k [] [] e is h = refl
due_asks_are f o k [] (p ∷ os) e is h = absurd (omega (arith, e))
due_asks_are f o k (x ∷ xs) [] e is h = absurd (omega (arith, e))
due_asks_are f o k (x ∷ xs) (p ∷ os) e is h =
    let first : o k ≡ p = (let z : k ≡ k + 0 = omega arith in ap o z) ∙ is 0 in
    let rest : in_round_from (suc k) (lanes_by f (suc k) xs) ≡ asks_from (suc k) os = due_asks_are f o (suc k) xs os (omega (arith, e)) (λ i. (let z : suc k + i ≡ k + suc i = omega arith in ap o z) ∙ is (suc i)) h.1 in
    let next : suc k ≡ k + 1 = omega arith in
    ap (λ (ys : List Asker). asker_of k (f k).state (f k).ask ++ ys) (rest ∙ ap (λ (n : ℕ). asks_from n os) next)
    ∙ one_due_asks k (f k) x (o k) os h.0 ∙ ap (λ (q : Option Ask). asks_from k (q ∷ os)) first

due_asked : (f : ℕ → Shown) (o : ℕ → Option Ask) (k : ℕ) (xs : List Hidden) → EachDue f o k xs → All HasAsk (lanes_by f k xs)
due_asked f o k [] h = All-nil HasAsk
due_asked f o k (x ∷ xs) h = All-cons HasAsk (record { shown = f k; hidden = x }) (lanes_by f (suc k) xs) (one (f k) (o k) h.0) (due_asked f o (suc k) xs h.1)
  where
    one : (y : Shown) (p : Option Ask) → IsDueOn p y → HasAsk (record { shown = y; hidden = x })
    one y p (inl d) e = d.2
    one y p (inr d) e = absurd (d.0 e)

pub grant_at : (is ns : List ℕ) (j : ℕ) → Once is → length is ≡ length ns → j < length is → grant_on is ns (get_or is j 0) ≡ Some (get_or ns j 0)
grant_at [] ns j once long less = absurd (omega arith)
grant_at (i ∷ is) [] j once long less = absurd (omega (arith, long))
grant_at (i ∷ is) (n ∷ ns) zero once long less = ap (λ (b : Bool). cond b (Some n) (grant_on is ns i)) (eq-eqb i i refl)
grant_at (i ∷ is) (n ∷ ns) (suc j) once long less =
    let k : ℕ = get_or is j 0 in
    ap (λ (b : Bool). cond b (Some n) (grant_on is ns k)) (ne_eqb i k (λ e. names_other i is j once.0 (omega arith) (sym e))) ∙ grant_at is ns j once.1 (omega (arith, long)) (omega arith)

pub no_grant : (is ns : List ℕ) (i : ℕ) → NamesNot i is → grant_on is ns i ≡ None
no_grant [] ns i ne = refl
no_grant (k ∷ is) [] i ne = refl
no_grant (k ∷ is) (n ∷ ns) i ne = ap (λ (b : Bool). cond b (Some n) (grant_on is ns i)) (ne_eqb k i (λ e. ne.0 (sym e))) ∙ no_grant is ns i ne.1

-- what is decided for a lane of the desk is what the core decides for it
abbrev IsSameGrant : (ℕ → Option ℕ) → (ℕ → ℕ) → ℕ → Shown → Hidden → Type 0
IsSameGrant g a k s x = ◌≡◌ {A = Lane} (record { shown = s; hidden = hidden x.moved x.back x.hand (g k) }) (given_to s.state (a k) (record { shown = s; hidden = x }))

abbrev EachSame : (ℕ → Option ℕ) → (ℕ → ℕ) → (ℕ → Shown) → ℕ → List Hidden → Type 0
EachSame g a f k [] = Unit {0}
EachSame g a f k (x ∷ xs) = IsSameGrant g a k (f k) x × EachSame g a f (suc k) xs

all_same : (g : ℕ → Option ℕ) (a : ℕ → ℕ) (f : ℕ → Shown) (k : ℕ) (xs : List Hidden) → EachSame g a f k xs → lanes_by f k (decided_by g k xs) ≡ give a k (lanes_by f k xs)
all_same g a f k [] h = refl
all_same g a f k (x ∷ xs) h = λ q. h.0 q ∷ all_same g a f (suc k) xs h.1 q

module _ (lanes grants : List ℕ) (os : List (Option Ask)) (are : AreFound os lanes) (long : length lanes ≡ length grants) where
  same_grant : (k : ℕ) (s : Shown) (x : Hidden) → IsDueOn (get_or os k None) s → x.decided ≡ None → IsSameGrant (grant_on lanes grants) (amount_on lanes grants) k s x
  same_grant k s x (inl d) unset =
      let a = d.2 in
      let place = are.place k a.0 (d.1 ∙ a.1) in
      let j : ℕ = place.0 in
      let gives : grant_on lanes grants k ≡ Some (amount_on lanes grants k) =
      subst (λ (n : ℕ). grant_on lanes grants n ≡ Some (amount_on lanes grants n)) place.2 (grant_at lanes grants j are.once long place.1 ∙ ap Some (sym (amount_at lanes grants j are.once long place.1))) in
      (λ q. record { shown = s; hidden = hidden x.moved x.back x.hand (gives q) }) ∙ sym (Rattle.round_events.proofs.Deciding.to_round s.state (amount_on lanes grants k) (record { shown = s; hidden = x }) d.0)
  same_grant k s x (inr d) unset =
      (λ q. record { shown = s; hidden = hidden x.moved x.back x.hand ((no_grant lanes grants k (are.none k d.1) ∙ sym unset) q) }) ∙ sym (to_other s.state (amount_on lanes grants k) (record { shown = s; hidden = x }) d.0)

  each_same : (f : ℕ → Shown) (k : ℕ) (xs : List Hidden) → EachDue f (λ i. get_or os i None) k xs → NoneDecided xs → EachSame (grant_on lanes grants) (amount_on lanes grants) f k xs
  each_same f k [] h unset = tt
  each_same f k (x ∷ xs) h unset = (
    same_grant k (f k) x h.0 (All-head (λ (y : Hidden). y.decided ≡ None) x xs unset),
    each_same f (suc k) xs h.1 (All-tail (λ (y : Hidden). y.decided ≡ None) x xs unset),
  )

each_due : (f : ℕ → Shown) (o : ℕ → Option Ask) (k n : ℕ) (xs : List Hidden) → k + length xs ≡ n → ((i : ℕ) → i < n → IsDueOn (o i) (f i)) → EachDue f o k xs
each_due f o k n [] e h = tt
each_due f o k n (x ∷ xs) e h = (h k (omega (arith, e)), each_due f o (suc k) n xs (omega (arith, e)) h)

module _ {N : Type 0} (s : State (LaneSlot N) DeskView) (r : Kept s) (h h' : Holdings) (long : length h.lanes ≡ length s.homes) (seat : ℕ) (view : RoundView) (there : get_elem? s.views seat ≡ some (Round view)) where
  due : EachDue (shown_in r) (λ i. get_or (map due_ask view.traces) i None) 0 h.lanes
  due =
      let kn : KnowsRound (length s.homes) r.lane r.trace r.owner r.desk r.dealt seat view = r.each_view seat (Round view) there in
      each_due (shown_in r) (λ i. get_or (map due_ask view.traces) i None) 0 (length s.homes) h.lanes (omega (arith, long))
      (λ i less. subst (λ (o : Option Ask). IsDueOn o (shown_in r i)) (sym (due_mapped view.traces i (r.trace i) (kn.each_trace i less))) (due_on i (get_or s.words i 0) (get_elem? s.homes i) (r.lane i) (r.trace i) (r.phase i) (r.each_lane i less)))

  pub decided_step : (rates : Rates) (moment tick total : ℕ) → HoldsDecision rates view.traces moment tick total h h' → IsDecision rates (world_of r h) moment tick total (world_of r h')
  decided_step rates moment tick total d =
      let os : List (Option Ask) = map due_ask view.traces in
      let kn : KnowsRound (length s.homes) r.lane r.trace r.owner r.desk r.dealt seat view = r.each_view seat (Round view) there in
      let ls : List Lane = lanes_by (shown_in r) 0 h.lanes in
      let asks : in_round ls ≡ asks_from 0 os = due_asks_are (shown_in r) (λ i. get_or os i None) 0 h.lanes os (length-map view.traces due_ask ∙ kn.wide ∙ sym long) (λ i. (let z : 0 + i ≡ i = omega arith in ap (λ (n : ℕ). get_or os n None) z)) due in
      let shares : IsFairPlan rates (moment / 100) (in_round ls) d.tree d.lanes d.grants = subst (λ (xs : List Asker). IsFairPlan rates (moment / 100) xs d.tree d.lanes d.grants) (sym asks) d.shares in
      let are : AreFound os d.lanes = subst (AreFound os) (sym d.shares.plan.lanes_are) (are_found os d.shares.plan.order d.shares.plan.all) in
      let asked : All HasAsk ls = due_asked (shown_in r) (λ i. get_or os i None) 0 h.lanes due in
      let same : lanes_by (shown_in r) 0 (decided_by (grant_on d.lanes d.grants) 0 h.lanes) ≡ give (amount_on d.lanes d.grants) 0 ls =
      all_same (grant_on d.lanes d.grants) (amount_on d.lanes d.grants) (shown_in r) 0 h.lanes (each_same d.lanes d.grants os are (lanes_length rates (moment / 100) ls d.tree d.lanes d.grants asked shares are.once) (shown_in r) 0 h.lanes due d.posted) in
      let core = decides rates moment h.last_tick h.issued ls d.tree d.lanes d.grants asked shares are.once (record { posted = all_decided (shown_in r) 0 h.lanes d.posted; later = d.later; wants = ap (list_any wants_too_much) asks ∙ d.small })
      (subst (λ (n : ℕ). h.issued + n ≤ Rattle.grant_ledger.specs.declared.ledger.TheConstants.MAX_ISSUED) d.total_is d.room) in
      let here : World = world_of r h in
      let moved = subst (λ (z : ℕ × ℕ × List Lane). IsDecision rates here moment z.0 z.1 (record { lanes = z.2; last_tick = Some z.0; issued = h.issued + z.1 })) (λ q. (sym d.tick_is q, sym d.total_is q, sym same q)) core in
      subst (λ (k : Holdings). IsDecision rates here moment tick total (world_of r k)) (sym d.rest) moved
