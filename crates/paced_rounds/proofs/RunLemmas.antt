-- Steps of a history.
use Rattle.std.proofs.Common.{◌≡◌, ℕ, suc, ◌+◌, ◌/◌, ◌<◌, ◌≤◌, List, [], ◌∷◌, ◌++◌, map, drop, length, get_or, sum, inl, inr, sym, refl, ap, ◌∙◌, subst, arith, Bool, Result, Ok, Err}
use Rattle.std.specs.Prelude.{sum_by, IfOk, OnErr}
use Rattle.std.proofs.Math.Logic.{∥∥₁_map, ∥∥₁_elim}
use Rattle.std.proofs.Props.{props}
use Rattle.std.proofs.lemmas.List.{map-append, append_assoc}
use Rattle.std.proofs.lemmas.List.Sums.{sum_by_push, sum-map}
use Rattle.limit_tree.specs.Outline.{limits as seen}
use Rattle.fair_terms.specs.Fair.{IsFair, fair_within}
use Rattle.limit_tree.specs.Sharing.{LimitTree}
use Rattle.line_rates.specs.declared.ask.Ask.{Ask}
use Rattle.line_rates.specs.declared.ask.Name.{Name}
use Rattle.line_rates.specs.Granted.{Granted, granted_ask, granted_octets, GrantsKeepNames}
use Rattle.line_rates.specs.Names.{want_of}
use Rattle.line_rates.specs.Rates.{Rates}
use Rattle.line_rates.specs.TickTree.{IsTickTree}
use Rattle.desk_rule.specs.declared.view.TraceView.{TraceView}
use Rattle.lane_desk.specs.declared.record.RoundRecord.{RoundRecord}
use Rattle.lane_desk.specs.declared.record.RoundFault.{RoundFault}
use Rattle.lane_desk.specs.Rounded.{IsRoundOver}
use Rattle.lane_desk.proofs.PostedLemmas.{drops}
use Rattle.round_pace.specs.Earned.{tick_of}
use Rattle.round_pace.specs.Offered.{offer_round}
use Rattle.round_pace.specs.Paced.{Paced, IsPacedFrom}
use Rattle.round_pace.specs.Changed.{IsChangedTo, idle}
use Rattle.round_pace.specs.Histories.{Held, take_all, after, after_all, KeepsLimits, AreBest, IsHeld, AreHeld, rates_of, RatesStay, NewRates, TicksBegin}
use Rattle.round_pace.specs.Rounds.{granted_where, is_in}
use Rattle.round_pace.specs.Stretches.{Stretch, Lead, round_of, rated_under, rates_where, changes, AreWithin, IsWindowed, AreWindowed, StretchesKeep, StretchesKeepRates, NewIsChanged}
use Rattle.paced_rounds.specs.History.{leaves, granted_by, round_at, octets_of, octets_in, Entry, granted_in, held_in, history, Ended, stretch_under, stretch_in, ended_in, stretches, IsRun}

abbrev pub Outcome : Type 0 → Type 0
Outcome A = Result (RoundRecord A) RoundFault

-- asks with their grants
pub leaves-asks : (xs : List Ask) (ns : List ℕ) → length xs ≡ length ns → map granted_ask (leaves xs ns) ≡ xs
leaves-asks [] ns e = refl
leaves-asks (x ∷ xs) [] e = absurd (omega (arith, e))
leaves-asks (x ∷ xs) (n ∷ ns) e = ap (λ (l : List Ask). x ∷ l) (leaves-asks xs ns (omega (arith, e)))

pub leaves-octets : (xs : List Ask) (ns : List ℕ) → length xs ≡ length ns → map granted_octets (leaves xs ns) ≡ ns
leaves-octets [] [] e = refl
leaves-octets [] (n ∷ ns) e = absurd (omega (arith, e))
leaves-octets (x ∷ xs) [] e = absurd (omega (arith, e))
leaves-octets (x ∷ xs) (n ∷ ns) e = ap (λ (l : List ℕ). n ∷ l) (leaves-octets xs ns (omega (arith, e)))

-- one round more
after_more : (p : Paced) (hs : List Held) (h : Held) → after_all p (hs ++ h ∷ []) ≡ after (after_all p hs) h
after_more p [] h = refl
after_more p (x ∷ hs) h = after_more (after p x) hs h

held_more : (p : Paced) (hs : List Held) (h : Held) → AreHeld p hs → IsHeld (after_all p hs) h → AreHeld p (hs ++ h ∷ [])
held_more p [] h are is = (is, tt)
held_more p (x ∷ hs) h are is = (are.0, held_more (after p x) hs h are.1 is)

-- one round more in the last stretch, and one stretch more
lead_more : (p q : Paced) (ss : List Stretch) (r : Rates) (hs : List Held) (h : Held) → Lead p (ss ++ record { rates = r; rounds = hs } ∷ []) q → IsHeld q h → Lead p (ss ++ record { rates = r; rounds = hs ++ h ∷ [] } ∷ []) (after q h)
lead_more p q [] r hs h lead is =
    (lead.0, lead.1, held_more lead.0 hs h lead.2 (subst (λ (x : Paced). IsHeld x h) (sym lead.3) is), after_more lead.0 hs h ∙ ap (λ (x : Paced). after x h) lead.3)
lead_more p q (s ∷ ss) r hs h lead is = (lead.0, lead.1, lead.2, lead_more (after_all lead.0 s.rounds) q ss r hs h lead.3 is)

lead_change : (p q x : Paced) (ss : List Stretch) (r : Rates) → Lead p ss q → IsChangedTo r q x → Lead p (ss ++ record { rates = r; rounds = [] } ∷ []) x
lead_change p q x [] r lead to = (x, subst (λ (y : Paced). IsChangedTo r y x) (sym lead) to, tt, refl)
lead_change p q x (s ∷ ss) r lead to = (lead.0, lead.1, lead.2, lead_change (after_all lead.0 s.rounds) q x ss r lead.3 to)

run_next : TicksBegin → RatesStay → (p q : Paced) (latest : ℕ) (ss : List Stretch) (hs : List Held) (h : Held) → latest ≤ h.now → KeepsLimits (offer_round (tick_of h.now) p).offered ((offer_round (tick_of h.now) p).moment / 100) h.leaves → AreBest (offer_round (tick_of h.now) p).offered ((offer_round (tick_of h.now) p).moment / 100) h.leaves → q ≡ after p h
    → IsRun p latest (ss ++ stretch_under p hs ∷ []) → IsRun q h.now (ss ++ stretch_under q (hs ++ h ∷ []) ∷ [])
run_next ticks stay p q latest ss hs h later kept best is r =
    let soon : p.begun ≤ tick_of h.now + 1 = omega (arith, later, r.near) in
    let held : IsHeld p h = record { later = soon; kept = kept; best = best } in
    let same : rates_of q ≡ rates_of p = ap rates_of is ∙ stay p h in
    let lead : Lead (idle r.begun) (ss ++ record { rates = rates_of p; rounds = hs ++ h ∷ [] } ∷ []) (after p h) = lead_more (idle r.begun) p ss (rates_of p) hs h r.lead held in
    record {
      begun = r.begun;
      lead = subst (λ (z : Rates × Paced). Lead (idle r.begun) (ss ++ record { rates = z.0; rounds = hs ++ h ∷ [] } ∷ []) z.1) (λ i. (sym same i, sym is i)) lead;
      near = (let e : q.begun ≡ tick_of h.now + 1 = ap (λ (x : Paced). x.begun) is ∙ ticks p h soon in omega (arith, e));
    }

pub run_more : TicksBegin → RatesStay → (p q : Paced) (latest : ℕ) (ss new : List Stretch) (hs : List Held) (h : Held) → latest ≤ h.now
    → KeepsLimits (offer_round (tick_of h.now) p).offered ((offer_round (tick_of h.now) p).moment / 100) h.leaves → AreBest (offer_round (tick_of h.now) p).offered ((offer_round (tick_of h.now) p).moment / 100) h.leaves → q ≡ after p h → new ≡ ss ++ stretch_under q (hs ++ h ∷ []) ∷ []
    → ∥ IsRun p latest (ss ++ stretch_under p hs ∷ []) ∥₁ → ∥ IsRun q h.now new ∥₁
run_more ticks stay p q latest ss new hs h later kept best is e old =
    ∥∥₁_map old (λ r. subst (IsRun q h.now) (sym e) (run_next ticks stay p q latest ss hs h later kept best is r))

-- other rates
run_changed : (p q : Paced) (latest : ℕ) (ss : List Stretch) (limits : Rates) → IsChangedTo limits p q → rates_of q ≡ limits → IsRun p latest ss → IsRun q latest (ss ++ stretch_under q [] ∷ [])
run_changed p q latest ss limits to are r = record {
  begun = r.begun;
  lead = subst (λ (x : Rates). Lead (idle r.begun) (ss ++ record { rates = x; rounds = [] } ∷ []) q) (sym are) (lead_change (idle r.begun) p q ss limits r.lead to);
  near = (let e : q.begun ≡ p.begun = ap (λ (x : Paced). x.begun) to.is in omega (arith, e, r.near));
}

pub run_change : (p q : Paced) (latest : ℕ) (ss new : List Stretch) (limits : Rates) → IsChangedTo limits p q → rates_of q ≡ limits → new ≡ ss ++ stretch_under q [] ∷ [] → ∥ IsRun p latest ss ∥₁ → ∥ IsRun q latest new ∥₁
run_change p q latest ss new limits to are e old = ∥∥₁_map old (λ r. subst (IsRun q latest) (sym e) (run_changed p q latest ss limits to are r))

-- the log with one round more
pub grown : (items new : List Entry) (x : Entry) (h : Held) → new ≡ items ++ x ∷ [] → held_in x ≡ h → history new ≡ history items ++ h ∷ []
grown items new x h e is = ap history e ∙ map-append held_in items (x ∷ []) ∙ ap (λ (y : Held). history items ++ y ∷ []) is

pub taken_next : (xs : List Ask) (ns : List ℕ) (d : Ask) (i : ℕ) (old new : List (Ask × ℕ)) → i < length xs → length xs ≡ length ns → new ≡ old ++ (get_or xs i d, get_or ns i 0) ∷ []
    → map granted_in new ++ leaves (drop (i + 1) xs) (drop (i + 1) ns) ≡ map granted_in old ++ leaves (drop i xs) (drop i ns)
taken_next xs ns d i old new h e is =
    ap (λ (l : List (Ask × ℕ)). map granted_in l ++ leaves (drop (i + 1) xs) (drop (i + 1) ns)) is
    ∙ ap (λ (l : List Granted). l ++ leaves (drop (i + 1) xs) (drop (i + 1) ns)) (map-append granted_in old ((get_or xs i d, get_or ns i 0) ∷ []))
    ∙ append_assoc (map granted_in old) (granted_in (get_or xs i d, get_or ns i 0) ∷ []) (leaves (drop (i + 1) xs) (drop (i + 1) ns))
    ∙ (λ k. map granted_in old ++ leaves (sym (drops xs d i h) k) (sym (drops ns 0 i (omega (arith, h, e))) k))

-- what a round grants keeps the limits
pub keeps : GrantsKeepNames → (given : ℕ → Bool) (rates : Rates) (tick : ℕ) (old new : List TraceView) (marks : ℕ) (tree : LimitTree) (lanes : List ℕ) (asks : List Ask) (grants : List ℕ) → IsRoundOver given rates tick old new marks tree lanes asks grants → IsFair rates.share_by asks tree grants
    → (length asks ≡ length grants) × KeepsLimits rates tick (leaves asks grants) × AreBest rates tick (leaves asks grants)
keeps law given rates tick old new marks tree lanes asks grants round best =
    let tree_of : IsTickTree rates tick asks tree = subst (λ (xs : List Ask). IsTickTree rates tick xs tree) (sym round.asks_are) round.plan.tree in
    let each : length asks ≡ length grants = sym ((fair_within rates.share_by asks tree grants best).wanted.leaves ∙ ap length tree_of.wants ∙ long want_of asks) in (
      each,
      law rates tick tree (leaves asks grants)
          (subst (λ (xs : List Ask). IsTickTree rates tick xs tree) (sym (leaves-asks asks grants each)) tree_of)
          (subst (λ (ns : List ℕ). Rattle.limit_tree.specs.Sharing.IsWithin tree ns) (sym (leaves-octets asks grants each)) (fair_within rates.share_by asks tree grants best)),
      inr (tree, subst (λ (xs : List Ask). IsTickTree rates tick xs tree) (sym (leaves-asks asks grants each)) tree_of, subst (λ (xs : List Ask). IsFair rates.share_by xs tree (map granted_octets (leaves asks grants))) (sym (leaves-asks asks grants each)) (subst (λ (ns : List ℕ). IsFair rates.share_by asks tree ns) (sym (leaves-octets asks grants each)) best)),
    )
  where
    long : (f : Ask → ℕ) (xs : List Ask) → length (map f xs) ≡ length xs
    long f [] = refl
    long f (x ∷ xs) = ap suc (long f xs)

pub keeps_none : (rates : Rates) (tick : ℕ) → KeepsLimits rates tick []
keeps_none rates tick n most e = omega arith

-- the octets of a round, and of one round more
pub octets_granted : (asks : List Ask) (grants : List ℕ) → length asks ≡ length grants → sum_by granted_octets (leaves asks grants) ≡ sum grants
octets_granted asks grants e = sym (sum-map granted_octets (leaves asks grants)) ∙ ap sum (leaves-octets asks grants e)

pub sum_more : (ss new : List Stretch) (p q : Paced) (hs : List Held) (h : Held) → new ≡ ss ++ stretch_under q (hs ++ h ∷ []) ∷ [] → sum_by octets_in new ≡ sum_by octets_in (ss ++ stretch_under p hs ∷ []) + octets_of h
sum_more ss new p q hs h e =
    plain (sum_by octets_in new) (sum_by octets_in (ss ++ stretch_under p hs ∷ [])) (sum_by octets_in ss) (sum_by octets_of (hs ++ h ∷ [])) (sum_by octets_of hs) (octets_of h)
    (ap (sum_by octets_in) e ∙ sum_by_push octets_in ss (stretch_under q (hs ++ h ∷ []))) (sum_by_push octets_in ss (stretch_under p hs)) (sum_by_push octets_of hs h)
  where
    plain : (n o x y z k : ℕ) → n ≡ x + y → o ≡ x + z → y ≡ z + k → n ≡ o + k
    plain n o x y z k a b c = omega arith

pub sum_changed : (ss new : List Stretch) (q : Paced) → new ≡ ss ++ stretch_under q [] ∷ [] → sum_by octets_in new ≡ sum_by octets_in ss
sum_changed ss new q e = ap (sum_by octets_in) e ∙ (sum_by_push octets_in ss (stretch_under q []) ∙ none (sum_by octets_in ss))
  where
    none : (x : ℕ) → x + 0 ≡ x
    none x = omega arith

-- a run keeps the rates that are in force in it
pub windowed-prop : (ss : List Stretch) → IsProp (AreWindowed ss)
windowed-prop [] = λ x y. refl
windowed-prop (s ∷ ss) = λ x y i. (one s x.0 y.0 i, windowed-prop ss x.1 y.1 i)
  where
    one : (s : Stretch) → IsProp (IsWindowed s)
    one s = hlevel props

pub run-seconds : (ss : List Stretch) → IsProp ((n : Name) (second bound : ℕ) → AreWithin bound (rates_where (is_in second) (rated_under n ss)) → granted_where (is_in second) (map round_of (rated_under n ss)) ≤ bound + changes (rates_where (is_in second) (rated_under n ss)))
run-seconds ss = hlevel props

pub keeps_rates : StretchesKeepRates → (p : Paced) (latest : ℕ) (ss : List Stretch) → ∥ IsRun p latest ss ∥₁ → StretchesKeep ss
keeps_rates law p latest ss run = record {
  seconds = ∥∥₁_elim run (run-seconds ss) (λ r. (law r.begun ss p r.lead).seconds);
  windows = ∥∥₁_elim run (windowed-prop ss) (λ r. (law r.begun ss p r.lead).windows);
}

-- no round yet
pub run_new : NewIsChanged → NewRates → (now : ℕ) (rates : Rates) (p : Paced) (ended : List Ended) (items : List Entry) → IsPacedFrom (tick_of now) rates p → ended ≡ [] → items ≡ [] → ∥ IsRun p now (stretches ended p items) ∥₁
run_new law new now rates p ended items from none e =
    subst (λ (z : List Ended × List Entry). ∥ IsRun p now (stretches z.0 p z.1) ∥₁) (λ i. (sym none i, sym e i))
    ∣ record {
      begun = tick_of now;
      lead = (p, subst (λ (r : Rates). IsChangedTo r (idle (tick_of now)) p) (sym (new (tick_of now) rates p from)) (law (tick_of now) rates p from), tt, refl);
      near = (let f : p.begun ≡ tick_of now = ap (λ (q : Paced). q.begun) from.is in omega (arith, f));
    } ∣₁

-- the stretches after a round, and after a change
pub stretches_more : (ended more : List Ended) (q : Paced) (items new : List Entry) (h : Held) → more ≡ ended → history new ≡ history items ++ h ∷ [] → stretches more q new ≡ ended_in ended ++ stretch_under q (history items ++ h ∷ []) ∷ []
stretches_more ended more q items new h e f = λ i. ended_in (e i) ++ stretch_under q (f i) ∷ []

pub ended_more : (ended more : List Ended) (x : Ended) → more ≡ ended ++ x ∷ [] → ended_in more ≡ ended_in ended ++ stretch_in x ∷ []
ended_more ended more x e = ap ended_in e ∙ map-append stretch_in ended (x ∷ [])

pub stretches_changed : (ended more : List Ended) (p q : Paced) (items new : List Entry) → ended_in more ≡ ended_in ended ++ stretch_under p (history items) ∷ [] → new ≡ [] → stretches more q new ≡ stretches ended p items ++ stretch_under q [] ∷ []
stretches_changed ended more p q items new e f = λ i. e i ++ stretch_under q (history (f i)) ∷ []

-- What a round leads to: it keeps the limits, each grant is subtracted from the rows of its ask and
-- is in the log, and the book issues what is granted.
pub record Leads {A : Type 0} (p q : Paced) (now old new : ℕ) (taken : List (Ask × ℕ)) (out : Outcome A) : Type 0 where
  pub kept : KeepsLimits (offer_round (tick_of now) p).offered ((offer_round (tick_of now) p).moment / 100) (granted_by out)
  pub best : AreBest (offer_round (tick_of now) p).offered ((offer_round (tick_of now) p).moment / 100) (granted_by out)
  pub is : q ≡ after p (round_at now out)
  pub log : map granted_in taken ≡ granted_by out
  pub issued : new ≡ old + octets_of (round_at now out)

pub leads_ok : {A : Type 0} → GrantsKeepNames → (given : ℕ → Bool) (p o q : Paced) (now moment before issued : ℕ) (rates : Rates) (taken : List (Ask × ℕ)) (out : Outcome A) (r : RoundRecord A) (old new : List TraceView) (xs : List Ask) (ns : List ℕ) → out ≡ Ok r
    → o ≡ offer_round (tick_of now) p → rates ≡ o.offered → moment ≡ o.moment
    → IfOk out (λ r. IsRoundOver given rates (moment / 100) old new r.answered (seen r.sealed.tree) r.lanes.items r.asks.items r.sealed.grants) → IfOk out (λ r. IsFair rates.share_by r.asks.items (seen r.sealed.tree) r.sealed.grants)
    → xs ≡ r.asks.items → ns ≡ r.sealed.grants → q ≡ take_all (leaves xs ns) o → map granted_in taken ≡ leaves xs ns → IfOk out (λ r. issued ≡ before + sum r.sealed.grants) → Leads p q now before issued taken out
leads_ok {A} law given p o q now moment before issued rates taken out r old new xs ns is offered limits at rounded bests asks grants charged logged reports =
    let round : IsRoundOver given rates (moment / 100) old new r.answered (seen r.sealed.tree) r.lanes.items r.asks.items r.sealed.grants =
    subst (λ (x : Outcome A). IfOk x (λ r. IsRoundOver given rates (moment / 100) old new r.answered (seen r.sealed.tree) r.lanes.items r.asks.items r.sealed.grants)) is rounded in
    let best : IsFair rates.share_by r.asks.items (seen r.sealed.tree) r.sealed.grants = subst (λ (x : Outcome A). IfOk x (λ r. IsFair rates.share_by r.asks.items (seen r.sealed.tree) r.sealed.grants)) is bests in
    let reported : issued ≡ before + sum r.sealed.grants = subst (λ (x : Outcome A). IfOk x (λ r. issued ≡ before + sum r.sealed.grants)) is reports in
    let kept = keeps law given rates (moment / 100) old new r.answered (seen r.sealed.tree) r.lanes.items r.asks.items r.sealed.grants round best in
    subst (Leads p q now before issued taken) (sym is) (record {
      kept = subst (λ (z : Rates × ℕ). KeepsLimits z.0 (z.1 / 100) (leaves r.asks.items r.sealed.grants)) (λ i. ((limits ∙ ap (λ (x : Paced). x.offered) offered) i, (at ∙ ap (λ (x : Paced). x.moment) offered) i)) kept.1;
      best = subst (λ (z : Rates × ℕ). AreBest z.0 (z.1 / 100) (leaves r.asks.items r.sealed.grants)) (λ i. ((limits ∙ ap (λ (x : Paced). x.offered) offered) i, (at ∙ ap (λ (x : Paced). x.moment) offered) i)) kept.2;
      is = charged ∙ (λ i. take_all (leaves (asks i) (grants i)) (offered i));
      log = logged ∙ (λ i. leaves (asks i) (grants i));
      issued = reported ∙ ap (λ (n : ℕ). before + n) (sym (octets_granted r.asks.items r.sealed.grants kept.0));
    })

pub leads_err : {A : Type 0} → (p o q : Paced) (now before issued : ℕ) (taken : List (Ask × ℕ)) (out : Outcome A) (f : RoundFault) → out ≡ Err f → o ≡ offer_round (tick_of now) p → q ≡ o → taken ≡ [] → OnErr out (issued ≡ before) → Leads p q now before issued taken out
leads_err {A} p o q now before issued taken out f is offered same none reports =
    let reported : issued ≡ before = subst (λ (x : Outcome A). OnErr x (issued ≡ before)) is reports in
    subst (Leads p q now before issued taken) (sym is) (record {
      kept = keeps_none (offer_round (tick_of now) p).offered ((offer_round (tick_of now) p).moment / 100);
      best = inl refl;
      is = same ∙ offered;
      log = ap (map granted_in) none;
      issued = reported ∙ (let e : before ≡ before + 0 = omega arith in e);
    })

pub reported_more : (before issued carried granted all octets : ℕ) → before ≡ carried + granted → all ≡ granted + octets → issued ≡ before + octets → issued ≡ carried + all
reported_more before issued carried granted all octets a b c = omega arith
