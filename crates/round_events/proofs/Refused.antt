-- A refused round is a run: its tries, a decision that is refused, and answers of 0 octets.
use Rattle.std.proofs.Common.{◌≡◌, ℕ, zero, suc, ◌+◌, ◌/◌, ◌<◌, ◌≤◌, Bool, true, false, if◌then◌else◌, List, [], ◌∷◌, ◌++◌, map, length, get_or, sym, refl, ap, ◌∙◌, subst, arith, All, Option, Some, None, Err, IsPermutation, slice_get}
use Rattle.std.specs.List.{list_any}
use Rattle.std.proofs.lemmas.List.{length-map}
use Rattle.std.proofs.lemmas.List.Sorted.{IsPermutation-refl}
use Rattle.grant_ledger.specs.Books.{BookView}
use Rattle.grant_ledger.specs.declared.ledger.TheConstants.{MAX_LANES}
use Rattle.share_world.specs.Shares.{AreFitRates, IsFairPlan}
use Rattle.share_world.proofs.Small.{no_other_fault}
use Rattle.limit_tree.specs.declared.fault.TreeFault.{TreeFault}
use Rattle.limit_tree.specs.declared.fault.TreeFault.TheVariants.{TooDeep, TooManyLeaves, WantTooLarge, LimitTooLarge, FloorTooLarge, FloorsOverLimit}
use Rattle.fair_terms.specs.Wants.{HasLargeUser}
use Rattle.line_rates.specs.declared.ask.Ask.{Ask}
use Rattle.line_rates.specs.FloorSums.{FloorsFit}
use Rattle.line_rates.specs.Rates.{Rates}
use Rattle.line_rates.specs.Refused.{HasFault, IsNotOfFloors}
use Rattle.line_rates.specs.TickTree.{Asker, ask_in, lane_in}
use Rattle.fair_terms.specs.Fair.{IsFair}
use Rattle.line_rates.proofs.FloorLemmas.{fit_in_order, floors_within, none_over}
use Rattle.limit_tree.specs.Outline.{limits, places}
use Rattle.line_rates.specs.declared.fault.PlanFault.TheVariants as plan
use Rattle.world_terms.specs.declared.event.Event.TheVariants as event
use Rattle.world_terms.specs.declared.fault.StepFault.TheVariants as fault
use Rattle.world_terms.specs.Decisions.{AllPosted, IsLater, IsReady, in_round, wants_too_much}
use Rattle.world_terms.specs.Lanes.{Lane, World, hidden}
use Rattle.world_terms.specs.Runs.{IsRun}
use Rattle.world_terms.specs.Steps.{Refuses}
use Rattle.world_terms.specs.declared.fault.StepFault.{StepFault}
use Rattle.world_terms.specs.Steps as core
use Rattle.desk_rule.specs.declared.view.TraceView.{TraceView}
use Rattle.lane_desk.specs.declared.refusal.RoundRefusal.{RoundRefusal}
use Rattle.lane_desk.specs.declared.refusal.RoundRefusal.TheVariants as reason
use Rattle.lane_desk.specs.Posted.{nothing_for, trace_at}
use Rattle.lane_desk.specs.Refusals.{IsRefused, PassesMost}
use Rattle.lane_desk.specs.Rounded.{IsRefusedRoundOver, IsTurnedAway}
use Rattle.lane_desk.specs.Tried.{asks_from}
use Rattle.lane_desk.proofs.TriedLemmas.{posted_same}
use Rattle.round_events.specs.Events.{collects, given_lanes, post_replies, posts, round_events, round_replies, try_replies}
use Rattle.round_events.specs.Refused.{HasBook, RefusedRoundIsEvents, fault_for, refusal_for}
use Rattle.round_events.specs.Worlds.{AreFoundOn, AreShownBy, LeadsOn}
use Rattle.round_events.proofs.Answered.{IsReadyFor, are_left, are_shown, found_within, waiting}
use Rattle.round_events.proofs.Collects.{at, collected}
use Rattle.share_world.specs.Performed.{HasAsk}
use Rattle.round_events.proofs.Deciding.{Once, decided_is, decided_lanes}
use Rattle.round_events.proofs.Found.{AreFound, are_found}
use Rattle.round_events.proofs.Posts.{AreWaiting, posted, posts_run}
use Rattle.round_events.proofs.Rounds.{at_zero, find, tried_asked, tried_asks, tried_lanes, tried_posted, tries}
use Rattle.round_events.proofs.Runs.{run_from, run_then}
use Rattle.round_events.proofs.Tried.{length-got}

-- a world in which a decision is refused: its lanes in Round have these asks
record IsAsking (asks : List Asker) (ls : List Lane) : Type 0 where
  posted : AllPosted ls
  asked : All HasAsk ls
  asks_are : in_round ls ≡ asks

-- a plan of the asks, whose lanes occur once
passes : (rates : Rates) (moment : ℕ) (last : Option ℕ) (issued : ℕ) (asks : List Asker) (ls : List Lane) → IsAsking asks ls
    → ((order : List Asker) → IsPermutation asks order → Once (map lane_in order)) → PassesMost rates (moment / 100) asks issued → core.PassesMost rates (at last issued ls) moment
passes rates moment last issued asks ls k once p =
    let fair : IsFair rates.share_by (map ask_in p.plan.plan.order) p.tree p.grants = subst (λ (bs : List Ask). IsFair rates.share_by bs p.tree p.grants) p.plan.asks_are p.best in
    let shares : IsFairPlan rates (moment / 100) (in_round ls) p.tree p.lanes p.grants =
    subst (λ (xs : List Asker). IsFairPlan rates (moment / 100) xs p.tree p.lanes p.grants) (sym k.asks_are) (record { plan = p.plan.plan; fair = fair }) in
    let one : Once p.lanes = subst Once (sym p.plan.plan.lanes_are) (once p.plan.plan.order p.plan.plan.all) in
    let is = decided_is rates (moment / 100) ls p.tree p.lanes p.grants k.asked shares one k.posted in
    record { lanes = decided_lanes rates (moment / 100) ls p.tree p.lanes p.grants k.asked shares one; shared = is.0; above = omega (arith, p.above, is.1) }

floors_over : (A : Type 0) (r : Rates) (tick : ℕ) (asks : List Asker) (k : ℕ) → HasFault A r tick asks (FloorsOverLimit k) → FloorsFit r tick (map ask_in asks) → ⊥
floors_over A r tick asks k has fit = none_over has.root k has.is (floors_within r tick (map ask_in has.order) (limits (places has.root)) has.tree (fit_in_order r tick asks has.order has.all fit))

abbrev if_large : Bool → RoundRefusal → StepFault
if_large b why = if b then fault.TooMuch else fault_for why

few_asks : (k : ℕ) (found : List (Option Ask)) → length (asks_from k found) ≤ length found
few_asks k [] = omega arith
few_asks k (None ∷ found) = omega (arith, few_asks (k + 1) found)
few_asks k (Some a ∷ found) = omega (arith, few_asks (k + 1) found)

module _ (A : Type 0) (rates : Rates) (moment : ℕ) (last : Option ℕ) (issued : ℕ) (asks : List Asker) (ls : List Lane) (k : IsAsking asks ls) (fit : AreFitRates rates) (few : length asks ≤ MAX_LANES) (once : (order : List Asker) → IsPermutation asks order → Once (map lane_in order)) where
  abbrev here : World
  here = at last issued ls

  large : IsLater (moment / 100) last → list_any wants_too_much asks ≡ true → Refuses rates here (event.Decide moment) fault.TooMuch
  large later e = (k.posted, later, ap (list_any wants_too_much) k.asks_are ∙ e)

  ready : IsLater (moment / 100) last → list_any wants_too_much asks ≡ false → IsReady here moment
  ready later e = record { posted = k.posted; later = later; wants = ap (list_any wants_too_much) k.asks_are ∙ e }

  of_floors : (n : ℕ) → HasFault A rates (moment / 100) asks (FloorsOverLimit n) → IsReady here moment → Refuses rates here (event.Decide moment) fault.FloorsOver
  of_floors n has r = (r, λ fit. floors_over A rates (moment / 100) asks n has (subst (λ (xs : List Asker). FloorsFit rates (moment / 100) (map ask_in xs)) k.asks_are fit))

  other : (f : TreeFault) → IsNotOfFloors (plan.Tree f) → HasFault A rates (moment / 100) asks f → list_any wants_too_much asks ≡ false → ⊥
  other f is has small = no_other_fault A rates (moment / 100) asks f fit few small has is

  refuses : (b : Bool) (why : RoundRefusal) → list_any wants_too_much asks ≡ b → ((n : ℕ) → why ≡ reason.NotYet n → ⊥) → IsLater (moment / 100) last
      → (book : BookView) → issued ≡ book.issued → IsRefused A rates (moment / 100) asks book why → Refuses rates here (event.Decide moment) (if_large b why)
  refuses true why e yet later book same h = large later e
  refuses false (reason.NotYet n) e yet later book same h = absurd (yet n refl)
  refuses false reason.BookFull e yet later book same h = (ready later e, passes rates moment last issued asks ls k once (subst (PassesMost rates (moment / 100) asks) (sym same) h.1))
  refuses false reason.Memory e yet later book same h = ready later e
  refuses false reason.Unshared e yet later book same h = (ready later e, subst (λ (xs : List Asker). HasLargeUser rates.share_by (map ask_in xs)) (sym k.asks_are) h.1)
  refuses false (reason.Plan (FloorsOverLimit n)) e yet later book same h = of_floors n h.1 (ready later e)
  refuses false (reason.Plan TooDeep) e yet later book same h = absurd (other TooDeep tt h.1 e)
  refuses false (reason.Plan TooManyLeaves) e yet later book same h = absurd (other TooManyLeaves tt h.1 e)
  refuses false (reason.Plan WantTooLarge) e yet later book same h = absurd (other WantTooLarge tt h.1 e)
  refuses false (reason.Plan LimitTooLarge) e yet later book same h = absurd (other LimitTooLarge tt h.1 e)
  refuses false (reason.Plan FloorTooLarge) e yet later book same h = absurd (other FloorTooLarge tt h.1 e)

  refused_for : (why : RoundRefusal) → (book : BookView) → last ≡ book.last_tick → issued ≡ book.issued → IsRefused A rates (moment / 100) asks book why → Refuses rates here (event.Decide moment) (refusal_for asks why)
  refused_for (reason.NotYet n) book l i h = (k.posted, l ∙ h.0, h.1)
  refused_for reason.BookFull book l i h = refuses (list_any wants_too_much asks) reason.BookFull refl (λ n e. cc) (subst (IsLater (moment / 100)) (sym l) h.0) book i h
  refused_for reason.Memory book l i h = refuses (list_any wants_too_much asks) reason.Memory refl (λ n e. cc) (subst (IsLater (moment / 100)) (sym l) h) book i h
  refused_for reason.Unshared book l i h = refuses (list_any wants_too_much asks) reason.Unshared refl (λ n e. cc) (subst (IsLater (moment / 100)) (sym l) h.0) book i h
  refused_for (reason.Plan f) book l i h = refuses (list_any wants_too_much asks) (reason.Plan f) refl (λ n e. cc) (subst (IsLater (moment / 100)) (sym l) h.0) book i h

-- ---- the whole

zero_amounts : (xs : List Asker) (j : ℕ) → get_or (map nothing_for xs) j 0 ≡ 0
zero_amounts [] j = refl
zero_amounts (x ∷ xs) zero = refl
zero_amounts (x ∷ xs) (suc j) = zero_amounts xs j

still_ready : (o : Option Ask) (l : Lane) → l.hidden.decided ≡ None → IsReadyFor None o l (collected o l)
still_ready None l e = refl
still_ready (Some a) l e = λ q. record { shown = (collected (Some a) l).shown; hidden = hidden l.hidden.moved l.hidden.back l.hidden.hand (e q) }

reported_on : (given : Bool) (t t' : TraceView) (o : Option Ask) (a : Ask) → o ≡ Some a → IsTurnedAway given o t t' → t'.posted ≡ t.posted ++ 0 ∷ []
reported_on given t t' o a e h = ap (λ (x : TraceView). x.posted) (subst (λ (p : Option Ask). IsTurnedAway given p t t') e h)

unreported_on : (given : Bool) (t t' : TraceView) (o : Option Ask) → o ≡ None → IsTurnedAway given o t t' → t'.posted ≡ t.posted
unreported_on given t t' o e h = ap (λ (x : TraceView). x.posted) (subst (λ (p : Option Ask). IsTurnedAway given p t t') e h) ∙ posted_same given None t

module _ (A : Type 0) (given : ℕ → Bool) (rates : ℕ → Rates) (moment : ℕ) (book : BookView) (old new : List TraceView) (marks : ℕ) (why : RoundRefusal) (w : World) (r : IsRefusedRoundOver A given (rates (moment / 100)) (moment / 100) book old new marks why)
    (fit : AreFitRates (rates (moment / 100))) (few : length old ≤ MAX_LANES) (books : HasBook book w) (before : AreShownBy old w.lanes) (on : AreFoundOn given r.found w.lanes) where
  abbrev found : List (Option Ask)
  found = r.found

  abbrev asks : List Asker
  asks = asks_from 0 found

  abbrev lanes : List ℕ
  lanes = map lane_in asks

  abbrev zeros : List ℕ
  zeros = map nothing_for asks

  abbrev tried : List Lane
  tried = tried_lanes found w.lanes

  abbrev end : World
  end = at w.last_tick w.issued (posted lanes zeros tried)

  wide : length found ≡ length w.lanes
  wide = r.wide ∙ sym before.wide

  are : AreFound found lanes
  are = are_found found asks (IsPermutation-refl asks)

  long : length lanes ≡ length zeros
  long = length-map asks lane_in ∙ sym (length-map asks nothing_for)

  ready_lane : (i : ℕ) (l : Lane) → slice_get w.lanes i ≡ Some l → (m : Lane) × (slice_get tried i ≡ Some m) × IsReadyFor None (get_or found i None) l m
  ready_lane i l e = (collected (find found i) l, at_zero found w.lanes i l e, still_ready (find found i) l (before.each i l e).settled)

  waits : AreWaiting lanes zeros tried
  waits = waiting given found old new w.lanes tried lanes zeros (λ i. None) before on wide r.still are ready_lane long (length-got (find found) 0 w.lanes) (λ j less. zero_amounts asks j)

  unreported : (i : ℕ) → i < length old → get_or found i None ≡ None → (trace_at new i).posted ≡ (trace_at old i).posted
  unreported i less e = unreported_on (given i) (trace_at old i) (trace_at new i) (get_or found i None) e (r.each i less)

  reported : (j : ℕ) → j < length lanes → (trace_at new (get_or lanes j 0)).posted ≡ (trace_at old (get_or lanes j 0)).posted ++ get_or zeros j 0 ∷ []
  reported j less =
      let i : ℕ = get_or lanes j 0 in
      let some = are.some j less in
      reported_on (given i) (trace_at old i) (trace_at new i) (get_or found i None) some.0 some.1 (r.each i (omega (arith, r.wide, found_within found i some.0 some.1)))
      ∙ ap (λ (n : ℕ). (trace_at old i).posted ++ n ∷ []) (sym (zero_amounts asks j))

  asking : IsAsking asks tried
  asking = record {
    posted = tried_posted rates given found old w before on r.only;
    asked = tried_asked rates given found old w before on r.only;
    asks_are = tried_asks rates given found old w before on r.only wide;
  }

  refusal : Refuses (rates (moment / 100)) (at w.last_tick w.issued tried) (event.Decide moment) (refusal_for asks why)
  refusal = refused_for A (rates (moment / 100)) moment w.last_tick w.issued asks tried asking fit (omega (arith, few_asks 0 found, r.wide, few)) (λ order p. (are_found found order p).once) why book books.last_is books.issued_is r.refused

  decision : IsRun rates (at w.last_tick w.issued tried) (event.Decide moment ∷ posts lanes) (Err (refusal_for asks why) ∷ post_replies zeros) end
  decision = run_from rates (at w.last_tick w.issued tried) (at w.last_tick w.issued tried) end (event.Decide moment) (Err (refusal_for asks why)) (posts lanes) (post_replies zeros) (refl, refusal) (posts_run rates w.last_tick w.issued lanes zeros tried waits)

  leads : LeadsOn rates w (round_events (given_lanes given 0 (length old)) moment lanes) (round_replies found (given_lanes given 0 (length old)) (Err (refusal_for asks why)) zeros) found new w.last_tick w.issued
  leads = record {
    end = end;
    run = run_then rates w (at w.last_tick w.issued tried) end (collects (given_lanes given 0 (length old))) (event.Decide moment ∷ posts lanes)
        (try_replies found (given_lanes given 0 (length old))) (Err (refusal_for asks why) ∷ post_replies zeros) (tries rates given found old w before on r.only) decision;
    left = are_left given found old new w.lanes tried lanes zeros (λ i. None) before on wide r.still are ready_lane long (length-got (find found) 0 w.lanes) (λ j less. zero_amounts asks j) unreported reported;
    shown = are_shown given found old new w.lanes tried lanes zeros (λ i. None) before on wide r.still are ready_lane long (length-got (find found) 0 w.lanes) (λ j less. zero_amounts asks j) unreported reported;
    last_is = refl;
    issued_is = refl;
  }

pub refused_is_events : (A : Type 0) → RefusedRoundIsEvents A
refused_is_events A given rates moment book old new answered why w r fit few books before on = leads A given rates moment book old new answered why w r fit few books before on
