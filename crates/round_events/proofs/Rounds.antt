-- A round is a run: its tries, its decision, its answers.
use Rattle.std.proofs.Common.{◌≡◌, ℕ, zero, suc, ◌+◌, ◌/◌, ◌<◌, ◌≤◌, Bool, false, List, [], ◌∷◌, ◌++◌, length, get_or, sum, sym, refl, ap, ◌∙◌, subst, arith, All, Option, Some, None, Ok, slice_get}
use Rattle.std.specs.List.{list_any}
use Rattle.std.proofs.lemmas.List.Elements.{All-nil}
use Rattle.std.proofs.lemmas.Option.{slice_get-get_or}
use Rattle.std.specs.Option.{option_map}
use Rattle.limit_tree.specs.Faults.{first_fault, first_over}
use Rattle.fair_terms.specs.Fair.{IsFair}
use Rattle.grant_ledger.specs.declared.ledger.TheConstants.{MAX_ISSUED}
use Rattle.limit_tree.specs.Sharing.{LimitTree}
use Rattle.limit_tree.specs.declared.fault.TreeFault.TheVariants.{FloorsOverLimit}
use Rattle.limit_tree.proofs.Leaves.{or_else-parts, sound_leaves}
use Rattle.limit_tree.specs.declared.bounds.TheConstants.{MAX_WANT}
use Rattle.line_rates.specs.declared.ask.Ask.{Ask}
use Rattle.line_rates.specs.Rates.{Rates}
use Rattle.line_rates.specs.TickTree.{Asker}
use Rattle.world_terms.specs.declared.event.Event.TheVariants as event
use Rattle.world_terms.specs.declared.event.EventAnswer.TheVariants as answer
use Rattle.world_terms.specs.Decisions.{AllPosted, IsLater, IsPosted, has_large_want, in_round, wants_too_much}
use Rattle.world_terms.specs.Lanes.{Lane, World}
use Rattle.world_terms.specs.Runs.{IsRun}
use Rattle.desk_rule.specs.declared.view.TraceView.{TraceView}
use Rattle.lane_desk.specs.Posted.{trace_at}
use Rattle.lane_desk.specs.Rounded.{IsAnswered}
use Rattle.lane_desk.specs.Tried.{asks_from}
use Rattle.lane_desk.proofs.TriedLemmas.{posted_same}
use Rattle.round_events.specs.Events.{collects, given_lanes, post_replies, posts, round_events, round_replies, try_replies}
use Rattle.round_events.specs.Rounds.{PlansAreSmall, RoundIsEvents}
use Rattle.round_events.specs.Worlds.{AreFoundOn, AreShownBy, IsFoundOn, LeadsOn}
use Rattle.round_events.proofs.Answered.{IsReadyFor, are_left, are_shown, waiting}
use Rattle.round_events.proofs.Collects.{EachFound, OfGiven, at, collected, got, posted_got, tries_run}
use Rattle.share_world.specs.Performed.{HasAsk}
use Rattle.share_world.specs.Shares.{IsFairPlan}
use Rattle.round_events.proofs.Deciding.{amount_at, amount_on, decides, give, given_to, lanes_length, to_other}
use Rattle.round_events.proofs.Found.{AreFound, are_found}
use Rattle.round_events.proofs.Posts.{AreWaiting, posted, posts_run}
use Rattle.round_events.proofs.Runs.{run_from, run_then}
use Rattle.round_events.proofs.Tried.{IsIdle, asked_got, each_found, got_at, in_round_got, length-got, none_wants}

-- what the round finds on each lane
abbrev pub find : List (Option Ask) → ℕ → Option Ask
find found i = get_or found i None

pub all_settled : (old : List TraceView) (ls : List Lane) → AreShownBy old ls → AllPosted ls
all_settled old ls h k d less = (h.each k (get_or ls k d) (slice_get-get_or ls k d less)).settled

pub all_idle : (old : List TraceView) (ls : List Lane) → AreShownBy old ls → All IsIdle ls
all_idle old ls h k d less = (h.each k (get_or ls k d) (slice_get-get_or ls k d less)).idle

pub found_each : (given : ℕ → Bool) (found : List (Option Ask)) (ls : List Lane) → AreFoundOn given found ls → EachFound given (find found) 0 ls
found_each given found ls h = each_found given (find found) 0 ls (λ i l e. subst (λ (n : ℕ). IsFoundOn (given n) (find found n) l) (let z : i ≡ 0 + i = omega arith in z) (h i l e))

-- the lanes after the tries
abbrev pub tried_lanes : List (Option Ask) → List Lane → List Lane
tried_lanes found ls = got (find found) 0 ls

-- a lane after the tries, and with an amount
give_at : (f : ℕ → ℕ) (k : ℕ) (ls : List Lane) (i : ℕ) (l : Lane) → slice_get ls i ≡ Some l → slice_get (give f k ls) i ≡ Some (given_to l.shown.state (f (k + i)) l)
give_at f k [] i l e = absurd (cc)
give_at f k (x ∷ ls) zero l e = let same : x ≡ l = cc in (λ q. Some (given_to (same q).shown.state (f (let z : k ≡ k + 0 = omega arith in z q)) (same q)))
give_at f k (x ∷ ls) (suc i) l e = give_at f (suc k) ls i l e ∙ (let z : suc k + i ≡ k + suc i = omega arith in ap (λ (n : ℕ). Some (given_to l.shown.state (f n) l)) z)

length-give : (f : ℕ → ℕ) (k : ℕ) (ls : List Lane) → length (give f k ls) ≡ length ls
length-give f k [] = refl
length-give f k (l ∷ ls) = ap suc (length-give f (suc k) ls)

pub at_zero : (found : List (Option Ask)) (ls : List Lane) (i : ℕ) (l : Lane) → slice_get ls i ≡ Some l → slice_get (tried_lanes found ls) i ≡ Some (collected (find found i) l)
at_zero found ls i l e = got_at (find found) 0 ls i l e ∙ (let z : 0 + i ≡ i = omega arith in ap (λ (n : ℕ). Some (collected (find found n) l)) z)

module _ (f : ℕ → ℕ) where
  give_zero : (ls : List Lane) (i : ℕ) (l : Lane) → slice_get ls i ≡ Some l → slice_get (give f 0 ls) i ≡ Some (given_to l.shown.state (f i) l)
  give_zero ls i l e = give_at f 0 ls i l e ∙ (let z : 0 + i ≡ i = omega arith in ap (λ (n : ℕ). Some (given_to l.shown.state (f n) l)) z)

is_ready : (n : ℕ) (o : Option Ask) (l : Lane) → IsIdle l → IsReadyFor (Some n) o l (given_to (collected o l).shown.state n (collected o l))
is_ready n None l idle = to_other l.shown.state n l idle
is_ready n (Some a) l idle = refl

-- ---- the tries

module _ (rates : ℕ → Rates) (given : ℕ → Bool) (found : List (Option Ask)) (old : List TraceView) (w : World) (before : AreShownBy old w.lanes) (on : AreFoundOn given found w.lanes) (only : OfGiven given (find found)) where
  pub tries : IsRun rates w (collects (given_lanes given 0 (length old))) (try_replies found (given_lanes given 0 (length old))) (at w.last_tick w.issued (tried_lanes found w.lanes))
  tries = tries_run rates w.last_tick w.issued given (find found) only [] w.lanes 0 (length old) refl before.wide (found_each given found w.lanes on) (All-nil IsPosted) (all_settled old w.lanes before)

  pub tried_posted : AllPosted (tried_lanes found w.lanes)
  tried_posted = posted_got (find found) 0 w.lanes (all_settled old w.lanes before)

  pub tried_asked : All HasAsk (tried_lanes found w.lanes)
  tried_asked = asked_got given (find found) 0 w.lanes (all_idle old w.lanes before) (found_each given found w.lanes on)

  pub tried_asks : length found ≡ length w.lanes → in_round (tried_lanes found w.lanes) ≡ asks_from 0 found
  tried_asks wide = in_round_got given (find found) 0 found w.lanes wide (λ i. (let z : 0 + i ≡ i = omega arith in ap (find found) z)) (all_idle old w.lanes before) (found_each given found w.lanes on)

-- ---- the whole

unreported_on : (given : Bool) (t t' : TraceView) (o : Option Ask) → o ≡ None → IsAnswered given o t t' → t'.posted ≡ t.posted
unreported_on given t t' o e h = ap (λ (x : TraceView). x.posted) (subst (λ (p : Option Ask). IsAnswered given p t t') e h) ∙ posted_same given None t

-- a decided round, from what is known of its plan
record IsKnown (given : ℕ → Bool) (found : List (Option Ask)) (rates : ℕ → Rates) (moment : ℕ) (old new : List TraceView) (t : LimitTree) (lanes grants : List ℕ) (w : World) : Type 0 where
  later : IsLater (moment / 100) w.last_tick
  room : w.issued + sum grants ≤ MAX_ISSUED
  before : AreShownBy old w.lanes
  on : AreFoundOn given found w.lanes
  only : OfGiven given (find found)
  wide : length found ≡ length w.lanes
  still : length new ≡ length old
  are : AreFound found lanes
  shares : IsFairPlan (rates (moment / 100)) (moment / 100) (in_round (tried_lanes found w.lanes)) t lanes grants
  small : has_large_want (tried_lanes found w.lanes) ≡ false
  unreported : (i : ℕ) → i < length old → get_or found i None ≡ None → (trace_at new i).posted ≡ (trace_at old i).posted
  reported : (j : ℕ) → j < length lanes → (trace_at new (get_or lanes j 0)).posted ≡ (trace_at old (get_or lanes j 0)).posted ++ get_or grants j 0 ∷ []

module _ (given : ℕ → Bool) (found : List (Option Ask)) (rates : ℕ → Rates) (moment : ℕ) (old new : List TraceView) (t : LimitTree) (lanes grants : List ℕ) (w : World) (k : IsKnown given found rates moment old new t lanes grants w) where
  abbrev amounts : ℕ → ℕ
  amounts = amount_on lanes grants

  abbrev tried : List Lane
  tried = tried_lanes found w.lanes

  abbrev ready_lanes : List Lane
  ready_lanes = give amounts 0 tried

  long : length lanes ≡ length grants
  long = lanes_length (rates (moment / 100)) (moment / 100) tried t lanes grants (tried_asked rates given found old w k.before k.on k.only) k.shares k.are.once

  ready : (i : ℕ) (l : Lane) → slice_get w.lanes i ≡ Some l → (m : Lane) × (slice_get ready_lanes i ≡ Some m) × IsReadyFor (Some (amounts i)) (get_or found i None) l m
  ready i l e =
      let c : Lane = collected (find found i) l in
      (given_to c.shown.state (amounts i) c, give_zero amounts tried i c (at_zero found w.lanes i l e), is_ready (amounts i) (find found i) l (k.before.each i l e).idle)

  ready_length : length ready_lanes ≡ length w.lanes
  ready_length = length-give amounts 0 tried ∙ length-got (find found) 0 w.lanes

  waits : AreWaiting lanes grants ready_lanes
  waits = waiting given found old new w.lanes ready_lanes lanes grants (λ i. Some (amounts i)) k.before k.on k.wide k.still k.are ready long ready_length (λ j less. sym (amount_at lanes grants j k.are.once long less))

  decision : IsRun rates (at w.last_tick w.issued tried) (event.Decide moment ∷ posts lanes) (Ok (answer.Decided (moment / 100) (sum grants)) ∷ post_replies grants) (at (Some (moment / 100)) (w.issued + sum grants) (posted lanes grants ready_lanes))
  decision = run_from rates (at w.last_tick w.issued tried) (at (Some (moment / 100)) (w.issued + sum grants) ready_lanes) (at (Some (moment / 100)) (w.issued + sum grants) (posted lanes grants ready_lanes))
      (event.Decide moment) (Ok (answer.Decided (moment / 100) (sum grants))) (posts lanes) (post_replies grants)
      (decides (rates (moment / 100)) moment w.last_tick w.issued tried t lanes grants (tried_asked rates given found old w k.before k.on k.only) k.shares k.are.once
      (record { posted = tried_posted rates given found old w k.before k.on k.only; later = k.later; wants = k.small }) k.room)
      (posts_run rates (Some (moment / 100)) (w.issued + sum grants) lanes grants ready_lanes waits)

  leads : LeadsOn rates w (round_events (given_lanes given 0 (length old)) moment lanes) (round_replies found (given_lanes given 0 (length old)) (Ok (answer.Decided (moment / 100) (sum grants))) grants) found new (Some (moment / 100)) (w.issued + sum grants)
  leads = record {
    end = at (Some (moment / 100)) (w.issued + sum grants) (posted lanes grants ready_lanes);
    run = run_then rates w (at w.last_tick w.issued tried) (at (Some (moment / 100)) (w.issued + sum grants) (posted lanes grants ready_lanes)) (collects (given_lanes given 0 (length old))) (event.Decide moment ∷ posts lanes)
        (try_replies found (given_lanes given 0 (length old))) (Ok (answer.Decided (moment / 100) (sum grants)) ∷ post_replies grants) (tries rates given found old w k.before k.on k.only) decision;
    left = are_left given found old new w.lanes ready_lanes lanes grants (λ i. Some (amounts i)) k.before k.on k.wide k.still k.are ready long ready_length (λ j less. sym (amount_at lanes grants j k.are.once long less)) k.unreported k.reported;
    shown = are_shown given found old new w.lanes ready_lanes lanes grants (λ i. Some (amounts i)) k.before k.on k.wide k.still k.are ready long ready_length (λ j less. sym (amount_at lanes grants j k.are.once long less)) k.unreported k.reported;
    last_is = refl;
    issued_is = refl;
  }

pub round_is_events : RoundIsEvents
round_is_events given rates moment old new answered t lanes asks grants w r few decided before on =
    let found = r.found in
    let wide : length found ≡ length w.lanes = r.wide ∙ sym before.wide in
    let same : in_round (tried_lanes found w.lanes) ≡ asks_from 0 found = tried_asks rates given found old w before on r.only wide in
    leads given found rates moment old new t lanes grants w (record {
      later = decided.later;
      room = decided.room;
      before = before;
      on = on;
      only = r.only;
      wide = wide;
      still = r.still;
      are = subst (AreFound found) (sym r.plan.lanes_are) (are_found found r.plan.order r.plan.all);
      shares = subst (λ (xs : List Asker). IsFairPlan (rates (moment / 100)) (moment / 100) xs t lanes grants) (sym same)
          (record { plan = r.plan; fair = subst (λ (bs : List Ask). IsFair (rates (moment / 100)).share_by bs t grants) r.asks_are decided.best });
      small = ap (list_any wants_too_much) same ∙ few;
      unreported = λ i less e. unreported_on (given i) (trace_at old i) (trace_at new i) (get_or found i None) e (r.each i less);
      reported = r.posted;
    })

pub plans_are_small : PlansAreSmall
plans_are_small rates tick asks outline lanes p sound =
    let whole = first_fault 0 0 0 outline in
    let none : whole ≡ None = (or_else-parts whole (option_map FloorsOverLimit (first_over 0 outline)) sound).0 in
    none_wants asks p.order p.all (subst (All (λ (n : ℕ). n ≤ MAX_WANT)) p.tree.wants (sound_leaves 0 0 0 outline none).most)
