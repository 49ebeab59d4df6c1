-- The steps of a merge with a decision or the spending of a grant, and its end.
use Rattle.std.proofs.Common.{◌≡◌, ◌≢◌, ℕ, ◌+◌, ◌/◌, ◌<◌, inr, false, List, [], ◌∷◌, ◌++◌, flat_map, length, map, zip, set, sum, sym, refl, ap, ◌∙◌, subst, arith, length-set, Option, Some, None, slice_get, IsPermutation}
use Rattle.std.proofs.lemmas.List.{length-map}
use Rattle.std.proofs.lemmas.List.Sorted.{IsPermutation-refl, IsPermutation-sym, IsPermutation-trans, length_permutation, list_any-IsPermutation}
use mathlib.Core.Logic.{dite}
use native.Mathlib.Decide.{ℕ_discrete}
use Rattle.line_rates.specs.declared.ask.Ask.{Ask}
use Rattle.line_rates.specs.Rates.{Rates}
use Rattle.line_rates.specs.TickTree.{Asker, lane_in}
use Rattle.share_world.specs.Shares.{IsFairPlan}
use Rattle.world_terms.specs.declared.event.Event.TheVariants as event
use Rattle.world_terms.specs.declared.event.EventAnswer.TheVariants as answer
use Rattle.world_terms.specs.declared.event.LaneState.TheVariants as state
use Rattle.world_terms.specs.Decisions.{wants_too_much}
use Rattle.world_terms.specs.Lanes.{Hidden, amount, hidden, shown}
use Rattle.desk_rule.specs.declared.view.LaneSlot.{LaneSlot}
use Rattle.desk_rule.specs.declared.view.RoundView.{RoundView}
use Rattle.desk_rule.specs.Steps.{Done}
use Rattle.lane_desk.specs.Posted.{nothing_for}
use Rattle.lane_desk.specs.Tried.{asks_from}
use Rattle.round_events.specs.Desk.{DeskState, DeskStep, HoldStep, Holdings, after_decision, due_ask, grant_on, held_lanes}
use Rattle.round_events.specs.Merged.{IsMerged}
use Rattle.round_events.specs.Results.{AreResults, IsDecisionFor, IsResultFor, RoundDecision, RoundResult, RoundStep, answer_of, answers, answers_to, find_of, issued_by, round_steps, steps_of, tick_after}
use Rattle.round_events.specs.Rounds.{AreSmall}
use Rattle.round_events.specs.Tries.{is_tried}
use Rattle.round_events.proofs.Decided.{plan_length}
use Rattle.round_events.proofs.Decides.{Waits, decided_at, first_grant, length-decided, none_decided, waits_decided, waits_nothing, waits_posted}
use Rattle.round_events.proofs.DeskDecision.{IsDueOn}
use Rattle.round_events.proofs.DueAsks.{all_answered, found_less, set_none}
use Rattle.round_events.proofs.Found.{AreFound, are_found}
use Rattle.round_events.proofs.MergeState.{IsAnswering, Now, Phase, Shows, next, view_due}
use Rattle.round_events.proofs.MergeSteps.{Goes, shows_else}
use Rattle.round_events.proofs.Merging.{get_else, get_same, merged_decided, merged_none, merged_refused, merged_step, there}
use Rattle.round_events.proofs.RoundLists.{AllFound, first_result, head_answer, last_result, no_answer, nothing_answers, only_answers}
use Rattle.round_events.proofs.RoundSeat.{has_round}
use Rattle.round_events.proofs.SpendLists.{at_the_end}
use Rattle.round_events.proofs.TableSteps.{Onward, Table, near}

-- the lanes and amounts of a round's answers
abbrev lanes_of : List Asker → Option RoundDecision → List ℕ
lanes_of found None = map lane_in found
lanes_of found (Some d) = d.lanes

abbrev amounts_of : List Asker → Option RoundDecision → List ℕ
amounts_of found None = map nothing_for found
amounts_of found (Some d) = d.grants

answers_are : (found : List Asker) (o : Option RoundDecision) → answers_to found o ≡ map answer_of (zip (lanes_of found o) (amounts_of found o))
answers_are found None = nothing_answers found
answers_are found (Some d) = refl

plan_even : (rates : Rates) (tick : ℕ) (asks : List Asker) (d : RoundDecision) → IsFairPlan rates tick asks d.tree d.lanes d.grants → length d.lanes ≡ length d.grants
plan_even rates tick asks d p = ap length p.plan.lanes_are ∙ length-map p.plan.order lane_in ∙ plan_length rates tick asks d.tree d.lanes d.grants p

answers_even : (rates : ℕ → Rates) (found : List Asker) (last : Option ℕ) (issued : ℕ) (o : Option RoundDecision) → IsResultFor rates found last issued o → length (lanes_of found o) ≡ length (amounts_of found o)
answers_even rates found last issued None h = length-map found lane_in ∙ sym (length-map found nothing_for)
answers_even rates found last issued (Some d) h = plan_even (rates (d.moment / 100)) (d.moment / 100) found d h.shares

lanes_long : (rates : ℕ → Rates) (found : List Asker) (last : Option ℕ) (issued : ℕ) (o : Option RoundDecision) → IsResultFor rates found last issued o → length (lanes_of found o) ≡ length found
lanes_long rates found last issued None h = length-map found lane_in
lanes_long rates found last issued (Some d) h = ap length h.shares.plan.lanes_are ∙ length-map h.shares.plan.order lane_in ∙ length_permutation found h.shares.plan.order h.shares.plan.all

some_found : (found : List Asker) → found ≢ [] → 0 < length found
some_found [] ne = absurd (ne refl)
some_found (x ∷ found) ne = omega arith

-- the same plan, if the asks are in another order
plan_moved : (rates : Rates) (tick : ℕ) (asks asks' : List Asker) (d : RoundDecision) → IsPermutation asks asks' → IsFairPlan rates tick asks d.tree d.lanes d.grants → IsFairPlan rates tick asks' d.tree d.lanes d.grants
plan_moved rates tick asks asks' d p f = record {
  plan = record { order = f.plan.order; all = IsPermutation-trans asks' asks f.plan.order (IsPermutation-sym asks asks' p) f.plan.all; tree = f.plan.tree; lanes_are = f.plan.lanes_are };
  fair = f.fair;
}

all_results : (rates : ℕ → Rates) (last : Option ℕ) (issued : ℕ) (rounds : List RoundResult) → AreResults rates last issued rounds → AllFound rounds
all_results rates last issued [] h = tt
all_results rates last issued (r ∷ rounds) h = (h.0, all_results rates (tick_after last r.decision) (issued + issued_by r.decision) rounds h.2)

-- once the first lane of those that wait is answered
answered_phase : (xs : List Hidden) (x : Hidden) (past : List Done) (os : List (Option Ask)) (l m : ℕ) (ls ms : List ℕ) → x.decided ≡ None → IsAnswering xs os (l ∷ ls) (m ∷ ms) → ((j : ℕ) → is_tried j past ≡ false)
    → Phase (set xs l x) past (set os l None) [] ls ms
answered_phase xs x past os l m [] [] unset p tried =
    let found : AreFound (set os l None) [] = found_less os l [] p.found in
    (refl, subst (IsPermutation []) (sym (all_answered (set os l None) found)) (IsPermutation-refl []), waits_posted l m [] [] xs x tt unset p.waits)
answered_phase xs x past os l m [] (n ∷ ms) unset p tried = absurd (omega (arith, p.even))
answered_phase xs x past os l m (l' ∷ ls) ms unset p tried = (
  refl,
  record { found = found_less os l (l' ∷ ls) p.found; even = omega (arith, p.even); waits = waits_posted l m (l' ∷ ls) ms xs x p.found.once.0 unset p.waits },
  tried,
)

module _ {N : Type 0} (rates : ℕ → Rates) (words : List ℕ) (slots : List (LaneSlot N)) (k : ℕ) (s : Table N) (begun : List Asker) (left : List (ℕ × ℕ)) where
  -- an answer of a round that has decided
  posted : (i n : ℕ) (ds : List Done) → Goes rates words slots k s begun left ds → (x : DeskState N) (past : List Done) (last : ℕ → Option Ask) (os : List (Option Ask)) (spent : ℕ → List ℕ) (kept late : ℕ → ℕ) (lanes amounts : List ℕ) (rounds : List RoundResult)
      → Now words slots k x past (Some (event.Post i, answer.Posted n) ∷ ds) last os spent kept late → IsAnswering x.held.lanes os lanes amounts → 0 < length lanes → AreResults rates x.held.last_tick x.held.issued rounds
      → ◌≡◌ {A = List RoundStep} (answers i n ∷ (round_steps last ds ++ map answer_of left)) (map answer_of (zip lanes amounts) ++ (flat_map steps_of rounds ++ map find_of begun))
      → Onward x.table (Some (event.Post i, answer.Posted n) ∷ ds) s → IsMerged rates x (Some (event.Post i, answer.Posted n) ∷ ds) rounds spent s
  posted i n ds go x past last os spent kept late [] amounts rounds now p more results meets h = absurd (omega (arith, more))
  posted i n ds go x past last os spent kept late (l ∷ ls) [] rounds now p more results meets h = absurd (omega (arith, p.even))
  posted i n ds go x past last os spent kept late (l ∷ ls) (m ∷ ms) rounds now p more results meets h =
      let d : Done = Some (event.Post i, answer.Posted n) in
      let heads = head_answer i n l m (round_steps last ds ++ map answer_of left) (map answer_of (zip ls ms) ++ (flat_map steps_of rounds ++ map find_of begun)) meets in
      let close : i < length x.held.lanes = omega (arith, near (event.Post i) (answer.Posted n) x.table now.rule h.0 h.1, now.long) in
      let t = there x.held.lanes i close in
      let after : Hidden = hidden t.0.moved t.0.back t.0.hand None in
      let held : Holdings = held_lanes (set x.held.lanes i after) x.held in
      let y : DeskState N = record { table = h.0; held = held } in
      let due : n ≡ amount t.0.decided =
      heads.1 ∙ sym (ap amount (first_grant l m ls ms)) ∙ sym (ap (λ (j : ℕ). amount (grant_on (l ∷ ls) (m ∷ ms) j)) heads.0) ∙ sym (p.waits i t.0 t.1).0 in
      let hold : HoldStep (event.Post i) (answer.Posted n) x.held held = record { before = t.0; after = after; there = t.1; step = (due, refl); rest = refl } in
      let os' : List (Option Ask) = set os i None in
      merged_step rates s d x y ds rounds spent (h.1, hold) refl (λ es. refl) (λ es. refl) (λ j es. refl)
      (go y (d ∷ past) last os' spent kept late [] ls ms rounds
      (next words slots k x past (d ∷ ds) ds (event.Post i) (answer.Posted n) h.0 held last last os os' spent spent kept kept late late now h.1 (length-set x.held.lanes i after) (length-set os i None) (λ j z ne sh. shows_else last os i None j z ne sh)
      (λ a b c sh. subst (Shows last os' i) (sym c.1) (sh.0, subst (λ (o : Option Ask). IsDueOn o (shown state.Granted a.ask (a.posted ++ n ∷ []) a.taken)) (sym (set_none os i)) (inr (λ e. cc, refl))))
      (λ j. let f = now.fits j in record { moves = f.moves; all = f.all; one = f.one })
      (λ j z e none. dite (ℕ_discrete j i)
      (λ same.
      let is : z ≡ after = get_same x.held.lanes i after z (subst (λ (q : ℕ). slice_get (set x.held.lanes i after) q ≡ Some z) same e) in
      ap (λ (w : Hidden). w.hand) is ∙ now.hands i t.0 t.1 (subst (λ (q : ℕ). kept q ≡ 0) same none))
      (λ ne. now.hands j z (sym (get_else x.held.lanes i j after ne) ∙ e) none)))
      (subst (λ (j : ℕ). Phase (set x.held.lanes j after) (d ∷ past) (set os j None) [] ls ms) (sym heads.0) (answered_phase x.held.lanes after (d ∷ past) os l m ls ms refl p (λ j. refl)))
      results heads.2 h.2)

  -- a decision for the asks found
  module _ (x : DeskState N) (past ds : List Done) (last : ℕ → Option Ask) (os : List (Option Ask)) (spent : ℕ → List ℕ) (kept late : ℕ → ℕ) (now : Now words slots k x past ds last os spent kept late)
      (found : List Asker) (all : IsPermutation found (asks_from 0 os)) (none : Waits (λ i. None) x.held.lanes) (d : RoundDecision) (fair : IsDecisionFor rates found x.held.last_tick x.held.issued d) where
    abbrev held_after : Holdings
    held_after = after_decision (d.moment / 100) d.lanes d.grants x.held

    abbrev desk_after : DeskState N
    desk_after = record { table = x.table; held = held_after }

    decide_step : DeskStep rates (Some (event.Decide d.moment, answer.Decided (d.moment / 100) (sum d.grants))) x desk_after
    decide_step =
        let seat = has_round words slots k past x.table now.ran in
        let view : RoundView = seat.0 in
        let same : map due_ask view.traces ≡ os = view_due words slots k x past ds last os spent kept late now 0 view seat.1 in
        record {
          seat = 0;
          view = view;
          there = seat.1;
          holds = record {
            tree = d.tree;
            lanes = d.lanes;
            grants = d.grants;
            shares = subst (λ (ps : List (Option Ask)). IsFairPlan (rates (d.moment / 100)) (d.moment / 100) (asks_from 0 ps) d.tree d.lanes d.grants) (sym same) (plan_moved (rates (d.moment / 100)) (d.moment / 100) found (asks_from 0 os) d all fair.shares);
            small = subst (λ (ps : List (Option Ask)). AreSmall (asks_from 0 ps)) (sym same) (sym (list_any-IsPermutation wants_too_much found (asks_from 0 os) all) ∙ fair.small);
            posted = none_decided x.held.lanes none;
            later = fair.later;
            tick_is = refl;
            total_is = refl;
            room = fair.room;
            rest = refl;
          };
          still = refl;
        }

    now_after : Now words slots k desk_after past ds last os spent kept late
    now_after = record {
      rule = now.rule;
      ran = now.ran;
      long = length-decided (grant_on d.lanes d.grants) 0 x.held.lanes ∙ now.long;
      wide = now.wide;
      shows = now.shows;
      fits = now.fits;
      hands = λ i y e zero_kept. let r = decided_at (grant_on d.lanes d.grants) 0 x.held.lanes i y e in ap (λ (z : Hidden). z.hand) r.2 ∙ now.hands i r.0 r.1 zero_kept;
    }

    answering_after : IsAnswering held_after.lanes os d.lanes d.grants
    answering_after =
        let plan = fair.shares.plan in
        record {
          found = subst (AreFound os) (sym plan.lanes_are) (are_found os plan.order (IsPermutation-trans (asks_from 0 os) found plan.order (IsPermutation-sym found (asks_from 0 os) all) plan.all));
          even = plan_even (rates (d.moment / 100)) (d.moment / 100) found d fair.shares;
          waits = waits_decided (grant_on d.lanes d.grants) x.held.lanes;
        }

  -- a refused round answers with 0
  refused_answers : (x : DeskState N) (os : List (Option Ask)) (found : List Asker) → IsPermutation found (asks_from 0 os) → Waits (λ i. None) x.held.lanes → IsAnswering x.held.lanes os (map lane_in found) (map nothing_for found)
  refused_answers x os found all none = record {
    found = are_found os found (IsPermutation-sym found (asks_from 0 os) all);
    even = length-map found lane_in ∙ sym (length-map found nothing_for);
    waits = waits_nothing found x.held.lanes none;
  }

  -- the first answer of a round, and its decision before that
  decided_posted : (i n : ℕ) (ds : List Done) → Goes rates words slots k s begun left ds → (x : DeskState N) (past : List Done) (last : ℕ → Option Ask) (os : List (Option Ask)) (spent : ℕ → List ℕ) (kept late : ℕ → ℕ)
      (found : List Asker) (o : Option RoundDecision) (rounds : List RoundResult) → Now words slots k x past (Some (event.Post i, answer.Posted n) ∷ ds) last os spent kept late → IsPermutation found (asks_from 0 os) → Waits (λ j. None) x.held.lanes → 0 < length (lanes_of found o)
      → IsResultFor rates found x.held.last_tick x.held.issued o → AreResults rates (tick_after x.held.last_tick o) (x.held.issued + issued_by o) rounds
      → ◌≡◌ {A = List RoundStep} (answers i n ∷ (round_steps last ds ++ map answer_of left)) (map answer_of (zip (lanes_of found o) (amounts_of found o)) ++ (flat_map steps_of rounds ++ map find_of begun))
      → Onward x.table (Some (event.Post i, answer.Posted n) ∷ ds) s → IsMerged rates x (Some (event.Post i, answer.Posted n) ∷ ds) (record { found = found; decision = o } ∷ rounds) spent s
  decided_posted i n ds go x past last os spent kept late found None rounds now all none more result results meets h =
      merged_refused rates s found x (Some (event.Post i, answer.Posted n) ∷ ds) rounds spent
      (posted i n ds go x past last os spent kept late (map lane_in found) (map nothing_for found) rounds now (refused_answers x os found all none) more (subst (λ (m : ℕ). AreResults rates x.held.last_tick m rounds) (let z : x.held.issued + 0 ≡ x.held.issued = omega arith in z) results) meets h)
  decided_posted i n ds go x past last os spent kept late found (Some d) rounds now all none more result results meets h =
      let es : List Done = Some (event.Post i, answer.Posted n) ∷ ds in
      let y : DeskState N = desk_after x past es last os spent kept late now found all none d result in
      merged_decided rates s found d x y es rounds spent (decide_step x past es last os spent kept late now found all none d result) refl
      (posted i n ds go y past last os spent kept late d.lanes d.grants rounds (now_after x past es last os spent kept late now found all none d result) (answering_after x past es last os spent kept late now found all none d result) more results meets h)

  pub post_step : (i n : ℕ) (ds : List Done) → Goes rates words slots k s begun left ds → Goes rates words slots k s begun left (Some (event.Post i, answer.Posted n) ∷ ds)
  post_step i n ds go x past last os spent kept late had [] amounts [] now phase results meets h = absurd (no_answer had begun i n (round_steps last ds ++ map answer_of left) meets)
  post_step i n ds go x past last os spent kept late had [] amounts (r ∷ rounds) now phase results meets h =
      let long = lanes_long rates r.found x.held.last_tick x.held.issued r.decision results.1 in
      let more : 0 < length (lanes_of r.found r.decision) = omega (arith, long, some_found r.found results.0) in
      let at = first_result had r.found i n (round_steps last ds ++ map answer_of left) (lanes_of r.found r.decision) (amounts_of r.found r.decision) (answers_to r.found r.decision) (flat_map steps_of rounds) (map find_of begun)
      (answers_are r.found r.decision) more (answers_even rates r.found x.held.last_tick x.held.issued r.decision results.1) meets in
      decided_posted i n ds go x past last os spent kept late r.found r.decision rounds now (subst (λ (xs : List Asker). IsPermutation xs (asks_from 0 os)) at.0 phase.1) phase.2 more results.1 results.2 at.1 h
  post_step i n ds go x past last os spent kept late had (l ∷ ls) amounts rounds now phase results meets h =
      posted i n ds go x past last os spent kept late (l ∷ ls) amounts rounds now phase.1 (omega arith) results
      (subst (λ (xs : List Asker). ◌≡◌ {A = List RoundStep} (map find_of xs ++ (answers i n ∷ (round_steps last ds ++ map answer_of left))) (map answer_of (zip (l ∷ ls) amounts) ++ (flat_map steps_of rounds ++ map find_of begun))) phase.0 meets) h

  ended_with : (x : DeskState N) (past : List Done) (last : ℕ → Option Ask) (os : List (Option Ask)) (spent : ℕ → List ℕ) (kept late : ℕ → ℕ) (found : List Asker) (o : Option RoundDecision) → Now words slots k x past [] last os spent kept late → IsPermutation found (asks_from 0 os) → Waits (λ j. None) x.held.lanes
      → IsResultFor rates found x.held.last_tick x.held.issued o → s ≡ x.table → ((i : ℕ) → spent i ≡ []) → IsMerged rates x [] (record { found = found; decision = o } ∷ []) spent s
  ended_with x past last os spent kept late found None now all none result h empty = merged_refused rates s found x [] [] spent (merged_none rates s x spent h empty)
  ended_with x past last os spent kept late found (Some d) now all none result h empty =
      let y : DeskState N = desk_after x past [] last os spent kept late now found all none d result in
      merged_decided rates s found d x y [] [] spent (decide_step x past [] last os spent kept late now found all none d result) refl (merged_none rates s y spent h empty)

  pub end_step : Goes rates words slots k s begun left []
  end_step x past last os spent kept late had [] amounts [] now phase results meets h = merged_none rates s x spent h (λ i. at_the_end (spent i) (kept i) (late i) i (now.fits i))
  end_step x past last os spent kept late had [] amounts (r ∷ rounds) now phase results meets h =
      let long = lanes_long rates r.found x.held.last_tick x.held.issued r.decision results.1 in
      let more : 0 < length (lanes_of r.found r.decision) = omega (arith, long, some_found r.found results.0) in
      let at = last_result had r.found left (lanes_of r.found r.decision) (amounts_of r.found r.decision) (answers_to r.found r.decision) (flat_map steps_of rounds) (map find_of begun)
      (answers_are r.found r.decision) more (answers_even rates r.found x.held.last_tick x.held.issued r.decision results.1) meets in
      let alone : rounds ≡ [] = only_answers left (zip (lanes_of r.found r.decision) (amounts_of r.found r.decision)) rounds begun (all_results rates (tick_after x.held.last_tick r.decision) (x.held.issued + issued_by r.decision) rounds results.2) at.1 in
      subst (λ (rs : List RoundResult). IsMerged rates x [] (r ∷ rs) spent s) (sym alone)
      (ended_with x past last os spent kept late r.found r.decision now (subst (λ (xs : List Asker). IsPermutation xs (asks_from 0 os)) at.0 phase.1) phase.2 results.1 h (λ i. at_the_end (spent i) (kept i) (late i) i (now.fits i)))
  end_step x past last os spent kept late had (l ∷ ls) amounts rounds now phase results meets h =
      let alone : rounds ≡ [] = only_answers left (zip (l ∷ ls) amounts) rounds begun (all_results rates x.held.last_tick x.held.issued rounds results)
      (subst (λ (xs : List Asker). ◌≡◌ {A = List RoundStep} (map find_of xs ++ map answer_of left) (map answer_of (zip (l ∷ ls) amounts) ++ (flat_map steps_of rounds ++ map find_of begun))) phase.0 meets) in
      subst (λ (rs : List RoundResult). IsMerged rates x [] rs spent s) (sym alone) (merged_none rates s x spent h (λ i. at_the_end (spent i) (kept i) (late i) i (now.fits i)))
