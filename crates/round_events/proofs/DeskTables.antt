-- The world of a table between rounds, and the asks that are due after the tries of one.
use Rattle.std.proofs.Common.{◌≡◌, ◌≢◌, ℕ, zero, suc, ◌+◌, ◌/◌, ◌<◌, Bool, true, false, List, [], ◌∷◌, ◌++◌, map, length, get_or, sym, refl, ap, ◌∙◌, subst, arith, inl, inr, Option, Some, None, slice_get}
use mathlib.Core.Option.{some, some-injective}
use lib.ListN.{get_elem?}
use Rattle.std.proofs.lemmas.List.{length-append, length-map}
use Rattle.std.proofs.lemmas.Option.{same_Some, slice_get_within}
use Rattle.atomic_table.specs.Table.{State}
use Rattle.line_rates.specs.declared.ask.Ask.{Ask}
use Rattle.world_terms.specs.declared.event.LaneState.{LaneState}
use Rattle.world_terms.specs.declared.event.LaneState.TheVariants as state
use Rattle.world_terms.specs.Lanes.{Hidden, Lane, Shown, shown}
use Rattle.desk_rule.specs.declared.view.DeskView.{DeskView}
use Rattle.desk_rule.specs.declared.view.DeskView.TheVariants.{Round}
use Rattle.desk_rule.specs.declared.view.LaneSlot.{LaneSlot}
use Rattle.desk_rule.specs.declared.view.RoundView.{RoundView}
use Rattle.desk_rule.specs.declared.view.TraceView.{TraceView}
use Rattle.desk_rule.specs.Lanes.{Phase, free, worker, asked, round, granted, code, Kept, KnowsRound, has_collected, has_missed, untraced}
use Rattle.desk_rule.specs.Shown.{last_of, shown_in, state_in}
use Rattle.desk_rule.proofs.Keeps.{index_at, own, ruled}
use Rattle.lane_desk.specs.Posted.{AllAnswered, trace_at}
use Rattle.lane_desk.specs.Tried.{asks_from, tried, tried_by}
use Rattle.round_events.specs.Desk.{Holdings, NoneDecided, RoundDecides, ShownIsOne, TablesAreShown, TriedAreDue, due_ask, lanes_by}
use Rattle.round_events.specs.Rounds.{AreSmall}
use Rattle.round_events.specs.Worlds.{IsShownBy}
use Rattle.round_events.proofs.Desk.{lane_at}
use Rattle.round_events.proofs.DeskDecision.{IsDueOn, due_on, grant_at, is_now_due, not_due}
use Rattle.round_events.proofs.Decided.{plan_length}
use Rattle.round_events.proofs.Found.{AreFound, are_found}
use Rattle.round_events.proofs.Merging.{there as hidden_there}
use Rattle.line_rates.specs.TickTree.{lane_in}
use Rattle.fair_terms.specs.Fair.{IsFair}
use Rattle.share_world.specs.Shares.{IsFairPlan}

length-lanes : (f : ℕ → Shown) (k : ℕ) (xs : List Hidden) → length (lanes_by f k xs) ≡ length xs
length-lanes f k [] = refl
length-lanes f k (x ∷ xs) = ap suc (length-lanes f (suc k) xs)

not_in_round : (o : Option Ask) (x : Shown) → IsDueOn o x → o ≡ None → x.state ≢ state.Round
not_in_round o x (inl d) e = let bad : Some d.2.0 ≡ None = sym d.2.1 ∙ sym d.1 ∙ e in absurd (cc)
not_in_round o x (inr d) e = d.0

module _ {N : Type 0} (s : State (LaneSlot N) DeskView) (r : Kept s) (h : Holdings) (seat : ℕ) (v : RoundView) (there : get_elem? s.views seat ≡ some (Round v)) (answered : AllAnswered v.traces) (unset : NoneDecided h.lanes) (long : length h.lanes ≡ length s.homes) where
  kn : KnowsRound (length s.homes) r.lane r.trace r.owner r.desk r.dealt seat v
  kn = r.each_view seat (Round v) there

  trace_is : (i : ℕ) → i < length s.homes → trace_at v.traces i ≡ r.trace i
  trace_is i less = some-injective _ _ (sym (index_at v.traces i untraced (omega (arith, less, kn.wide))) ∙ kn.each_trace i less)

  shown_lane : (i : ℕ) (x : Hidden) → i < length s.homes → x.decided ≡ None → IsShownBy (trace_at v.traces i) (record { shown = shown_in r i; hidden = x })
  shown_lane i x less e =
      let same = trace_is i less in
      let t : TraceView = r.trace i in
      let even : length t.collected ≡ length t.posted = subst (λ (u : TraceView). length u.collected ≡ length u.posted) same (answered i (omega (arith, less, kn.wide))) in
      record {
        posted = sym (ap (λ (u : TraceView). u.posted) same);
        idle = not_in_round (due_ask t) (shown_in r i) (due_on i (get_or s.words i 0) (get_elem? s.homes i) (r.lane i) t (r.phase i) (r.each_lane i less)) (not_due t (omega (arith, even)));
        settled = e;
      }

  shown_at : (i : ℕ) (l : Lane) → slice_get (lanes_by (shown_in r) 0 h.lanes) i ≡ Some l → IsShownBy (trace_at v.traces i) l
  shown_at i l e =
      let within : i < length h.lanes = omega (arith, slice_get_within (lanes_by (shown_in r) 0 h.lanes) i l e, length-lanes (shown_in r) 0 h.lanes) in
      let x = hidden_there h.lanes i within in
      let at : 0 + i ≡ i = omega arith in
      let is : ◌≡◌ {A = Lane} (record { shown = shown_in r i; hidden = x.0 }) l = same_Some _ l (sym (lane_at (shown_in r) 0 h.lanes i x.0 x.1 ∙ ap (λ (n : ℕ). Some (record { shown = shown_in r n; hidden = x.0 })) at) ∙ e) in
      subst (IsShownBy (trace_at v.traces i)) is (shown_lane i x.0 (omega (arith, within, long)) (ap (λ (y : Hidden). y.decided) (sym (x.2 x.0)) ∙ unset i x.0 within))

pub tables_shown : (N : Type 0) → TablesAreShown N
tables_shown N s r h seat v there answered unset long = record {
  wide = length-lanes (shown_in r) 0 h.lanes ∙ long ∙ sym (kn s r h seat v there answered unset long).wide;
  each = shown_at s r h seat v there answered unset long;
}

-- ---- one table, one world

state_by : ℕ → LaneState
state_by zero = state.Free
state_by (suc zero) = state.Worker
state_by (suc (suc zero)) = state.Asked
state_by (suc (suc (suc zero))) = state.Round
state_by (suc (suc (suc (suc n)))) = state.Granted

state_of_code : {N : Type 0} (ph : Phase N) → state_in ph ≡ state_by (code ph)
unfolding state_by
state_of_code free = refl
state_of_code worker = refl
state_of_code (asked a) = refl
state_of_code round = refl
state_of_code (granted g) = refl

pub shown_is_one : (N : Type 0) → ShownIsOne N
shown_is_one N s r r' i j k v w hv hw =
    let here = own (length s.homes) r.lane r.trace r.owner r.desk r.dealt j i v (r.each_view j v hv.0) hv.1 in
    let there = own (length s.homes) r'.lane r'.trace r'.owner r'.desk r'.dealt j i v (r'.each_view j v hv.0) hv.1 in
    let trace = ruled (length s.homes) r.lane r.trace r.owner r.desk r.dealt k i w (r.each_view k w hw.0) hw.1 in
    let trace' = ruled (length s.homes) r'.lane r'.trace r'.owner r'.desk r'.dealt k i w (r'.each_view k w hw.0) hw.1 in
    let less : i < length s.homes = trace.2 in
    let lanes : r'.lane i ≡ r.lane i = there.1 ∙ sym here.1 in
    let traces : r'.trace i ≡ r.trace i = trace'.1 ∙ sym trace.1 in
    let states : state_in (r'.phase i) ≡ state_in (r.phase i) =
    state_of_code (r'.phase i) ∙ ap state_by (sym (r'.each_lane i less).word_is ∙ (r.each_lane i less).word_is) ∙ sym (state_of_code (r.phase i)) in
    λ q. shown (states q) (last_of (lanes q).asks) (traces q).posted (lanes q).taken

-- ---- the asks that are due

last_more : (xs : List Ask) (a : Ask) → last_of (xs ++ a ∷ []) ≡ Some a
last_more [] a = refl
last_more (b ∷ []) a = refl
last_more (b ∷ c ∷ xs) a = last_more (c ∷ xs) a

one_due : (given : Bool) (o : Option Ask) (t : TraceView) → length t.collected ≡ length t.posted → due_ask (tried_by given o t) ≡ o
one_due true None t e = not_due (has_missed t) (omega (arith, e))
one_due false None t e = not_due t (omega (arith, e))
one_due given (Some a) t e = is_now_due (has_collected a t) (omega (arith, e, length-append t.collected (a ∷ []))) ∙ last_more t.collected a

pub tried_due : TriedAreDue
tried_due given [] [] e answered = refl
tried_due given [] (t ∷ ts) e answered = absurd (omega (arith, e))
tried_due given (o ∷ fs) [] e answered = absurd (omega (arith, e))
tried_due given (o ∷ fs) (t ∷ ts) e answered =
    λ q. one_due (given 0) o t (answered 0 (omega arith)) q ∷ tried_due (λ i. given (suc i)) fs ts (omega (arith, e)) (λ i less. answered (suc i) (omega arith)) q

pub round_decides : RoundDecides
round_decides given rates moment old new answered t lanes asks grants h r all small best unset later room =
    let found = r.found in
    let same : map due_ask (tried given found old) ≡ found = tried_due given found old r.wide all in
    let are : AreFound found lanes = subst (AreFound found) (sym r.plan.lanes_are) (are_found found r.plan.order r.plan.all) in
    let shares : IsFairPlan rates (moment / 100) (asks_from 0 found) t lanes grants = record { plan = r.plan; fair = subst (λ (bs : List Ask). IsFair rates.share_by bs t grants) r.asks_are best } in
    let long : length lanes ≡ length grants = ap length r.plan.lanes_are ∙ length-map r.plan.order lane_in ∙ plan_length rates (moment / 100) (asks_from 0 found) t lanes grants shares in (
      record {
        tree = t;
        lanes = lanes;
        grants = grants;
        shares = subst (λ (os : List (Option Ask)). IsFairPlan rates (moment / 100) (asks_from 0 os) t lanes grants) (sym same) shares;
        small = subst (λ (os : List (Option Ask)). AreSmall (asks_from 0 os)) (sym same) small;
        posted = unset;
        later = later;
        tick_is = refl;
        total_is = refl;
        room = room;
        rest = refl;
      },
      λ j less. grant_at lanes grants j are.once long less,
    )
