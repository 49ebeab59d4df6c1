-- Each exchange is an event, and the accounts of a lane fit its word.
use Rattle.std.proofs.Common.{◌≡◌, ◌≢◌, ℕ, ◌<◌, ◌≤◌, List, [], ◌∷◌, ◌++◌, length, get_or, set, sym, refl, ap, ◌∙◌, subst, arith, append-nil, length-append, get_or-set_same, Some}
use mathlib.Core.Option.{Option, none, some}
use lib.ListN.{get_elem?}
use Rattle.atomic_table.specs.Table.{State}
use Rattle.atomic_table.proofs.Lists.{set_here}
use Rattle.line_rates.specs.declared.ask.Ask.{Ask}
use Rattle.grant_ledger.specs.Books.{GrantView}
use Rattle.world_terms.specs.declared.event.LaneState.TheVariants as state
use Rattle.world_terms.specs.declared.event.Event.TheVariants as event
use Rattle.world_terms.specs.declared.event.EventAnswer.TheVariants as answer
use Rattle.world_terms.specs.Lanes as world
use Rattle.world_terms.specs.Shown.{ShownStep}
use Rattle.desk_rule.specs.declared.view.DeskView.{DeskView}
use Rattle.desk_rule.specs.declared.view.DeskView.TheVariants.{Spent, Lane, Round}
use Rattle.desk_rule.specs.declared.view.LaneSlot.{LaneSlot}
use Rattle.desk_rule.specs.declared.view.LaneSlot.TheVariants.{Blank, WithAsk, WithGrant}
use Rattle.desk_rule.specs.declared.view.LaneView.{LaneView}
use Rattle.desk_rule.specs.declared.view.TraceView.{TraceView}
use Rattle.desk_rule.specs.Lanes.{Phase, free, worker, asked, round, granted, code, Agrees, Kept, Knows, Leads, lane_in, trace_in, with_trace, posted_by, most, sat_down, has_asked, has_taken, has_looked, has_risen, has_missed, has_collected, has_posted}
use Rattle.desk_rule.specs.Shown.{last_of, state_in}
use Rattle.desk_rule.specs.Events.{HasLane, HasTraces, SitIsEvent, AskIsEvent, CollectIsEvent, MissIsEvent, PostIsEvent, TakeIsEvent, LookIsNoEvent, RiseIsEvent, IsAccounted, AccountsFit}
use Rattle.desk_rule.proofs.Keeps.{Beside, answers_change, at_home, lane_changes, trace_changes, in_phase, is_free, is_worker, is_asked, is_round, is_granted, own, ruled, posted_after, posted_most, sum_more}

last_more : (xs : List Ask) (a : Ask) → last_of (xs ++ a ∷ []) ≡ Some a
last_more [] a = refl
last_more (b ∷ []) a = refl
last_more (b ∷ c ∷ xs) a = last_more (c ∷ xs) a

module _ {N : Type 0} where
  beside : (s : State (LaneSlot N) DeskView) (i : ℕ) → Beside s i s.words s.homes
  beside s i = record { words_long = refl; homes_long = refl; words_same = λ j other. refl; homes_same = λ j other. refl }

  not_asked : (ph : Phase N) → code ph ≢ 2 → state_in ph ≢ state.Asked
  not_asked free ne e = cc
  not_asked worker ne e = cc
  not_asked (asked a) ne e = ne refl
  not_asked round ne e = cc
  not_asked (granted g) ne e = cc

  module _ (s : State (LaneSlot N) DeskView) (r : Kept s) (id i : ℕ) (v : DeskView) where
    lane_now : HasLane s id i v → (i < length s.homes) × (i < length s.words) × Agrees i (get_or s.words i 0) (get_elem? s.homes i) (lane_in i v) (r.trace i) (r.phase i)
    lane_now h =
        let mine = own (length s.homes) r.lane r.trace r.owner r.desk r.dealt id i v (r.each_view id v h.0) h.1 in
        let near : i < length s.homes = omega (arith, mine.2, r.few) in (
          near,
          omega (arith, near, r.wide),
          subst (λ (x : LaneView). Agrees i (get_or s.words i 0) (get_elem? s.homes i) x (r.trace i) (r.phase i)) mine.1 (r.each_lane i near),
        )

    trace_now : HasTraces s id i v → (i < length s.homes) × (i < length s.words) × Agrees i (get_or s.words i 0) (get_elem? s.homes i) (r.lane i) (trace_in i v) (r.phase i)
    trace_now h =
        let mine = ruled (length s.homes) r.lane r.trace r.owner r.desk r.dealt id i v (r.each_view id v h.0) h.1 in (
          mine.2,
          omega (arith, mine.2, r.wide),
          subst (λ (t : TraceView). Agrees i (get_or s.words i 0) (get_elem? s.homes i) (r.lane i) t (r.phase i)) mine.1 (r.each_lane i mine.2),
        )

    most_in : (u : DeskView) → Leads i u → Knows (length s.homes) r.lane r.trace r.owner r.desk r.dealt id u → posted_by u ≤ most
    most_in Spent o kn = absurd o
    most_in (Lane q x) o kn = absurd o
    most_in (Round sh) o kn = kn.within

  pub sit_is : SitIsEvent N
  sit_is s r id i v h st =
      let l = lane_now s r id i v h in
      let ph : r.phase i ≡ free = is_free (r.phase i) (sym st ∙ l.2.state_is) in
      let ok = in_phase s r id i v h.0 (lane_in i v) (r.trace i) (r.phase i) free ph l.2 in
      lane_changes s r i (set s.words i 1) (set s.homes i none) (at_home s i 1 none) (sat_down (lane_in i v)) (r.trace i) worker
      record { word_is = get_or-set_same s.words i 1 0 l.1; home_is = set_here s.homes i none l.0; state_is = refl; asks_are = ok.asks_are; posted_are = ok.posted_are; answered = ok.answered; within = ok.within; bears = tt }
      id v h.0 h.1 refl (ShownStep (event.Sit i) answer.Done) (ap state_in ph, refl)

  pub ask_is : AskIsEvent N
  ask_is s r id i v a h st =
      let l = lane_now s r id i v h in
      let x = lane_in i v in
      let ph : r.phase i ≡ worker = is_worker (r.phase i) (sym st ∙ l.2.state_is) in
      let ok = in_phase s r id i v h.0 x (r.trace i) (r.phase i) worker ph l.2 in
      lane_changes s r i (set s.words i 2) (set s.homes i (some (WithAsk a))) (at_home s i 2 (some (WithAsk a))) (has_asked a x) (r.trace i) (asked a)
      record { word_is = get_or-set_same s.words i 2 0 l.1; home_is = set_here s.homes i (some (WithAsk a)) l.0; state_is = refl; asks_are = ap (λ (xs : List Ask). xs ++ a ∷ []) (ok.asks_are ∙ append-nil (r.trace i).collected); posted_are = ok.posted_are; answered = ok.answered; within = ok.within; bears = tt }
      id v h.0 h.1 refl (ShownStep (event.Asked i a) answer.Done) (ap state_in ph, ap (λ o. world.shown state.Asked o (r.trace i).posted x.taken) (last_more x.asks a))

  pub collect_is : CollectIsEvent N
  collect_is s r id i v h hit =
      let l = trace_now s r id i v h in
      let t = trace_in i v in
      let f = is_asked (r.phase i) (sym hit ∙ l.2.word_is) in
      let a : Ask = f.0 in
      let ok = in_phase s r id i v h.0 (r.lane i) t (r.phase i) (asked a) f.1 l.2 in (
        a,
        ok.home_is,
        trace_changes s r i (set s.words i 3) (set s.homes i none) (at_home s i 3 none) (r.lane i) (has_collected a t) round
            record { word_is = get_or-set_same s.words i 3 0 l.1; home_is = set_here s.homes i none l.0; state_is = ok.state_is; asks_are = ok.asks_are ∙ sym (append-nil (t.collected ++ a ∷ [])); posted_are = ok.posted_are; answered = omega (arith, ok.answered, length-append t.collected (a ∷ [])); within = ok.within; bears = tt }
            id v h.0 h.1 (omega (arith, most_in s r id i v v h.1 (r.each_view id v h.0), posted_after i (has_collected a t) v h.1)) refl (λ x y. (x.ask ≡ Some a) × ShownStep (event.Collect i) answer.Got x y)
            (ap last_of ok.asks_are ∙ last_more t.collected a, (ap state_in f.1, refl)),
      )

  pub miss_is : MissIsEvent N
  miss_is s r id i v h miss =
      let l = trace_now s r id i v h in
      let t = trace_in i v in
      trace_changes s r i s.words s.homes (beside s i) (r.lane i) (has_missed t) (r.phase i)
      record { word_is = l.2.word_is; home_is = l.2.home_is; state_is = l.2.state_is; asks_are = l.2.asks_are; posted_are = l.2.posted_are; answered = l.2.answered; within = l.2.within; bears = l.2.bears }
      id v h.0 h.1 (omega (arith, most_in s r id i v v h.1 (r.each_view id v h.0), posted_after i (has_missed t) v h.1)) refl (ShownStep (event.Collect i) answer.Missed)
      (not_asked (r.phase i) (λ e. miss (l.2.word_is ∙ e)), refl)

  pub post_is : PostIsEvent N
  post_is s r id i v g h due bears few =
      let l = trace_now s r id i v h in
      let t = trace_in i v in
      let x = r.lane i in
      let ph : r.phase i ≡ round = is_round (r.phase i) (omega (arith, due, l.2.answered)) in
      let ok = in_phase s r id i v h.0 x t (r.phase i) round ph l.2 in
      answers_change s s r id i v (with_trace i (has_posted g.octets t) v) (set s.words i 4) (set s.homes i (some (WithGrant g))) (ShownStep (event.Post i) (answer.Posted g.octets)) h.0 (trace_changes s r i (set s.words i 4) (set s.homes i (some (WithGrant g))) (at_home s i 4 (some (WithGrant g))) x (has_posted g.octets t) (granted g)
      record {
        word_is = get_or-set_same s.words i 4 0 l.1;
        home_is = set_here s.homes i (some (WithGrant g)) l.0;
        state_is = ok.state_is;
        asks_are = ok.asks_are;
        posted_are = ap (λ (xs : List ℕ). xs ++ g.octets ∷ []) (ok.posted_are ∙ append-nil x.taken);
        answered = omega (arith, ok.answered, length-append t.posted (g.octets ∷ []));
        within = omega (arith, few, posted_most i v h.1, sum_more t.posted g.octets);
        bears = bears;
      }
      id v h.0 h.1 (omega (arith, few, posted_after i (has_posted g.octets t) v h.1, sum_more t.posted g.octets)) refl (ShownStep (event.Post i) (answer.Posted g.octets)) (ap state_in ph, refl))

  pub take_is : TakeIsEvent N
  take_is s r id i v h hit =
      let l = lane_now s r id i v h in
      let x = lane_in i v in
      let f = is_granted (r.phase i) (sym hit ∙ l.2.word_is) in
      let g : GrantView = f.0 in
      let ok = in_phase s r id i v h.0 x (r.trace i) (r.phase i) (granted g) f.1 l.2 in (
        g,
        ok.home_is,
        ok.bears,
        lane_changes s r i (set s.words i 1) (set s.homes i none) (at_home s i 1 none) (has_taken g.octets x) (r.trace i) worker
            record { word_is = get_or-set_same s.words i 1 0 l.1; home_is = set_here s.homes i none l.0; state_is = refl; asks_are = ok.asks_are; posted_are = ok.posted_are ∙ sym (append-nil (x.taken ++ g.octets ∷ [])); answered = ok.answered; within = ok.within; bears = tt }
            id v h.0 h.1 refl (ShownStep (event.Taken i) (answer.Taken g.octets)) (ap state_in f.1, ok.posted_are, refl),
      )

  pub look_is : LookIsNoEvent N
  look_is s r id i v h miss =
      let l = lane_now s r id i v h in
      lane_changes s r i s.words s.homes (beside s i) (has_looked (lane_in i v)) (r.trace i) (r.phase i)
      record { word_is = l.2.word_is; home_is = l.2.home_is; state_is = l.2.state_is; asks_are = l.2.asks_are; posted_are = l.2.posted_are; answered = l.2.answered; within = l.2.within; bears = l.2.bears }
      id v h.0 h.1 refl (λ x y. y ≡ x) refl

  pub rise_is : RiseIsEvent N
  rise_is s r id i v h st =
      let l = lane_now s r id i v h in
      let ph : r.phase i ≡ worker = is_worker (r.phase i) (sym st ∙ l.2.state_is) in
      let ok = in_phase s r id i v h.0 (lane_in i v) (r.trace i) (r.phase i) worker ph l.2 in
      lane_changes s r i (set s.words i 0) (set s.homes i (some Blank)) (at_home s i 0 (some Blank)) (has_risen (lane_in i v)) (r.trace i) free
      record { word_is = get_or-set_same s.words i 0 0 l.1; home_is = set_here s.homes i (some Blank) l.0; state_is = refl; asks_are = ok.asks_are; posted_are = ok.posted_are; answered = ok.answered; within = ok.within; bears = tt }
      id v h.0 h.1 refl (ShownStep (event.Rise i) answer.Done) (ap state_in ph, refl)

  accounted : (ph : Phase N) (i n : ℕ) (h : Option (Option (LaneSlot N))) (x : LaneView) (t : TraceView) → Agrees i n h x t ph → IsAccounted n x t
  accounted free i n h x t ok = record {
    granted = λ e. absurd (omega (arith, e, ok.word_is));
    taken = λ _. ok.posted_are ∙ append-nil x.taken;
    asked = λ e. absurd (omega (arith, e, ok.word_is));
    collected = λ _. ok.asks_are ∙ append-nil t.collected;
    due = λ e. absurd (omega (arith, e, ok.word_is));
    answered = λ _. omega (arith, ok.answered);
  }
  accounted worker i n h x t ok = record {
    granted = λ e. absurd (omega (arith, e, ok.word_is));
    taken = λ _. ok.posted_are ∙ append-nil x.taken;
    asked = λ e. absurd (omega (arith, e, ok.word_is));
    collected = λ _. ok.asks_are ∙ append-nil t.collected;
    due = λ e. absurd (omega (arith, e, ok.word_is));
    answered = λ _. omega (arith, ok.answered);
  }
  accounted (asked a) i n h x t ok = record {
    granted = λ e. absurd (omega (arith, e, ok.word_is));
    taken = λ _. ok.posted_are ∙ append-nil x.taken;
    asked = λ _. (a, ok.asks_are);
    collected = λ ne. absurd (ne ok.word_is);
    due = λ e. absurd (omega (arith, e, ok.word_is));
    answered = λ _. omega (arith, ok.answered);
  }
  accounted round i n h x t ok = record {
    granted = λ e. absurd (omega (arith, e, ok.word_is));
    taken = λ _. ok.posted_are ∙ append-nil x.taken;
    asked = λ e. absurd (omega (arith, e, ok.word_is));
    collected = λ _. ok.asks_are ∙ append-nil t.collected;
    due = λ _. ok.answered;
    answered = λ ne. absurd (ne ok.word_is);
  }
  accounted (granted g) i n h x t ok = record {
    granted = λ _. (g.octets, ok.posted_are);
    taken = λ ne. absurd (ne ok.word_is);
    asked = λ e. absurd (omega (arith, e, ok.word_is));
    collected = λ _. ok.asks_are ∙ append-nil t.collected;
    due = λ e. absurd (omega (arith, e, ok.word_is));
    answered = λ _. omega (arith, ok.answered);
  }

  pub accounts : AccountsFit N
  accounts s r i j k v w hv hw =
      let l = lane_now s r j i v hv in
      let same = (ruled (length s.homes) r.lane r.trace r.owner r.desk r.dealt k i w (r.each_view k w hw.0) hw.1).1 in (
        subst (λ (t : TraceView). IsAccounted (get_or s.words i 0) (lane_in i v) t) same (accounted (r.phase i) i (get_or s.words i 0) (get_elem? s.homes i) (lane_in i v) (r.trace i) l.2),
        most_in s r k i w w hw.1 (r.each_view k w hw.0),
      )
