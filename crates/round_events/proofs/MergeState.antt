-- Where a merge is: the desk so far, and what of the rounds and of the grants is still to come.
use Rattle.std.proofs.Common.{◌≡◌, ◌≢◌, ℕ, ◌<◌, Bool, true, false, cond, List, [], ◌∷◌, length, map, get_or, sym, refl, ap, ◌∙◌, subst, arith, Option, Some, None, slice_get, IsPermutation}
use Rattle.std.proofs.lemmas.List.{ext_get_or, length-map}
use mathlib.Core.Logic.{dite}
use mathlib.Core.Option.{some, some-injective}
use native.Mathlib.Decide.{ℕ_discrete}
use lib.ListN.{get_elem?}
use Rattle.atomic_table.specs.Table.{opening}
use Rattle.line_rates.specs.declared.ask.Ask.{Ask}
use Rattle.line_rates.specs.TickTree.{Asker}
use Rattle.world_terms.specs.declared.event.Event.{Event}
use Rattle.world_terms.specs.declared.event.EventAnswer.{EventAnswer}
use Rattle.world_terms.specs.Lanes.{Hidden, Shown}
use Rattle.world_terms.specs.Shown.{ShownStep}
use Rattle.world_terms.specs.Steps.{lane_of}
use Rattle.desk_rule.specs.declared.view.DeskView.{DeskView}
use Rattle.desk_rule.specs.declared.view.DeskView.TheVariants.{Lane, Round, Spent}
use Rattle.desk_rule.specs.declared.view.LaneSlot.{LaneSlot}
use Rattle.desk_rule.specs.declared.view.RoundView.{RoundView}
use Rattle.desk_rule.specs.Events.{HasTraces}
use Rattle.desk_rule.specs.Lanes.{Kept, KnowsRound, Leads, first_round, is_answering, is_due, untraced}
use Rattle.desk_rule.specs.Shown.{Changes, last_of, shown_in}
use Rattle.desk_rule.specs.Steps.{Done, TableRuns, TableStep}
use Rattle.desk_rule.proofs.Keeps.{index_at}
use Rattle.lane_desk.specs.Tried.{asks_from}
use Rattle.round_events.specs.Desk.{DeskState, Holdings, due_ask, grant_on}
use Rattle.round_events.specs.Tries.{is_tried}
use Rattle.round_events.proofs.Answered.{found_within}
use Rattle.round_events.proofs.Decides.{Waits}
use Rattle.round_events.proofs.DeskDecision.{IsDueOn, due_mapped, due_on}
use Rattle.round_events.proofs.DueAsks.{one_due_on}
use Rattle.round_events.proofs.Found.{AreFound}
use Rattle.round_events.proofs.SpendLists.{LaneFits}
use Rattle.round_events.proofs.TableSteps.{Table, near, stepped}
use Rattle.round_events.proofs.Tries.{tries_first}

-- a lane shows the last ask made there, and the ask that is due
abbrev pub Shows : (ℕ → Option Ask) → List (Option Ask) → ℕ → Shown → Type 0
Shows last os i y = (y.ask ≡ last i) × IsDueOn (get_or os i None) y

-- the amounts that are still to be posted, each decided for its lane
pub record IsAnswering (xs : List Hidden) (os : List (Option Ask)) (lanes amounts : List ℕ) : Type 0 where
  pub found : AreFound os lanes
  pub even : length lanes ≡ length amounts
  pub waits : Waits (grant_on lanes amounts) xs

-- a round that has answered no ask since it tries has found these, and nothing is decided; after
-- its first answer it has found no more
abbrev pub Phase : List Hidden → List Done → List (Option Ask) → List Asker → List ℕ → List ℕ → Type 0
Phase xs past os had [] amounts = (amounts ≡ []) × IsPermutation had (asks_from 0 os) × Waits (λ i. None) xs
Phase xs past os had (l ∷ ls) amounts = (had ≡ []) × IsAnswering xs os (l ∷ ls) amounts × ((j : ℕ) → is_tried j past ≡ false)

-- the phase is the same after a step with no effect on rounds
pub phase_after : (xs : List Hidden) (past past' : List Done) (os : List (Option Ask)) (had : List Asker) (lanes amounts : List ℕ) → ((j : ℕ) → is_tried j past' ≡ is_tried j past) → Phase xs past os had lanes amounts → Phase xs past' os had lanes amounts
phase_after xs past past' os had [] amounts same p = p
phase_after xs past past' os had (l ∷ ls) amounts same p = (p.0, p.1, λ j. same j ∙ p.2 j)

due_is : (b : Bool) (o : Option Ask) (a : Ask) → cond b o None ≡ Some a → b ≡ true
due_is true o a e = refl
due_is false o a e = absurd (cc)

-- a view with traces is the round's
pub leads_round : (i : ℕ) (v : DeskView) → Leads i v → (sh : RoundView) × (v ≡ Round sh)
leads_round i Spent o = absurd o
leads_round i (Lane q y) o = absurd o
leads_round i (Round sh) o = (sh, refl)

module _ {N : Type 0} where
  pub each_lane : {s t : Table N} (r : Kept s) (r' : Kept t) (i : ℕ) (P : Shown → Shown → Type 0) (Q Q' : ℕ → Shown → Type 0) (n : ℕ) → Changes r r' i P → ((j : ℕ) (y : Shown) → j ≢ i → Q j y → Q' j y)
      → ((x y : Shown) → P x y → Q i x → Q' i y) → i < n → ((j : ℕ) → j < n → Q j (shown_in r j)) → (j : ℕ) → j < n → Q' j (shown_in r' j)
  each_lane r r' i P Q Q' n c else here less all j close = dite (ℕ_discrete j i)
      (λ e. subst (λ (m : ℕ). Q' m (shown_in r' m)) (sym e) (here (shown_in r i) (shown_in r' i) c.0 (all i less)))
      (λ ne. subst (Q' j) (sym (c.1 j ne)) (else j (shown_in r j) ne (all j close)))

  module _ (words : List ℕ) (slots : List (LaneSlot N)) (k : ℕ) where
    pub record Now (x : DeskState N) (past ds : List Done) (last : ℕ → Option Ask) (os : List (Option Ask)) (spent : ℕ → List ℕ) (kept late : ℕ → ℕ) : Type 0 where
      pub rule : Kept x.table
      pub ran : TableRuns (opening words slots (Round (first_round k))) past x.table
      pub long : length x.held.lanes ≡ length x.table.homes
      pub wide : length os ≡ length x.table.homes
      pub shows : (i : ℕ) → i < length x.table.homes → Shows last os i (shown_in rule i)
      pub fits : (i : ℕ) → LaneFits (spent i) (kept i) (late i) i ds
      pub hands : (i : ℕ) (y : Hidden) → slice_get x.held.lanes i ≡ Some y → kept i ≡ 0 → y.hand ≡ None

    -- after an event on the table
    pub next : (x : DeskState N) (past ds ds' : List Done) (e : Event) (a : EventAnswer) (u : Table N) (h : Holdings) (last last' : ℕ → Option Ask) (os os' : List (Option Ask)) (spent spent' : ℕ → List ℕ) (kept kept' late late' : ℕ → ℕ)
        → Now x past ds last os spent kept late → TableStep e a x.table u → length h.lanes ≡ length x.held.lanes → length os' ≡ length os
        → ((j : ℕ) (y : Shown) → j ≢ lane_of e → Shows last os j y → Shows last' os' j y) → ((p q : Shown) → ShownStep e a p q → Shows last os (lane_of e) p → Shows last' os' (lane_of e) q)
        → ((i : ℕ) → LaneFits (spent' i) (kept' i) (late' i) i ds') → ((i : ℕ) (y : Hidden) → slice_get h.lanes i ≡ Some y → kept' i ≡ 0 → y.hand ≡ None)
        → Now (record { table = u; held = h }) (Some (e, a) ∷ past) ds' last' os' spent' kept' late'
    next x past ds ds' e a u h last last' os os' spent spent' kept kept' late late' now t long wide else here fits hands =
        let st = stepped e a x.table now.rule u t in
        record {
          rule = st.0.0;
          ran = (x.table, now.ran, t);
          long = long ∙ now.long ∙ sym st.1;
          wide = wide ∙ now.wide ∙ sym st.1;
          shows = λ j less. each_lane now.rule st.0.0 (lane_of e) (ShownStep e a) (Shows last os) (Shows last' os') (length x.table.homes) st.0.1 else here (near e a x.table now.rule u t) now.shows j (subst (λ (n : ℕ). j < n) st.1 less);
          fits = fits;
          hands = hands;
        }

    module _ (x : DeskState N) (past ds : List Done) (last : ℕ → Option Ask) (os : List (Option Ask)) (spent : ℕ → List ℕ) (kept late : ℕ → ℕ) (now : Now x past ds last os spent kept late) where
      trace_due : (i : ℕ) → i < length x.table.homes → due_ask (now.rule.trace i) ≡ get_or os i None
      trace_due i less = one_due_on _ _ (shown_in now.rule i) (due_on i (get_or x.table.words i 0) (get_elem? x.table.homes i) (now.rule.lane i) (now.rule.trace i) (now.rule.phase i) (now.rule.each_lane i less)) (now.shows i less).1

      knows : (id : ℕ) (sh : RoundView) → get_elem? x.table.views id ≡ some (Round sh) → KnowsRound (length x.table.homes) now.rule.lane now.rule.trace now.rule.owner now.rule.desk now.rule.dealt id sh
      knows id sh at = now.rule.each_view id (Round sh) at

      -- the asks that are due by the round's view
      pub view_due : (id : ℕ) (sh : RoundView) → get_elem? x.table.views id ≡ some (Round sh) → map due_ask sh.traces ≡ os
      view_due id sh at =
          let kn = knows id sh at in
          let wide : length (map due_ask sh.traces) ≡ length x.table.homes = length-map sh.traces due_ask ∙ kn.wide in
          ext_get_or None (map due_ask sh.traces) os (wide ∙ sym now.wide) (λ i less.
          let close : i < length x.table.homes = omega (arith, less, wide) in
          due_mapped sh.traces i (now.rule.trace i) (kn.each_trace i close) ∙ trace_due i close)

      -- while an answer is to come, no lane may be tried
      pub not_answering : (id i : ℕ) (v : DeskView) → HasTraces x.table id i v → is_answering v ≡ false → (had : List Asker) (l : ℕ) (ls amounts : List ℕ) → Phase x.held.lanes past os had (l ∷ ls) amounts → ⊥
      not_answering id i v at quiet had l ls amounts p =
          let round = leads_round i v at.1 in
          let sh : RoundView = round.0 in
          let here : get_elem? x.table.views id ≡ some (Round sh) = at.0 ∙ ap some round.1 in
          let kn = knows id sh here in
          let some_ask = p.1.found.some 0 (omega arith) in
          let close : l < length x.table.homes = omega (arith, found_within os l some_ask.0 some_ask.1, now.wide) in
          let due : is_due (now.rule.trace l) ≡ true = due_is (is_due (now.rule.trace l)) (last_of (now.rule.trace l).collected) some_ask.0 (trace_due l close ∙ some_ask.1) in
          let same : get_or sh.traces l untraced ≡ now.rule.trace l = some-injective _ _ (sym (index_at sh.traces l untraced (omega (arith, close, kn.wide))) ∙ kn.each_trace l close) in
          let tried : is_tried l past ≡ true = tries_first words slots k past x.table id l sh now.ran here (subst (λ (w : DeskView). is_answering w ≡ false) round.1 quiet) (omega (arith, close, kn.wide)) (ap is_due same ∙ due) in
          let bad : false ≡ true = sym (p.2 l) ∙ tried in
          cc
