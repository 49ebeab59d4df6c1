-- How lanes are closed.
use Rattle.std.proofs.Common.{◌≡◌, ◌≢◌, ℕ, ◌+◌, ◌<◌, eq-eqb, List, [], ◌∷◌, ◌++◌, length, get_or, set, Bool, true, false, cond, sym, refl, ap, ◌∙◌, subst, arith, length-append, append-nil, get_or-set_same}
use mathlib.Core.Option.{Option, some, some-injective}
use lib.ListN.{get_elem?}
use Rattle.atomic_table.specs.Table.{Me, Final, Seen}
use Rattle.grant_ledger.specs.Books.{GrantView}
use Rattle.desk_rule.specs.declared.view.LaneSlot.{LaneSlot}
use Rattle.desk_rule.specs.declared.view.LaneSlot.TheVariants.{Blank, WithAsk, WithGrant}
use Rattle.desk_rule.specs.declared.view.SeatState.TheVariants.{Free, Worker}
use Rattle.desk_rule.specs.declared.view.LaneView.{LaneView}
use Rattle.desk_rule.specs.declared.view.TraceView.{TraceView}
use Rattle.desk_rule.specs.declared.view.RoundView.{RoundView}
use Rattle.desk_rule.specs.declared.view.DeskView.{DeskView}
use Rattle.desk_rule.specs.declared.view.DeskView.TheVariants.{Round}
use Rattle.desk_rule.specs.Lanes.{fresh, untraced, has_taken, has_looked, has_risen}
use Rattle.desk_rule.specs.Steps.{Ran}
use Rattle.lane_desk.specs.Held.{round_in, KnowsDesk}
use Rattle.desk_rule.specs.Lanes.{is_due}
use Rattle.desk_rule.proofs.Keeps.{index_at}
use Rattle.desk_rule.specs.Lanes.{has_posted, Phase, free, worker, asked, round, granted, Agrees}
use Rattle.lane_desk.specs.Close.{Settled, Closes, answered, AllSettled}
use Rattle.lane_desk.proofs.RoundCalls.{posted_not_due}
use Rattle.lane_desk.proofs.AllLanes.{get_last}

answered_by : (t : TraceView) (b : Bool) → is_due t ≡ b → ((answered t).posted ≡ t.posted ++ cond (is_due t) (0 ∷ []) []) × (is_due (answered t) ≡ false)
answered_by t true e = (ap (λ (b : Bool). (cond b (has_posted 0 t) t).posted) e ∙ ap (λ (b : Bool). t.posted ++ cond b (0 ∷ []) []) (sym e), ap (λ (b : Bool). is_due (cond b (has_posted 0 t) t)) e ∙ posted_not_due 0 t e)
answered_by t false e = (ap (λ (b : Bool). (cond b (has_posted 0 t) t).posted) e ∙ sym (append-nil t.posted) ∙ ap (λ (b : Bool). t.posted ++ cond b (0 ∷ []) []) (sym e), ap (λ (b : Bool). is_due (cond b (has_posted 0 t) t)) e ∙ e)

set_last : {A : Type 0} (l : List A) (x y : A) → set (l ++ x ∷ []) (length l) y ≡ l ++ y ∷ []
set_last [] x y = refl
set_last (z ∷ l) x y = λ q. z ∷ set_last l x y q

module _ (ts0 ts2 : List TraceView) (bs0 bs1 bs2 : List LaneView) (i : ℕ) (s x0 : LaneView) (near : i < length ts0) (here : i ≡ length bs0) (traces : ts2 ≡ set ts0 i (answered (get_or ts0 i untraced))) (back : bs1 ≡ bs0 ++ x0 ∷ []) (risen : x0.state ≢ Worker) (same : x0.taken ≡ s.taken) where
  trace_now : get_or ts2 i untraced ≡ answered (get_or ts0 i untraced)
  trace_now = ap (λ (l : List TraceView). get_or l i untraced) traces ∙ get_or-set_same ts0 i (answered (get_or ts0 i untraced)) untraced near

  lane_now : get_or bs1 i fresh ≡ x0
  lane_now = ap (λ (l : List LaneView). get_or l i fresh) back ∙ ap (λ (z : ℕ). get_or (bs0 ++ x0 ∷ []) z fresh) here ∙ get_last bs0 x0 fresh

  posted_now : (get_or ts2 i untraced).posted ≡ (get_or ts0 i untraced).posted ++ cond (is_due (get_or ts0 i untraced)) (0 ∷ []) []
  posted_now = ap (λ (t : TraceView). t.posted) trace_now ∙ (answered_by (get_or ts0 i untraced) (is_due (get_or ts0 i untraced)) refl).0

  none_due : is_due (get_or ts2 i untraced) ≡ false
  none_due = ap is_due trace_now ∙ (answered_by (get_or ts0 i untraced) (is_due (get_or ts0 i untraced)) refl).1

  pub closes_none : bs2 ≡ set bs1 i (has_looked (get_or bs1 i fresh)) → (get_or ts2 i untraced).posted ≡ (get_or bs1 i fresh).taken → (x : LaneView) × (bs2 ≡ bs0 ++ x ∷ []) × Closes (get_or ts0 i untraced) s (get_or ts2 i untraced) x 0
  closes_none moved fit =
      let x : LaneView = has_looked x0 in (
        x,
        moved ∙ ap (λ (y : LaneView). set bs1 i (has_looked y)) lane_now ∙ ap (λ (l : List LaneView). set l i x) back ∙ ap (λ (z : ℕ). set (bs0 ++ x0 ∷ []) z x) here ∙ set_last bs0 x0 x,
        (posted_now, (risen, fit ∙ ap (λ (y : LaneView). y.taken) lane_now, none_due), ([], same ∙ sym (append-nil s.taken), omega arith, refl)),
      )

  pub closes_some : (k n : ℕ) → n ≡ k → bs2 ≡ set bs1 i (has_risen (has_taken k (get_or bs1 i fresh))) → (get_or ts2 i untraced).posted ≡ (get_or bs1 i fresh).taken ++ k ∷ []
      → (x : LaneView) × (bs2 ≡ bs0 ++ x ∷ []) × Closes (get_or ts0 i untraced) s (get_or ts2 i untraced) x n
  closes_some k n is moved fit =
      let x : LaneView = has_risen (has_taken k x0) in (
        x,
        moved ∙ ap (λ (y : LaneView). set bs1 i (has_risen (has_taken k y))) lane_now ∙ ap (λ (l : List LaneView). set l i x) back ∙ ap (λ (z : ℕ). set (bs0 ++ x0 ∷ []) z x) here ∙ set_last bs0 x0 x,
        (posted_now, (free_now, fit ∙ ap (λ (y : LaneView). y.taken ++ k ∷ []) lane_now, none_due), (k ∷ [], ap (λ (l : List ℕ). l ++ k ∷ []) same, omega arith, omega (arith, is))),
      )
    where
      free_now : Free ≢ Worker
      free_now e = cc

module _ {N : Type 0} where
  no_grant_left : (ph : (Phase N)) (i n : ℕ) (h : Option (Option (LaneSlot N))) (x : LaneView) (t : TraceView) → Agrees i n h x t ph → Settled x t → (y : (LaneSlot N)) → ((z : (LaneSlot N)) → h ≡ some (some z) → z ≡ y) → (g : GrantView) → y ≡ WithGrant g → ⊥
  no_grant_left free i n h x t ok is y f g e = let b : Blank ≡ WithGrant g = f Blank ok.home_is ∙ e in cc
  no_grant_left worker i n h x t ok is y f g e = is.0 ok.state_is
  no_grant_left (asked a) i n h x t ok is y f g e = let b : WithAsk a ≡ WithGrant g = f (WithAsk a) ok.home_is ∙ e in cc
  no_grant_left round i n h x t ok is y f g e = let b : true ≡ false = sym (eq-eqb (length t.collected) (length t.posted + 1) ok.answered) ∙ is.2 in cc
  no_grant_left (granted k) i n h x t ok is y f g e = omega (arith, ap length (sym is.1 ∙ ok.posted_are), length-append x.taken (k.octets ∷ []))

  -- where each lane is settled, no grant lies in a slot at the end
  pub no_grant_at : (id : ℕ) (m : (Me (LaneSlot N) DeskView)) (lanes : ℕ) (held : List Bool) → KnowsDesk m lanes held → length (round_in m.0).back ≡ lanes → AllSettled (round_in m.0).traces (round_in m.0).back → (ws : List ℕ) (xs : List (LaneSlot N)) → Final (Seen Ran id m.0) ws xs
      → (i : ℕ) → i < length xs → (y : (LaneSlot N)) → get_elem? xs i ≡ some y → (g : GrantView) → y ≡ WithGrant g → ⊥
  no_grant_at id m lanes held k all settled ws xs fin i near y at g e =
      let s = fin.0 in
      let r = fin.1.0.kept in
      let sh : RoundView = round_in m.0 in
      let kn = r.each_view id (Round sh) (fin.1.1 ∙ ap some k.view_is) in
      let here : i < length s.homes = omega (arith, fin.3, near) in
      let turned : r.trace i ≡ get_or sh.traces i untraced = some-injective _ _ (sym (kn.each_trace i here) ∙ index_at sh.traces i untraced (omega (arith, kn.wide, here))) in
      let there : i < length sh.back = omega (arith, all, k.wide, kn.wide, here) in
      let mine = kn.each_back i (get_or sh.back i fresh) (index_at sh.back i fresh there) in
      let is : Settled (r.lane i) (r.trace i) = subst (λ (z : LaneView × TraceView). Settled z.0 z.1) (λ q. (sym mine.1 q, sym turned q)) (settled i there) in
      no_grant_left (r.phase i) i (get_or s.words i 0) (get_elem? s.homes i) (r.lane i) (r.trace i) (r.each_lane i here) is y (λ z h. some-injective z y (sym (fin.4 i z h) ∙ at)) g e
