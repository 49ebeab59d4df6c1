-- A lane whose seat came back.
use Rattle.std.proofs.Common.{◌≡◌, ◌≢◌, ℕ, zero, suc, ◌+◌, ◌<◌, List, [], ◌∷◌, ◌++◌, length, get_or, set, Bool, sym, refl, ap, ◌∙◌, subst, length-set, get_or-set_same}
use mathlib.Core.Option.{none}
use Rattle.atomic_table.specs.Table.{Me, step, rest, Allows, Joins}
use Rattle.grant_ledger.specs.Books.{GrantView}
use Rattle.desk_rule.specs.declared.view.LaneSlot.{LaneSlot}
use Rattle.desk_rule.specs.declared.view.LaneSlot.TheVariants.{Blank, WithAsk, WithGrant}
use Rattle.desk_rule.specs.declared.view.SeatState.{SeatState}
use Rattle.desk_rule.specs.declared.view.SeatState.TheVariants.{Free, Worker, Asked}
use Rattle.desk_rule.specs.declared.view.LaneView.{LaneView}
use Rattle.desk_rule.specs.declared.view.TraceView.{TraceView}
use Rattle.desk_rule.specs.declared.view.DeskView.{DeskView}
use Rattle.desk_rule.specs.declared.view.DeskView.TheVariants.{Spent, Lane, Round}
use Rattle.desk_rule.specs.Lanes.{Owns, Leads, Fits, lane_in, with_lane, fresh, untraced, held_in, KnowsLane, has_taken, has_risen}
use Rattle.desk_rule.specs.Steps.{Ran}
use Rattle.desk_rule.specs.Lanes as spec
use Rattle.lane_desk.specs.Held.{round_in, KnowsDesk}
use Rattle.desk_rule.proofs.Keeps.{joins, rises}
use Rattle.lane_desk.proofs.RoundCalls.{IsRound, trace_is}

module _ {N : Type 0} where
  pub held_none : (l : List (ℕ × (LaneSlot N))) (i : ℕ) (st : SeatState) → st ≢ Worker → l ≡ held_in st i → l ≡ []
  held_none l i Free ne e = e
  held_none l i Worker ne e = absurd (ne refl)
  held_none l i Asked ne e = e

  pub joins_of : (id : ℕ) (m0 : (Me (LaneSlot N) DeskView)) (lanes : ℕ) (held : List Bool) (other : ℕ) (m : (Me (LaneSlot N) DeskView)) (i : ℕ) (st : SeatState) → KnowsDesk m0 lanes held → KnowsLane m i st → i ≡ length (round_in m0.0).back → Joins (Ran {N = N}) id m0.0 other m.0 (spec.taken_in m0.0 m.0) Spent
  joins_of id m0 lanes held other m i st k kl e = joins id m0.0 (round_in m0.0) other m.0 (lane_in i m.0) k.view_is (kl.0 ∙ ap (λ (z : ℕ). Lane z (lane_in i m.0)) e)

pub owns_round : (v : DeskView) (i : ℕ) → IsRound v → i < length (round_in v).back → Owns i v
owns_round v i e h = subst (Owns i) (sym e) h

pub lane_is : (v : DeskView) (i : ℕ) → IsRound v → lane_in i v ≡ get_or (round_in v).back i fresh
lane_is v i e = subst (λ (u : DeskView). lane_in i u ≡ get_or (round_in u).back i fresh) (sym e) refl

still_owns : (v : DeskView) (i : ℕ) (x : LaneView) → Owns i v → Owns i (with_lane i x v)
still_owns Spent i x o = o
still_owns (Lane k y) i x o = o
still_owns (Round sh) i x o = subst (λ (z : ℕ). i < z) (sym (length-set sh.back i x)) o

now_in : (v : DeskView) (i : ℕ) (x : LaneView) → Owns i v → lane_in i (with_lane i x v) ≡ x
now_in Spent i x o = absurd o
now_in (Lane k y) i x o = refl
now_in (Round sh) i x o = Rattle.std.proofs.Common.get_or-set_same sh.back i x fresh o

set_twice : {A : Type 0} (l : List A) (i : ℕ) (a b : A) → set (set l i a) i b ≡ set l i b
set_twice [] i a b = refl
set_twice (x ∷ xs) zero a b = refl
set_twice (x ∷ xs) (suc i) a b = λ q. x ∷ set_twice xs i a b q

with_twice : (v : DeskView) (i : ℕ) (x y : LaneView) → with_lane i y (with_lane i x v) ≡ with_lane i y v
with_twice Spent i x y = refl
with_twice (Lane k z) i x y = refl
with_twice (Round sh) i x y = λ q. Round record { dealt = sh.dealt; traces = sh.traces; back = set_twice sh.back i x y q; answering = sh.answering }

module _ {N : Type 0} where
  -- the seat once it has put nothing in place of the grant
  pub taken_front : (m1 m2 m3 : (Me (LaneSlot N) DeskView)) (i : ℕ) → spec.Took (step 0 i 4 1 none) m1 m2 → m3 ≡ (m2.0, (i, Blank) ∷ rest m2.1) → (g : GrantView) × (m2.1 ≡ (i, WithGrant g) ∷ m1.1) × (m3 ≡ (with_lane i (has_taken g.octets (lane_in i m1.0)) m1.0, (i, Blank) ∷ m1.1)) × Fits i m1.0 (g.octets ∷ [])
  taken_front m1 m2 m3 i t put = (t.0, ap (λ (u : (Me (LaneSlot N) DeskView)). u.1) t.2, put ∙ ap (λ (u : (Me (LaneSlot N) DeskView)). (u.0, (i, Blank) ∷ rest u.1)) t.2, t.4)

  pub rises_of : (n id : ℕ) (m : (Me (LaneSlot N) DeskView)) (v : DeskView) (l : List (ℕ × (LaneSlot N))) (i k : ℕ) → Owns i v → m ≡ (with_lane i (has_taken k (lane_in i v)) v, (i, Blank) ∷ l) → Allows Ran n id m i (λ _. 0) (λ _. spec.rises (step n i 0 0 none) m 0)
  rises_of n id m v l i k o is = let w : DeskView = with_lane i (has_taken k (lane_in i v)) v in
      subst (λ (u : (Me (LaneSlot N) DeskView)). Allows Ran n id u i (λ _. 0) (λ _. spec.rises (step n i 0 0 none) u 0)) (sym is)
      (rises n id (w, (i, Blank) ∷ l) i (still_owns v i (has_taken k (lane_in i v)) o) (ap (λ (x : LaneView). x.state) (now_in v i (has_taken k (lane_in i v)) o)) refl)

  pub rises_then : (m m' : (Me (LaneSlot N) DeskView)) (v : DeskView) (l : List (ℕ × (LaneSlot N))) (i k : ℕ) → Owns i v → m ≡ (with_lane i (has_taken k (lane_in i v)) v, (i, Blank) ∷ l) → spec.rises (step 0 i 0 0 none) m 0 m' → m' ≡ (with_lane i (has_risen (has_taken k (lane_in i v))) v, l)
  rises_then m m' v l i k o is reported =
      let x : LaneView = has_taken k (lane_in i v) in
      reported ∙ ap (λ (u : (Me (LaneSlot N) DeskView)). (with_lane i (has_risen (lane_in i u.0)) u.0, rest u.1)) is ∙ ap (λ (y : LaneView). (with_lane i (has_risen y) (with_lane i x v), l)) (now_in v i x o) ∙ ap (λ (w : DeskView). (w, l)) (with_twice v i x (has_risen x))

back_after : (v : DeskView) (i : ℕ) (x : LaneView) → IsRound v → (round_in (with_lane i x v)).back ≡ set (round_in v).back i x
back_after v i x e = subst (λ (u : DeskView). (round_in (with_lane i x u)).back ≡ set (round_in u).back i x) (sym e) refl

module _ {N : Type 0} where
  grant_in : (LaneSlot N) → GrantView → GrantView
  grant_in Blank d = d
  grant_in (WithAsk a) d = d
  grant_in (WithGrant g) d = g

  first_slot : List (ℕ × (LaneSlot N)) → (LaneSlot N) → (LaneSlot N)
  first_slot [] d = d
  first_slot (x ∷ xs) d = x.1

  pub same_grant : (l r : List (ℕ × (LaneSlot N))) (i : ℕ) (y : (LaneSlot N)) (g h : GrantView) → l ≡ (i, y) ∷ rest l → l ≡ (i, WithGrant g) ∷ r → y ≡ WithGrant h → g ≡ h
  unfolding grant_in first_slot
  same_grant l r i y g h a b is = ap (λ (x : List (ℕ × (LaneSlot N))). grant_in (first_slot x y) g) (sym b ∙ a) ∙ ap (λ (x : (LaneSlot N)). grant_in x g) is

  pub took_back : (m0 m4 : (Me (LaneSlot N) DeskView)) (lanes : ℕ) (held : List Bool) (i : ℕ) (l : List (ℕ × (LaneSlot N))) (g h : GrantView) → KnowsDesk m0 lanes held → i < length (round_in m0.0).traces → g ≡ h → m4 ≡ (with_lane i (has_risen (has_taken g.octets (lane_in i m0.0))) m0.0, l) → Fits i m0.0 (g.octets ∷ [])
      → ((round_in m4.0).back ≡ set (round_in m0.0).back i (has_risen (has_taken h.octets (get_or (round_in m0.0).back i fresh)))) × ((get_or (round_in m0.0).traces i untraced).posted ≡ (get_or (round_in m0.0).back i fresh).taken ++ h.octets ∷ [])
  took_back m0 m4 lanes held i l g h k near same is fits = subst (λ (x : GrantView). ((round_in m4.0).back ≡ set (round_in m0.0).back i (has_risen (has_taken x.octets (get_or (round_in m0.0).back i fresh)))) × ((get_or (round_in m0.0).traces i untraced).posted ≡ (get_or (round_in m0.0).back i fresh).taken ++ x.octets ∷ [])) same (
    ap (λ (u : (Me (LaneSlot N) DeskView)). (round_in u.0).back) is ∙ back_after m0.0 i (has_risen (has_taken g.octets (lane_in i m0.0))) k.view_is ∙ ap (λ (x : LaneView). set (round_in m0.0).back i (has_risen (has_taken g.octets x))) (lane_is m0.0 i k.view_is),
    ap (λ (t : TraceView). t.posted) (sym (trace_is m0.0 i k.view_is)) ∙ fits (subst (Leads i) (sym k.view_is) near) ∙ ap (λ (x : LaneView). x.taken ++ g.octets ∷ []) (lane_is m0.0 i k.view_is),
  )
