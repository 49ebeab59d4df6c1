-- The desk's beginning and end: seats that are split off the round's and joined to it.
use Rattle.std.proofs.Common.{◌≡◌, ◌≢◌, ℕ, zero, suc, ◌+◌, ◌<◌, ⊎_elim, List, [], ◌∷◌, ◌++◌, length, set, replicate, sym, refl, ap, ◌∙◌, subst, arith, None}
use mathlib.Core.Option.{some, some-injective}
use native.Mathlib.Decide.{ℕ_discrete}
use lib.ListN.{get_elem?, length-map}
use Rattle.atomic_table.specs.Table.{State, opening}
use Rattle.atomic_table.proofs.Lists.{at_set}
use Rattle.world_terms.specs.Lanes.{Lane, Shown, hidden, new_lane}
use Rattle.desk_rule.specs.declared.view.DeskView.{DeskView}
use Rattle.desk_rule.specs.declared.view.DeskView.TheVariants.{Spent, Lane as LaneOf, Round}
use Rattle.desk_rule.specs.declared.view.LaneSlot.{LaneSlot}
use Rattle.desk_rule.specs.declared.view.LaneView.{LaneView}
use Rattle.desk_rule.specs.declared.view.RoundView.{RoundView}
use Rattle.desk_rule.specs.Lanes.{Kept, Knows, KnowsRound, free, fresh, untraced, first_round}
use Rattle.desk_rule.specs.Shown.{shown_in, shown_of}
use Rattle.desk_rule.proofs.Keeps.{at_end, at_replicate, is_free}
use Rattle.round_events.specs.Desk.{OpenedIsNew, lanes_by}

module _ {A : Type 0} where
  pick : {P : Type 0} → Dec P → A → A → A
  pick (yes _) a b = a
  pick (no _) a b = b

  put : (ℕ → A) → ℕ → A → ℕ → A
  put f i c j = pick (ℕ_discrete j i) c (f j)

  put_at : (f : ℕ → A) (i : ℕ) (c : A) (j : ℕ) → j ≡ i → put f i c j ≡ c
  unfolding put pick
  put_at f i c j e = go (ℕ_discrete j i)
    where
      go : (d : Dec (j ≡ i)) → pick d c (f j) ≡ c
      go (yes _) = refl
      go (no n) = absurd (n e)

  put_else : (f : ℕ → A) (i : ℕ) (c : A) (j : ℕ) → j ≢ i → put f i c j ≡ f j
  unfolding put pick
  put_else f i c j n = go (ℕ_discrete j i)
    where
      go : (d : Dec (j ≡ i)) → pick d c (f j) ≡ f j
      go (yes e) = absurd (n e)
      go (no _) = refl

module _ {N : Type 0} (s : State (LaneSlot N) DeskView) (r : Kept s) (id : ℕ) (sh : RoundView) (at : get_elem? s.views id ≡ some (Round sh)) where
  kn : KnowsRound (length s.homes) r.lane r.trace r.owner r.desk r.dealt id sh
  kn = r.each_view id (Round sh) at

  -- a lane that has had no seat gets one
  module _ (room : sh.dealt < length sh.traces) where
    abbrev left : RoundView
    left = record { dealt = sh.dealt + 1; traces = sh.traces; back = sh.back; answering = sh.answering }

    abbrev views' : List DeskView
    views' = set s.views id (Round left)

    abbrev owner' : ℕ → ℕ
    owner' = put r.owner r.dealt (length views')

    deal_else : (j : ℕ) (u : DeskView) → j ≢ id → Knows (length s.homes) r.lane r.trace r.owner r.desk r.dealt j u → Knows (length s.homes) r.lane r.trace owner' r.desk (r.dealt + 1) j u
    deal_else j Spent other k = tt
    deal_else j (LaneOf q y) other k = let h = k.2 in (put_else r.owner r.dealt (length views') q (λ e. omega arith) ∙ k.0, k.1, omega arith)
    deal_else j (Round th) other k = absurd (other (sym k.is_desk ∙ kn.is_desk))

    deal_here : KnowsRound (length s.homes) r.lane r.trace owner' r.desk (r.dealt + 1) id left
    deal_here = record {
      is_desk = kn.is_desk;
      dealt_is = ap (λ (z : ℕ). z + 1) kn.dealt_is;
      wide = kn.wide;
      each_trace = kn.each_trace;
      each_back = λ q y e. let t = kn.each_back q y e in let h = t.2 in (put_else r.owner r.dealt (length views') q (λ f. omega arith) ∙ t.0, t.1, omega arith);
      within = kn.within;
    }

    pub dealt_kept : Kept record { words = s.words; homes = s.homes; views = set s.views id (Round record { dealt = sh.dealt + 1; traces = sh.traces; back = sh.back; answering = sh.answering }) ++ LaneOf sh.dealt fresh ∷ [] }
    dealt_kept = record {
      lane = r.lane;
      trace = r.trace;
      phase = r.phase;
      owner = owner';
      desk = r.desk;
      dealt = r.dealt + 1;
      wide = r.wide;
      few = omega (arith, room, kn.dealt_is, kn.wide);
      new = λ i far. r.new i (omega arith);
      each_lane = r.each_lane;
      each_view = λ j u e. ⊎_elim
          (λ (old : (j < length views') × (get_elem? views' j ≡ some u)). ⊎_elim
          (λ (y : (j ≡ id) × (Round left ≡ u)). subst (λ (z : ℕ × DeskView). Knows (length s.homes) r.lane r.trace owner' r.desk (r.dealt + 1) z.0 z.1) (λ q. (sym y.0 q, y.1 q)) deal_here)
          (λ (y : (j ≢ id) × (get_elem? s.views j ≡ some u)). deal_else j u y.0 (r.each_view j u y.1)) (at_set s.views id j (Round left) u old.1))
          (λ (new : (j ≡ length views') × (LaneOf sh.dealt fresh ≡ u)). subst (λ (z : ℕ × DeskView). Knows (length s.homes) r.lane r.trace owner' r.desk (r.dealt + 1) z.0 z.1) (λ q. (sym new.0 q, new.1 q))
          (put_at r.owner r.dealt (length views') sh.dealt kn.dealt_is, r.new sh.dealt (omega (arith, kn.dealt_is)), omega (arith, kn.dealt_is)))
          (at_end views' (LaneOf sh.dealt fresh) u j e);
    }

    pub dealt_shown : (i : ℕ) → shown_in dealt_kept i ≡ shown_in r i
    unfolding dealt_kept
    dealt_shown i = refl

  -- the next lane's seat comes back
  module _ (other : ℕ) (x : LaneView) (apart : other ≢ id) (there : get_elem? s.views other ≡ some (LaneOf (length sh.back) x)) where
    lane_kn : (r.owner (length sh.back) ≡ other) × (r.lane (length sh.back) ≡ x) × (length sh.back < r.dealt)
    lane_kn = r.each_view other (LaneOf (length sh.back) x) there

    abbrev all_back : RoundView
    all_back = record { dealt = sh.dealt; traces = sh.traces; back = sh.back ++ x ∷ []; answering = sh.answering }

    abbrev owner'' : ℕ → ℕ
    owner'' = put r.owner (length sh.back) id

    join_else : (j : ℕ) (u : DeskView) → j ≢ id → j ≢ other → Knows (length s.homes) r.lane r.trace r.owner r.desk r.dealt j u → Knows (length s.homes) r.lane r.trace owner'' r.desk r.dealt j u
    join_else j Spent a b k = tt
    join_else j (LaneOf q y) a b k = (put_else r.owner (length sh.back) id q (λ e. b (sym k.0 ∙ ap r.owner e ∙ lane_kn.0)) ∙ k.0, k.1, k.2)
    join_else j (Round th) a b k = absurd (a (sym k.is_desk ∙ kn.is_desk))

    join_here : KnowsRound (length s.homes) r.lane r.trace owner'' r.desk r.dealt id all_back
    join_here = record {
      is_desk = kn.is_desk;
      dealt_is = kn.dealt_is;
      wide = kn.wide;
      each_trace = kn.each_trace;
      each_back = λ q y e. ⊎_elim
          (λ (t : (q < length sh.back) × (get_elem? sh.back q ≡ some y)). let k = kn.each_back q y t.1 in let h = t.0 in (put_else r.owner (length sh.back) id q (λ f. omega arith) ∙ k.0, k.1, k.2))
          (λ (t : (q ≡ length sh.back) × (x ≡ y)). (put_at r.owner (length sh.back) id q t.0, ap r.lane t.0 ∙ lane_kn.1 ∙ t.1, subst (λ (z : ℕ). z < r.dealt) (sym t.0) lane_kn.2))
          (at_end sh.back x y q e);
      within = kn.within;
    }

    pub joined_kept : Kept record { words = s.words; homes = s.homes; views = set (set s.views id (Round record { dealt = sh.dealt; traces = sh.traces; back = sh.back ++ x ∷ []; answering = sh.answering })) other Spent }
    joined_kept = record {
      lane = r.lane;
      trace = r.trace;
      phase = r.phase;
      owner = owner'';
      desk = r.desk;
      dealt = r.dealt;
      wide = r.wide;
      few = r.few;
      new = r.new;
      each_lane = r.each_lane;
      each_view = λ j u e. ⊎_elim
          (λ (y : (j ≡ other) × (Spent ≡ u)). subst (λ (z : DeskView). Knows (length s.homes) r.lane r.trace owner'' r.desk r.dealt j z) y.1 tt)
          (λ (z : (j ≢ other) × (get_elem? (set s.views id (Round all_back)) j ≡ some u)). ⊎_elim
          (λ (y : (j ≡ id) × (Round all_back ≡ u)). subst (λ (w : ℕ × DeskView). Knows (length s.homes) r.lane r.trace owner'' r.desk r.dealt w.0 w.1) (λ q. (sym y.0 q, y.1 q)) join_here)
          (λ (y : (j ≢ id) × (get_elem? s.views j ≡ some u)). join_else j u y.0 z.0 (r.each_view j u y.1)) (at_set s.views id j (Round all_back) u z.1))
          (at_set (set s.views id (Round all_back)) other j Spent u e);
    }

    pub joined_shown : (i : ℕ) → shown_in joined_kept i ≡ shown_in r i
    unfolding joined_kept
    joined_shown i = refl

-- ---- a desk that was just opened

pub new_shown : {N : Type 0} (s : State (LaneSlot N) DeskView) (r : Kept s) (k : ℕ) → length s.homes ≡ k → get_elem? s.views 0 ≡ some (Round (first_round k)) → (i : ℕ) → i < k → shown_in r i ≡ new_lane.shown
new_shown s r k long at i less =
    let kn : KnowsRound (length s.homes) r.lane r.trace r.owner r.desk r.dealt 0 (first_round k) = r.each_view 0 (Round (first_round k)) at in
    let dealt : r.dealt ≡ 0 = sym kn.dealt_is in
    let within : i < length s.homes = omega (arith, less, long) in
    let lane : r.lane i ≡ fresh = r.new i (omega (arith, dealt)) in
    let trace : r.trace i ≡ untraced = some-injective _ _ (sym (kn.each_trace i within) ∙ at_replicate k i untraced less) in
    let phase : r.phase i ≡ free = is_free (r.phase i) (sym (ap (λ (x : LaneView). x.state) lane) ∙ (r.each_lane i within).state_is) in
    λ q. shown_of (phase q) (lane q) (trace q)

new_lanes : (f : ℕ → Shown) (j n k : ℕ) → j + n ≡ k → ((i : ℕ) → i < k → f i ≡ new_lane.shown) → lanes_by f j (replicate n (hidden 0 0 None None)) ≡ replicate n new_lane
new_lanes f j zero k e h = refl
new_lanes f j (suc n) k e h = λ q. record { shown = h j (omega (arith, e)) q; hidden = hidden 0 0 None None } ∷ new_lanes f (suc j) n k (omega (arith, e)) h q

pub opened_is_new : (N : Type 0) → OpenedIsNew N
opened_is_new N words slots k long r =
    ap (λ (ls : List Lane). record { lanes = ls; last_tick = None; issued = 0 })
    (new_lanes (shown_in r) 0 k k (omega arith) (new_shown (opening words slots (Round (first_round k))) r k (length-map slots some ∙ long) refl))
