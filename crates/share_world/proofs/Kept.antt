-- What every run keeps, and that what is moved under a name is within the sum of its limits.
use Rattle.std.proofs.Common.{◌≡◌, ◌≢◌, ℕ, zero, suc, ◌+◌, ◌-◌, ◌/◌, ◌≤◌, ◌⊎◌, inl, inr, Bool, true, false, cond, List, [], ◌∷◌, sum, sum_by, sym, refl, ap, ◌∙◌, subst, arith, Option, Some, None, replicate, set}
use Rattle.std.specs.Prelude.{slice_get, nat_eq, Result, Ok, Err}
use Rattle.std.proofs.lemmas.Bool.{or_parts, eq-eqb}
use Rattle.std.proofs.lemmas.Bool.Decides.{eqb_tells}
use Rattle.std.proofs.lemmas.List.Sums.{sum_by-cons}
use Rattle.line_rates.specs.declared.ask.Ask.{Ask}
use Rattle.line_rates.specs.declared.ask.Name.{Name}
use Rattle.line_rates.specs.declared.ask.Name.TheVariants.{Server}
use Rattle.line_rates.specs.Granted.{GrantsKeepNames}
use Rattle.line_rates.specs.Rates.{Rates, rate_of}
use Rattle.line_rates.specs.Ticks.{rate_limit, share_of}
use Rattle.line_rates.specs.TickTree.{bears_in}
use Rattle.world_terms.specs.declared.event.Event.{Event}
use Rattle.world_terms.specs.declared.event.Event.TheVariants as event
use Rattle.world_terms.specs.declared.event.LaneState.{LaneState}
use Rattle.world_terms.specs.declared.event.LaneState.TheVariants as state
use Rattle.world_terms.specs.declared.event.EventAnswer.{EventAnswer}
use Rattle.world_terms.specs.declared.event.EventAnswer.TheVariants as answer
use Rattle.world_terms.specs.declared.fault.StepFault.{StepFault}
use Rattle.world_terms.specs.Decisions.{AreGiven, IsGiven, IsDecision, IsPosted, decided_of, with_amount}
use Rattle.world_terms.specs.Lanes.{World, Lane, hidden, amount, new_lane, new_world}
use Rattle.world_terms.specs.Runs.{TraceEntry, IsRated, Runs, or_else, if_ok, ask_by, grant_tick, last_ask, moved_by, moved_in_all, moved_under, octets_by, has_branch, limits_under, posted_tick, tick_of, tick_or}
use Rattle.world_terms.specs.Steps.{IsChange, Accepts, Step}
use Rattle.world_terms.specs.Sums.{pending, shares}
use Rattle.share_world.specs.Kept.{IsSound}
use Rattle.share_world.specs.Laws.{decided_under}
use Rattle.share_world.proofs.Effects.{Effect, ask_after, effect, granted_after, same_sums, tick_for, timed}
use Rattle.share_world.proofs.Grants.{EachPosted, posted_all, given_at, given_case, given_ask, Adds, given_sum, cond_zero, keeps_limits, none_decided}

-- what is pending for a lane whose ask bears the name by the rates of a tick: that of the last decision if the lane is in Round, else that of its grant
abbrev pub held : (ℕ → Rates) → Name → ℕ → ℕ → Lane → ℕ
held r n deciding granted l = cond (bears_in (r (tick_for l.shown.state deciding granted)) n l.shown.ask) (pending l) 0

-- the same for the lanes, of which the first has number k
abbrev pub held_from : (ℕ → Rates) → Name → ℕ → (ℕ → ℕ) → ℕ → List Lane → ℕ
held_from r n deciding granted k [] = 0
held_from r n deciding granted k (l ∷ ls) = held r n deciding (granted k) l + held_from r n deciding granted (suc k) ls

abbrev pub held_in : (ℕ → Rates) → Name → List TraceEntry → World → ℕ
held_in r n past w = held_from r n (tick_or w.last_tick) (λ i. grant_tick i past) 0 w.lanes

-- other grants with the same ticks
held_same : (r : ℕ → Rates) (n : Name) (d : ℕ) (g h : ℕ → ℕ) (k : ℕ) (ls : List Lane) → ((j : ℕ) → k ≤ j → h j ≡ g j) → held_from r n d h k ls ≡ held_from r n d g k ls
held_same r n d g h k [] same = refl
held_same r n d g h k (l ∷ ls) same = omega (arith, ap (λ (t : ℕ). held r n d t l) (same k (omega arith)), held_same r n d g h (suc k) ls (λ j less. same j (omega arith)))

-- one lane has changed
held_set : (r : ℕ → Rates) (n : Name) (d : ℕ) (g h : ℕ → ℕ) (k : ℕ) (ls : List Lane) (i at : ℕ) (l m : Lane) (less : ℕ) → at ≡ k + i → slice_get ls i ≡ Some l → ((j : ℕ) → j ≢ at → h j ≡ g j)
    → held r n d (h at) m + less ≤ held r n d (g at) l → held_from r n d h k (set ls i m) + less ≤ held_from r n d g k ls
held_set r n d g h k [] i at l m less is e same one = absurd (cc)
held_set r n d g h k (x ∷ ls) zero at l m less is e same one =
    let here : at ≡ k = omega arith in
    let old : l ≡ x = cc in
    let now : held r n d (h k) m + less ≤ held r n d (g k) x = subst (λ (y : ℕ × Lane). held r n d (h y.0) m + less ≤ held r n d (g y.0) y.1) (λ q. (here q, old q)) one in
    omega (arith, held_same r n d g h (suc k) ls (λ j above. same j (λ q. omega arith)))
held_set r n d g h k (x ∷ ls) (suc i) at l m less is e same one =
    omega (
      arith,
      ap (λ (t : ℕ). held r n d t x) (same k (λ q. omega arith)),
      held_set r n d g h (suc k) ls i at l m less (omega arith) e same one,
    )

-- sums after one lane has changed
pub sum_set : (f : Lane → ℕ) (ls : List Lane) (i : ℕ) (l m : Lane) → slice_get ls i ≡ Some l → sum_by f (set ls i m) + f l ≡ sum_by f ls + f m
sum_set f [] i l m e = absurd (cc)
sum_set f (x ∷ ls) zero l m e =
    let same : f x ≡ f l = ap f (let s : x ≡ l = cc in s) in
    omega (arith, sum_by-cons f x ls, sum_by-cons f m ls)
sum_set f (x ∷ ls) (suc i) l m e = omega (arith, sum_set f ls i l m e, sum_by-cons f x ls, sum_by-cons f x (set ls i m))

-- a lane after one has changed
pub get_set : (ls : List Lane) (i j : ℕ) (m x : Lane) → slice_get (set ls i m) j ≡ Some x → ((j ≡ i) × (x ≡ m)) ⊎ ((j ≢ i) × (slice_get ls j ≡ Some x))
get_set [] i j m x e = absurd (cc)
get_set (y ∷ ls) zero zero m x e = inl (refl, cc)
get_set (y ∷ ls) zero (suc j) m x e = inr (omega arith, e)
get_set (y ∷ ls) (suc i) zero m x e = inr (omega arith, e)
get_set (y ∷ ls) (suc i) (suc j) m x e = elim (get_set ls i j m x e) [
  | inl h ↦ inl (ap suc h.0, h.1)
  | inr h ↦ inr (let ne : j ≢ i = h.0 in omega arith, h.1)
]

-- what holds after the events of the past
pub record Kept (r : ℕ → Rates) (past : List TraceEntry) (w : World) : Type 0 where
  pub sound : (i : ℕ) (l : Lane) → slice_get w.lanes i ≡ Some l → IsSound l
  pub asks : (i : ℕ) (l : Lane) → slice_get w.lanes i ≡ Some l → last_ask i past ≡ l.shown.ask
  pub within : (n : Name) → IsRated r n past → moved_under r n past + held_in r n past w ≤ limits_under r n past
  pub issued : w.issued ≡ sum_by shares w.lanes

-- the new world
pub is_new : (k i : ℕ) (l : Lane) → slice_get (replicate k new_lane) i ≡ Some l → l ≡ new_lane
is_new zero i l e = absurd (cc)
is_new (suc k) zero l e = cc
is_new (suc k) (suc i) l e = is_new k i l e

new_sound : IsSound new_lane
new_sound = record { waiting = []; posted_is = refl; waits = refl; in_hand = λ ne. refl; in_round = λ ne. refl; taken_is = refl; unasked = λ e. (refl, tt) }

new_held : (r : ℕ → Rates) (n : Name) (d : ℕ) (g : ℕ → ℕ) (i k : ℕ) → held_from r n d g i (replicate k new_lane) ≡ 0
new_held r n d g i zero = refl
new_held r n d g i (suc k) = omega (arith, new_held r n d g (suc i) k)

new_shares : (k : ℕ) → sum_by shares (replicate k new_lane) ≡ 0
new_shares zero = refl
new_shares (suc k) = omega (arith, new_shares k, sum_by-cons shares new_lane (replicate k new_lane))

kept_new : (r : ℕ → Rates) (k : ℕ) → Kept r [] (new_world k)
kept_new r k = record {
  sound = λ i l e. subst IsSound (sym (is_new k i l e)) new_sound;
  asks = λ i l e. ap (λ (x : Lane). x.shown.ask) (sym (is_new k i l e));
  within = λ n h. let none : held_in r n [] (new_world k) ≡ 0 = new_held r n 0 (λ i. 0) 0 k in omega arith;
  issued = sym (new_shares k);
}

-- one lane's part under a name
cut_le : (b : Bool) (x k y : ℕ) → x + k ≤ y → cond b x 0 + cond b k 0 ≤ cond b y 0
cut_le true x k y h = omega arith
cut_le false x k y h = omega arith

none_le : (a b : Bool) (x k y : ℕ) → x + k ≡ 0 → cond a x 0 + cond b k 0 ≤ cond b y 0
none_le true true x k y h = omega arith
none_le true false x k y h = omega arith
none_le false true x k y h = omega arith
none_le false false x k y h = omega arith

less_held : (r : ℕ → Rates) (n : Name) (ask : Option Ask) (k d g h : ℕ) (l m : Lane) → Effect ask k l m → (tick_for m.shown.state d h ≡ tick_for l.shown.state d g) ⊎ (pending m + k ≡ 0)
    → held r n d h m + cond (bears_in (r (tick_for l.shown.state d g)) n l.shown.ask) k 0 ≤ held r n d g l
less_held r n ask k d g h l m f t = by_tick t f.less
  where
    by_tick : (tick_for m.shown.state d h ≡ tick_for l.shown.state d g) ⊎ (pending m + k ≡ 0) → (m.shown.ask ≡ l.shown.ask) ⊎ (pending m + k ≡ 0) → held r n d h m + cond (bears_in (r (tick_for l.shown.state d g)) n l.shown.ask) k 0 ≤ held r n d g l
    by_tick (inl same) (inl e) =
        let is : held r n d h m ≡ cond (bears_in (r (tick_for l.shown.state d g)) n l.shown.ask) (pending m) 0 = (λ q. cond (bears_in (r (same q)) n (e q)) (pending m) 0) in
        let cut = cut_le (bears_in (r (tick_for l.shown.state d g)) n l.shown.ask) (pending m) k (pending l) f.most in
        omega arith
    by_tick (inr z) x = none_le (bears_in (r (tick_for m.shown.state d h)) n m.shown.ask) (bears_in (r (tick_for l.shown.state d g)) n l.shown.ask) (pending m) k (pending l) z
    by_tick t (inr z) = none_le (bears_in (r (tick_for m.shown.state d h)) n m.shown.ask) (bears_in (r (tick_for l.shown.state d g)) n l.shown.ask) (pending m) k (pending l) z

-- a change of one lane keeps it all
abbrev pub entry : World → Event → EventAnswer → TraceEntry
entry w e a = record { before = w; event = e; reply = Ok a }

-- what an event moves under a name is of the lane's ask, by the rates of the tick of what is pending
abbrev Quiet : (ℕ → Rates) → List TraceEntry → World → Event → ℕ → Lane → Type 0
Quiet r past w e i l = (n : Name) → moved_by r n e past ≤ cond (bears_in (r (tick_for l.shown.state (tick_or w.last_tick) (grant_tick i past))) n l.shown.ask) (octets_by e) 0

step_change : (r : ℕ → Rates) (past : List TraceEntry) (w : World) (ev : Event) (a : EventAnswer) (i : ℕ) (end : World) → Kept r past w → (c : IsChange w i ev a end) → Quiet r past w ev i c.before
    → ((l : Lane) → ask_after ev l.shown.ask ≡ or_else (ask_by i ev) l.shown.ask) → ((j : ℕ) → j ≢ i → ask_by j ev ≡ None)
    → posted_tick i ev w (grant_tick i past) ≡ granted_after ev (tick_or w.last_tick) (grant_tick i past) → ((j : ℕ) → j ≢ i → posted_tick j ev w (grant_tick j past) ≡ grant_tick j past) → Kept r (entry w ev a ∷ past) end
step_change r past w ev a i end k c quiet own others ticks still =
    let f : Effect (ask_after ev c.before.shown.ask) (octets_by ev) c.before c.after = effect ev a c.before c.after c.step.0 c.step.1 (k.sound i c.before c.there) in
    let t = timed ev a c.before c.after (tick_or w.last_tick) (grant_tick i past) c.step.0 c.step.1 (k.sound i c.before c.there) in
    subst (Kept r (entry w ev a ∷ past)) (sym c.rest) (record {
      sound = λ j l e. elim (get_set w.lanes i j c.after l e) [ inl h ↦ subst IsSound (sym h.1) f.sound | inr h ↦ k.sound j l h.1 ];
      asks = λ j l e. elim (get_set w.lanes i j c.after l e) [
        | inl h ↦ ap (λ (n : ℕ). or_else (ask_by n ev) (last_ask n past)) h.0 ∙ ap (or_else (ask_by i ev)) (k.asks i c.before c.there) ∙ sym (own c.before) ∙ sym f.ask_is ∙ ap (λ (y : Lane). y.shown.ask) (sym h.1)
        | inr h ↦ ap (λ (o : Option Ask). or_else o (last_ask j past)) (others j h.0) ∙ k.asks j l h.1
      ];
      within = λ n h.
          let old : moved_under r n past + held_in r n past w ≤ limits_under r n past = k.within n h.1 in
          let one : held r n (tick_or w.last_tick) (granted_after ev (tick_or w.last_tick) (grant_tick i past)) c.after + cond (bears_in (r (tick_for c.before.shown.state (tick_or w.last_tick) (grant_tick i past))) n c.before.shown.ask) (octets_by ev) 0 ≤ held r n (tick_or w.last_tick) (grant_tick i past) c.before =
          less_held r n (ask_after ev c.before.shown.ask) (octets_by ev) (tick_or w.last_tick) (grant_tick i past) (granted_after ev (tick_or w.last_tick) (grant_tick i past)) c.before c.after f t in
          let after : held r n (tick_or w.last_tick) (grant_tick i (entry w ev a ∷ past)) c.after + moved_by r n ev past ≤ held r n (tick_or w.last_tick) (grant_tick i past) c.before =
          omega (arith, quiet n, ap (λ (g : ℕ). held r n (tick_or w.last_tick) g c.after) ticks) in
          let sums : held_in r n (entry w ev a ∷ past) (record { lanes = set w.lanes i c.after; last_tick = w.last_tick; issued = w.issued }) + moved_by r n ev past ≤ held_in r n past w =
          held_set r n (tick_or w.last_tick) (λ j. grant_tick j past) (λ j. grant_tick j (entry w ev a ∷ past)) 0 w.lanes i i c.before c.after (moved_by r n ev past) (let z : i ≡ 0 + i = omega arith in z) c.there still after in
          omega arith;
      issued =
          let set_is : sum_by shares (set w.lanes i c.after) + shares c.before ≡ sum_by shares w.lanes + shares c.after = sum_set shares w.lanes i c.before c.after c.there in
          let same : shares c.after ≡ shares c.before = f.kept in
          let old : w.issued ≡ sum_by shares w.lanes = k.issued in
          omega arith;
    })

given_sound : (l m : Lane) → IsSound l → IsGiven l m → IsSound m
given_sound l m s g = given_case IsSound l m g
    (λ n here. record { waiting = s.waiting; posted_is = s.posted_is; waits = s.waits; in_hand = s.in_hand; in_round = λ ne. absurd (ne here); taken_is = s.taken_is; unasked = s.unasked })
    (λ there. s)

-- a lane before and after a decision in this tick
held_adds : (r : ℕ → Rates) (n : Name) (d tick g : ℕ) (l m : Lane) → IsSound l → IsPosted l → IsGiven l m → held r n tick g m ≡ held r n d g l + decided_under (r tick) n m
held_adds r n d tick g l m s none (inl x) =
    let z : decided_of l ≡ 0 = ap amount none in
    let rest : sum l.shown.posted ≡ sum l.shown.taken = ap sum (same_sums l s (λ e. let no : state.Round ≡ state.Granted = sym x.0.0 ∙ e in cc)) in
    let hand : amount l.hidden.hand ≡ 0 = ap amount (s.in_hand (λ e. let no : state.Round ≡ state.Worker = sym x.0.0 ∙ e in cc)) in
    let old : held r n d g l ≡ 0 = cond_zero (bears_in (r (tick_for l.shown.state d g)) n l.shown.ask) (pending l) (omega arith) in
    let new : pending (with_amount x.1.0 l) ≡ x.1.0 = omega arith in
    let is : held r n tick g (with_amount x.1.0 l) ≡ decided_under (r tick) n (with_amount x.1.0 l) =
    (λ q. cond (bears_in (r (tick_for (x.0.0 q) tick g)) n l.shown.ask) (new q) 0) in
    subst (λ (y : Lane). held r n tick g y ≡ held r n d g l + decided_under (r tick) n y) (sym x.1.1) (omega arith)
held_adds r n d tick g l m s none (inr x) =
    let z : decided_under (r tick) n l ≡ 0 = cond_zero (bears_in (r tick) n l.shown.ask) (decided_of l) (ap amount none) in
    let same : held r n tick g l ≡ held r n d g l = ap (λ (t : ℕ). cond (bears_in (r t) n l.shown.ask) (pending l) 0) (not_round l.shown.state tick d g x.0) in
    subst (λ (y : Lane). held r n tick g y ≡ held r n d g l + decided_under (r tick) n y) (sym x.1) (omega arith)
  where
    not_round : (p : LaneState) (tick d g : ℕ) → p ≢ state.Round → tick_for p tick g ≡ tick_for p d g
    not_round state.Free tick d g ne = refl
    not_round state.Worker tick d g ne = refl
    not_round state.Asked tick d g ne = refl
    not_round state.Round tick d g ne = absurd (ne refl)
    not_round state.Granted tick d g ne = refl

held_given : (r : ℕ → Rates) (n : Name) (d tick : ℕ) (g : ℕ → ℕ) (k : ℕ) (ls ms : List Lane) → ((i : ℕ) (l : Lane) → slice_get ls i ≡ Some l → IsSound l) → EachPosted ls → AreGiven ls ms
    → held_from r n tick g k ms ≡ held_from r n d g k ls + sum_by (decided_under (r tick) n) ms
held_given r n d tick g k [] [] s p x = refl
held_given r n d tick g k (l ∷ ls) (m ∷ ms) s p x =
    omega (
      arith,
      held_adds r n d tick (g k) l m (s 0 l refl) p.0 x.0,
      held_given r n d tick g (suc k) ls ms (λ i y e. s (suc i) y e) p.1 x.1,
      sum_by-cons (decided_under (r tick) n) m ms,
    )
held_given r n d tick g k [] (m ∷ ms) s p x = absurd x
held_given r n d tick g k (l ∷ ls) [] s p x = absurd x

pub shares_add : Adds shares decided_of
shares_add l m none g = given_case (λ (x : Lane). shares x ≡ shares l + decided_of x) l m g
    (λ k here. let z : decided_of l ≡ 0 = ap amount none in omega arith)
    (λ there. let z : decided_of l ≡ 0 = ap amount none in omega arith)

has_limit : (rate tick : ℕ) → rate ≢ 0 → rate_limit rate tick ≡ Some (share_of rate tick)
has_limit rate tick ne = elim (eqb_tells rate 0) [ inl h ↦ absurd (ne h.1) | inr h ↦ ap (λ (b : Bool). cond b None (Some (share_of rate tick))) h.0 ]

-- what is decided under a name is within its limit
decided_within : GrantsKeepNames → (r : Rates) (n : Name) (w : World) (m tick total : ℕ) (end : World) → EachPosted w.lanes → IsDecision r w m tick total end → rate_of r n ≢ 0
    → (b : Bool) → has_branch r n w ≡ b → sum_by (decided_under r n) end.lanes ≤ cond b (share_of (rate_of r n) tick) 0
decided_within law r n w m tick total end p d ne true h = keeps_limits law r tick w.lanes end.lanes d.shared n (share_of (rate_of r n) tick) (has_limit (rate_of r n) tick ne)
decided_within law r n w m tick total end p d ne false h = omega (arith, none_decided r n 0 w.lanes end.lanes p d.shared.given ((or_parts _ _ h).1))

step_decide : GrantsKeepNames → (r : ℕ → Rates) (past : List TraceEntry) (w : World) (m tick total : ℕ) (end : World) → Kept r past w → IsDecision (r (m / 100)) w m tick total end
    → Kept r (entry w (event.Decide m) (answer.Decided tick total) ∷ past) end
step_decide law r past w m tick total end k d = let posted : EachPosted w.lanes = posted_all w.lanes d.ready.posted in record {
  sound = λ i l e. let g : (x : Lane) × (slice_get w.lanes i ≡ Some x) × IsGiven x l = given_at w.lanes end.lanes i l d.shared.given e in given_sound g.0 l (k.sound i g.0 g.1) g.2;
  asks = λ i l e. let g : (x : Lane) × (slice_get w.lanes i ≡ Some x) × IsGiven x l = given_at w.lanes end.lanes i l d.shared.given e in k.asks i g.0 g.1 ∙ sym (given_ask g.0 l g.2);
  within = λ n h.
      let old : moved_under r n past + held_in r n past w ≤ limits_under r n past = k.within n h.1 in
      let more : held_from r n (m / 100) (λ i. grant_tick i past) 0 end.lanes ≡ held_in r n past w + sum_by (decided_under (r (m / 100)) n) end.lanes =
      held_given r n (tick_or w.last_tick) (m / 100) (λ i. grant_tick i past) 0 w.lanes end.lanes k.sound posted d.shared.given in
      let at : tick_or end.last_tick ≡ m / 100 = ap tick_or d.last_is ∙ d.tick_is in
      let moved : held_in r n (entry w (event.Decide m) (answer.Decided tick total) ∷ past) end ≡ held_from r n (m / 100) (λ i. grant_tick i past) 0 end.lanes =
      ap (λ (t : ℕ). held_from r n t (λ i. grant_tick i past) 0 end.lanes) at in
      let most : sum_by (decided_under (r (m / 100)) n) end.lanes ≤ cond (has_branch (r (m / 100)) n w) (share_of (rate_of (r (m / 100)) n) tick) 0 = decided_within law (r (m / 100)) n w m tick total end posted d h.0 (has_branch (r (m / 100)) n w) refl in
      omega arith;
  issued =
      let more : sum_by shares end.lanes ≡ sum_by shares w.lanes + sum_by decided_of end.lanes = given_sum shares decided_of shares_add w.lanes end.lanes posted d.shared.given in
      let old : w.issued ≡ sum_by shares w.lanes = k.issued in
      let now : end.issued ≡ w.issued + total = d.issued_is in
      let is : total ≡ sum_by decided_of end.lanes = d.total_is in
      omega arith;
}

other : (i j : ℕ) (a : Ask) → j ≢ i → cond (nat_eq i j) (Some a) None ≡ None
other i j a ne = elim (eqb_tells i j) [ inl h ↦ absurd (ne (sym h.1)) | inr h ↦ ap (λ (b : Bool). cond b (Some a) None) h.0 ]

mine : (i : ℕ) (a : Ask) (o : Option Ask) → Some a ≡ or_else (cond (nat_eq i i) (Some a) None) o
mine i a o = sym (ap (λ (b : Bool). or_else (cond b (Some a) None) o) (eq-eqb i i refl))

posted_own : (i d g : ℕ) → cond (nat_eq i i) d g ≡ d
posted_own i d g = ap (λ (b : Bool). cond b d g) (eq-eqb i i refl)

posted_other : (i j d g : ℕ) → j ≢ i → cond (nat_eq i j) d g ≡ g
posted_other i j d g ne = elim (eqb_tells i j) [ inl h ↦ absurd (ne (sym h.1)) | inr h ↦ ap (λ (b : Bool). cond b d g) h.0 ]

hand_tick : (p : LaneState) (d g : ℕ) → p ≢ state.Round → tick_for p d g ≡ g
hand_tick state.Free d g ne = refl
hand_tick state.Worker d g ne = refl
hand_tick state.Asked d g ne = refl
hand_tick state.Round d g ne = absurd (ne refl)
hand_tick state.Granted d g ne = refl

-- a lane that has something in hand is not in Round
moves_own : (r : ℕ → Rates) (past : List TraceEntry) (w : World) (i n : ℕ) (a : EventAnswer) (end : World) → Kept r past w → (c : IsChange w i (event.Moved i n) a end) → (name : Name)
    → moved_by r name (event.Moved i n) past ≤ cond (bears_in (r (tick_for c.before.shown.state (tick_or w.last_tick) (grant_tick i past))) name c.before.shown.ask) n 0
moves_own r past w i n a end k c name =
    let h : (h : ℕ) × (c.before.hidden.hand ≡ Some h) × (n ≤ h) × (c.after.hidden ≡ hidden (c.before.hidden.moved + n) (c.before.hidden.back + (h - n)) None c.before.hidden.decided) = c.step.1 in
    let idle : c.before.shown.state ≢ state.Round = λ e. let none : c.before.hidden.hand ≡ None = (k.sound i c.before c.there).in_hand (λ f. let no : state.Round ≡ state.Worker = sym e ∙ f in cc) in cc in
    let at : tick_for c.before.shown.state (tick_or w.last_tick) (grant_tick i past) ≡ grant_tick i past = hand_tick c.before.shown.state (tick_or w.last_tick) (grant_tick i past) idle in
    let same : moved_by r name (event.Moved i n) past ≡ cond (bears_in (r (tick_for c.before.shown.state (tick_or w.last_tick) (grant_tick i past))) name c.before.shown.ask) n 0 =
    (λ q. cond (bears_in (r (sym at q)) name (k.asks i c.before c.there q)) n 0) in
    omega arith

step : GrantsKeepNames → (r : ℕ → Rates) (past : List TraceEntry) (w : World) (e : Event) (a : EventAnswer) (end : World) → Kept r past w → Accepts (r (tick_of e)) w e a end → Kept r (entry w e a ∷ past) end
step law r past w (event.Sit i) a end k c = step_change r past w (event.Sit i) a i end k c (λ n. omega arith) (λ l. refl) (λ j ne. refl) refl (λ j ne. refl)
step law r past w (event.Asked i b) a end k c = step_change r past w (event.Asked i b) a i end k c (λ n. omega arith) (λ l. mine i b l.shown.ask) (λ j ne. other i j b ne) refl (λ j ne. refl)
step law r past w (event.Collect i) a end k c = step_change r past w (event.Collect i) a i end k c.1 (λ n. omega arith) (λ l. refl) (λ j ne. refl) refl (λ j ne. refl)
step law r past w (event.Decide m) (answer.Decided t s) end k c = step_decide law r past w m t s end k c
step law r past w (event.Post i) a end k c = step_change r past w (event.Post i) a i end k c (λ n. omega arith) (λ l. refl) (λ j ne. refl)
    (posted_own i (tick_or w.last_tick) (grant_tick i past)) (λ j ne. posted_other i j (tick_or w.last_tick) (grant_tick j past) ne)
step law r past w (event.Taken i) a end k c = step_change r past w (event.Taken i) a i end k c (λ n. omega arith) (λ l. refl) (λ j ne. refl) refl (λ j ne. refl)
step law r past w (event.Moved i n) a end k c = step_change r past w (event.Moved i n) a i end k c
    (moves_own r past w i n a end k c)
    (λ l. refl) (λ j ne. refl) refl (λ j ne. refl)
step law r past w (event.Rise i) a end k c = step_change r past w (event.Rise i) a i end k c (λ n. omega arith) (λ l. refl) (λ j ne. refl) refl (λ j ne. refl)
step law r past w e a end k c = absurd c

-- a refused event changes nothing
replied : GrantsKeepNames → (r : ℕ → Rates) (past : List TraceEntry) (w : World) (e : Event) (reply : Result EventAnswer StepFault) (end : World) → Kept r past w → Step (r (tick_of e)) w e reply end → Kept r (record { before = w; event = e; reply = reply } ∷ past) end
replied law r past w e (Ok a) end k s = step law r past w e a end k s
replied law r past w e (Err f) end k s = subst (Kept r (record { before = w; event = e; reply = Err f } ∷ past)) (sym s.0) (record { sound = k.sound; asks = k.asks; within = λ n h. let old : moved_under r n past + held_in r n past w ≤ limits_under r n past = k.within n h.1 in let same : held_in r n (record { before = w; event = e; reply = Err f } ∷ past) w ≡ held_in r n past w = refl in omega arith; issued = k.issued })

pub kept_by_runs : GrantsKeepNames → (r : ℕ → Rates) (k : ℕ) (past : List TraceEntry) (end : World) → Runs r (new_world k) past end → Kept r past end
kept_by_runs law r k [] end e = subst (Kept r []) (sym e) (kept_new r k)
kept_by_runs law r k (x ∷ past) end e = replied law r past x.before x.event x.reply end (kept_by_runs law r k past x.before e.0) e.1

pub moved_within : GrantsKeepNames → (rates : ℕ → Rates) (k : ℕ) (past : List TraceEntry) (end : World) (n : Name) → Runs rates (new_world k) past end
    → IsRated rates n past → moved_under rates n past ≤ limits_under rates n past
moved_within law r k past end n e h = omega (arith, (kept_by_runs law r k past end e).within n h)

-- ---- what is moved in all

-- a lane that has something in hand has asked
server_bears : (r : Rates) (l : Lane) (h : ℕ) → IsSound l → l.hidden.hand ≡ Some h → (o : Option Ask) → l.shown.ask ≡ o → bears_in r Server o ≡ true
server_bears r l h s e (Some a) asks = refl
server_bears r l h s e None asks = absurd (let none : l.hidden.hand ≡ None = (s.unasked asks).0 in cc)

moved_here : (r : ℕ → Rates) (past : List TraceEntry) (w : World) (i n : ℕ) (a : EventAnswer) (end : World) → Kept r past w → IsChange w i (event.Moved i n) a end → cond (bears_in (r (grant_tick i past)) Server (last_ask i past)) n 0 ≡ n
moved_here r past w i n a end k c =
    let h : (h : ℕ) × (c.before.hidden.hand ≡ Some h) × (n ≤ h) × (c.after.hidden ≡ hidden (c.before.hidden.moved + n) (c.before.hidden.back + (h - n)) None c.before.hidden.decided) = c.step.1 in
    let bears : bears_in (r (grant_tick i past)) Server (last_ask i past) ≡ true = server_bears (r (grant_tick i past)) c.before h.0 (k.sound i c.before c.there) h.1 (last_ask i past) (sym (k.asks i c.before c.there)) in
    ap (λ (b : Bool). cond b n 0) bears

moved_then : (r : ℕ → Rates) (past : List TraceEntry) (w : World) (e : Event) (a : EventAnswer) (end : World) → Kept r past w → Accepts (r (tick_of e)) w e a end → moved_by r Server e past ≡ octets_by e
moved_then r past w (event.Sit i) a end k c = refl
moved_then r past w (event.Asked i b) a end k c = refl
moved_then r past w (event.Collect i) a end k c = refl
moved_then r past w (event.Decide m) a end k c = refl
moved_then r past w (event.Post i) a end k c = refl
moved_then r past w (event.Taken i) a end k c = refl
moved_then r past w (event.Moved i n) a end k c = moved_here r past w i n a end k c
moved_then r past w (event.Rise i) a end k c = refl

moved_reply : (r : ℕ → Rates) (past : List TraceEntry) (w : World) (e : Event) (reply : Result EventAnswer StepFault) (end : World) → Kept r past w → Step (r (tick_of e)) w e reply end
    → if_ok reply 0 (λ a. moved_by r Server e past) ≡ if_ok reply 0 (λ a. octets_by e)
moved_reply r past w e (Ok a) end k s = moved_then r past w e a end k s
moved_reply r past w e (Err f) end k s = refl

moved_server : GrantsKeepNames → (r : ℕ → Rates) (k : ℕ) (past : List TraceEntry) (end : World) → Runs r (new_world k) past end → moved_in_all past ≡ moved_under r Server past
moved_server law r k [] end e = refl
moved_server law r k (x ∷ past) end e = omega (arith, moved_server law r k past x.before e.0, moved_reply r past x.before x.event x.reply end (kept_by_runs law r k past x.before e.0) e.1)

pub moved_all : GrantsKeepNames → (r : ℕ → Rates) (k : ℕ) (past : List TraceEntry) (end : World) → Runs r (new_world k) past end → IsRated r Server past → moved_in_all past ≤ limits_under r Server past
moved_all law r k past end e h = omega (arith, moved_within law r k past end Server e h, moved_server law r k past end e)
