-- The lanes after a round: each is as the round leaves it.
use Rattle.std.proofs.Common.{◌≡◌, ℕ, zero, suc, ◌<◌, Bool, List, [], ◌∷◌, ◌++◌, length, get_or, sym, refl, ap, ◌∙◌, subst, arith, Option, Some, None, slice_get}
use Rattle.std.proofs.lemmas.Option.{same_Some, slice_get_within}
use Rattle.line_rates.specs.declared.ask.Ask.{Ask}
use Rattle.world_terms.specs.declared.event.LaneState.TheVariants as state
use Rattle.world_terms.specs.Lanes.{Lane, amount, hidden, shown}
use Rattle.desk_rule.specs.declared.view.TraceView.{TraceView}
use Rattle.lane_desk.specs.Posted.{trace_at}
use Rattle.round_events.specs.Worlds.{AreFoundOn, AreLeft, AreShownBy, IsFoundOn, IsLeft, IsShownBy, answered_lane}
use Rattle.round_events.proofs.Deciding.{Once}
use Rattle.round_events.proofs.Found.{AreFound}
use Rattle.round_events.proofs.Posts.{AreWaiting, WaitsFor, granted, length-posted, posted, posted_at, posted_else}

-- a lane whose ask the round has, with an amount decided for it or none
abbrev pub waiting_lane : Option ℕ → Lane → Lane
waiting_lane d l = record {
  shown = shown state.Round l.shown.ask l.shown.posted l.shown.taken;
  hidden = hidden l.hidden.moved l.hidden.back l.hidden.hand d;
}

-- a lane before the round, and before its answer
abbrev pub IsReadyFor : Option ℕ → Option Ask → Lane → Lane → Type 0
IsReadyFor d None l m = m ≡ l
IsReadyFor d (Some a) l m = m ≡ waiting_lane d l

waiting_from : (is ns : List ℕ) (ls : List Lane) → length is ≡ length ns → Once is → ((j : ℕ) → j < length is → WaitsFor (get_or ns j 0) (get_or is j 0) ls) → AreWaiting is ns ls
waiting_from [] [] ls e once h = tt
waiting_from [] (n ∷ ns) ls e once h = absurd (omega (arith, e))
waiting_from (i ∷ is) [] ls e once h = absurd (omega (arith, e))
waiting_from (i ∷ is) (n ∷ ns) ls e once h = (h 0 (omega arith), once.0, waiting_from is ns ls (omega (arith, e)) once.1 (λ j less. h (suc j) (omega arith)))

pub found_within : (found : List (Option Ask)) (i : ℕ) (a : Ask) → get_or found i None ≡ Some a → i < length found
found_within [] i a e = absurd (cc)
found_within (o ∷ found) zero a e = omega arith
found_within (o ∷ found) (suc i) a e = omega (arith, found_within found i a e)

lane_there : (ls : List Lane) (i : ℕ) → i < length ls → (l : Lane) × (slice_get ls i ≡ Some l)
lane_there [] i h = absurd (omega arith)
lane_there (l ∷ ls) zero h = (l, refl)
lane_there (l ∷ ls) (suc i) h = lane_there ls i (omega arith)

waits_at : (n i : ℕ) (d : Option ℕ) (o : Option Ask) (a : Ask) (ls ms : List Lane) → n ≡ amount d → o ≡ Some a → (l : Lane) → (k : (m : Lane) × (slice_get ms i ≡ Some m) × IsReadyFor d o l m) → WaitsFor n i ms
waits_at n i d o a ls ms e f l k =
    let is : k.0 ≡ waiting_lane d l = subst (λ (p : Option Ask). IsReadyFor d p l k.0) f k.2 in
    record { lane = k.0; there = k.1; round = ap (λ (m : Lane). m.shown.state) is; amount_is = e ∙ sym (ap (λ (m : Lane). amount m.hidden.decided) is) }

module _ (given : ℕ → Bool) (found : List (Option Ask)) (old new : List TraceView) (ls ms : List Lane) (lanes amounts : List ℕ) (d : ℕ → Option ℕ)
    (before : AreShownBy old ls) (on : AreFoundOn given found ls) (wide : length found ≡ length ls) (still : length new ≡ length old) (are : AreFound found lanes)
    (ready : (i : ℕ) (l : Lane) → slice_get ls i ≡ Some l → (m : Lane) × (slice_get ms i ≡ Some m) × IsReadyFor (d i) (get_or found i None) l m)
    (long : length lanes ≡ length amounts) (same : length ms ≡ length ls)
    (amount_is : (j : ℕ) → j < length lanes → get_or amounts j 0 ≡ amount (d (get_or lanes j 0))) where
  pub waiting : AreWaiting lanes amounts ms
  waiting = waiting_from lanes amounts ms long are.once (λ j less.
      let i : ℕ = get_or lanes j 0 in
      let some = are.some j less in
      let there = lane_there ls i (omega (arith, wide, found_within found i some.0 some.1)) in
      waits_at (get_or amounts j 0) i (d i) (get_or found i None) some.0 ls ms (amount_is j less) some.1 there.0 (ready i there.0 there.1))

  module _ (unreported : (i : ℕ) → i < length old → get_or found i None ≡ None → (trace_at new i).posted ≡ (trace_at old i).posted)
      (reported : (j : ℕ) → j < length lanes → (trace_at new (get_or lanes j 0)).posted ≡ (trace_at old (get_or lanes j 0)).posted ++ get_or amounts j 0 ∷ []) where
    answered : (i n : ℕ) (a : Ask) (l m : Lane) → IsFoundOn (given i) (Some a) l → IsShownBy (trace_at old i) l → m ≡ granted n (waiting_lane (d i) l) → (trace_at new i).posted ≡ (trace_at old i).posted ++ n ∷ [] → m ≡ answered_lane a (trace_at new i) l
    answered i n a l m f s e posts = e ∙ (λ q. record {
      shown = shown state.Granted (f.1 q) ((ap (λ (ps : List ℕ). ps ++ n ∷ []) s.posted ∙ sym posts) q) l.shown.taken;
      hidden = hidden l.hidden.moved l.hidden.back l.hidden.hand (sym s.settled q);
    })

    left_at : (i : ℕ) (l : Lane) (o : Option Ask) → get_or found i None ≡ o → slice_get ls i ≡ Some l → (m : Lane) × (slice_get (posted lanes amounts ms) i ≡ Some m) × IsLeft o (trace_at new i) l m
    left_at i l None e there =
        let k = ready i l there in
        let is : k.0 ≡ l = subst (λ (p : Option Ask). IsReadyFor (d i) p l k.0) e k.2 in
        (k.0, posted_else lanes amounts ms i (are.none i e) ∙ k.1, is)
    left_at i l (Some a) e there =
        let k = ready i l there in
        let is : k.0 ≡ waiting_lane (d i) l = subst (λ (p : Option Ask). IsReadyFor (d i) p l k.0) e k.2 in
        let place = are.place i a e in
        let n : ℕ = get_or amounts place.0 0 in
        let on_lane : IsFoundOn (given i) (Some a) l = subst (λ (p : Option Ask). IsFoundOn (given i) p l) e (on i l there) in
        let at_place : slice_get ms (get_or lanes place.0 0) ≡ Some k.0 = ap (slice_get ms) place.2 ∙ k.1 in (
          granted n k.0,
          ap (slice_get (posted lanes amounts ms)) (sym place.2) ∙ posted_at lanes amounts ms place.0 k.0 waiting place.1 at_place,
          answered i n a l (granted n k.0) on_lane (before.each i l there) (ap (granted n) is)
              (subst (λ (x : ℕ). (trace_at new x).posted ≡ (trace_at old x).posted ++ n ∷ []) place.2 (reported place.0 place.1)),
        )

    pub are_left : AreLeft found new ls (posted lanes amounts ms)
    are_left i l there = left_at i l (get_or found i None) refl there

    shown_after : (i : ℕ) (o : Option Ask) (l m : Lane) → i < length old → get_or found i None ≡ o → IsShownBy (trace_at old i) l → IsLeft o (trace_at new i) l m → IsShownBy (trace_at new i) m
    shown_after i None l m less e s left = subst (IsShownBy (trace_at new i)) (sym left) (record { posted = s.posted ∙ sym (unreported i less e); idle = s.idle; settled = s.settled })
    shown_after i (Some a) l m less e s left = subst (IsShownBy (trace_at new i)) (sym left) (record { posted = refl; idle = λ x. cc; settled = s.settled })

    pub are_shown : AreShownBy new (posted lanes amounts ms)
    are_shown = record {
      wide = length-posted lanes amounts ms ∙ same ∙ before.wide ∙ sym still;
      each = λ i m e.
          let within : i < length ls = omega (arith, slice_get_within (posted lanes amounts ms) i m e, length-posted lanes amounts ms, same) in
          let there = lane_there ls i within in
          let k = are_left i there.0 there.1 in
          let is : k.0 ≡ m = same_Some k.0 m (sym k.1 ∙ e) in
          subst (IsShownBy (trace_at new i)) is (shown_after i (get_or found i None) there.0 k.0 (omega (arith, within, before.wide)) refl (before.each i there.0 there.1) k.2);
    }
