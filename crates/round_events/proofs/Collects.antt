-- The tries of a round: each given lane is collected from once.
use Rattle.std.proofs.Common.{◌≡◌, ℕ, zero, suc, Bool, true, false, cond, List, [], ◌∷◌, ◌++◌, map, length, sym, refl, ap, subst, arith, append_assoc, Option, Some, None, Ok, slice_get}
use Rattle.std.proofs.lemmas.List.{length-append, set_at}
use Rattle.std.proofs.lemmas.List.Elements.{All-append, All-cons, All-head, All-nil, All-tail}
use Rattle.line_rates.specs.declared.ask.Ask.{Ask}
use Rattle.line_rates.specs.Rates.{Rates}
use Rattle.world_terms.specs.declared.event.Event.{Event}
use Rattle.world_terms.specs.declared.event.Event.TheVariants as event
use Rattle.world_terms.specs.declared.event.EventAnswer.{EventAnswer}
use Rattle.world_terms.specs.declared.event.LaneState.TheVariants as state
use Rattle.world_terms.specs.Decisions.{AllPosted, IsPosted}
use Rattle.world_terms.specs.Lanes.{Lane, World, shown}
use Rattle.world_terms.specs.Runs.{IsRun}
use Rattle.world_terms.specs.Steps.{IsChange, LaneStep}
use Rattle.round_events.specs.Events.{Reply, collects, given_lanes, try_answer}
use Rattle.round_events.specs.Worlds.{IsFoundOn}
use Rattle.round_events.proofs.Runs.{run_from, run_none}

-- a world with these lanes
abbrev pub at : Option ℕ → ℕ → List Lane → World
at last issued ls = record { lanes = ls; last_tick = last; issued = issued }

-- a lane after the try that found this
abbrev pub collected : Option Ask → Lane → Lane
collected None l = l
collected (Some a) l = record { shown = shown state.Round l.shown.ask l.shown.posted l.shown.taken; hidden = l.hidden }

-- the lanes after all tries; the first has number k
abbrev pub got : (ℕ → Option Ask) → ℕ → List Lane → List Lane
got f k [] = []
got f k (l ∷ ls) = collected (f k) l ∷ got f (suc k) ls

-- what is found on each lane, of which the first has number k
abbrev pub EachFound : (ℕ → Bool) → (ℕ → Option Ask) → ℕ → List Lane → Type 0
EachFound given f k [] = Unit {0}
EachFound given f k (l ∷ ls) = IsFoundOn (given k) (f k) l × EachFound given f (suc k) ls

-- asks are found on given lanes only
abbrev pub OfGiven : (ℕ → Bool) → (ℕ → Option Ask) → Type 0
OfGiven given f = (i : ℕ) → given i ≡ false → f i ≡ None

get_at : (done : List Lane) (l : Lane) (ls : List Lane) (k : ℕ) → length done ≡ k → slice_get (done ++ l ∷ ls) k ≡ Some l
get_at [] l ls zero e = refl
get_at [] l ls (suc k) e = absurd (omega (arith, e))
get_at (x ∷ done) l ls zero e = absurd (omega (arith, e))
get_at (x ∷ done) l ls (suc k) e = get_at done l ls k (omega (arith, e))

-- an event of the lane behind `done`
pub change : (done : List Lane) (l m : Lane) (ls : List Lane) (k : ℕ) (last : Option ℕ) (issued : ℕ) (e : Event) (a : EventAnswer) → length done ≡ k → LaneStep e a l m → IsChange (at last issued (done ++ l ∷ ls)) k e a (at last issued (done ++ m ∷ ls))
change done l m ls k last issued e a long s = record {
  before = l;
  after = m;
  there = get_at done l ls k long;
  step = s;
  rest = ap (at last issued) (sym (set_at done l ls m k long));
}

try_step : (k : ℕ) (o : Option Ask) (l : Lane) → IsFoundOn true o l → LaneStep (event.Collect k) (try_answer o) l (collected o l)
try_step k None l h = ((h refl, refl), refl)
try_step k (Some a) l h = ((h.0, refl), refl)

still_posted : (o : Option Ask) (l : Lane) → IsPosted l → IsPosted (collected o l)
still_posted None l h = h
still_posted (Some a) l h = h

pub posted_got : (f : ℕ → Option Ask) (k : ℕ) (ls : List Lane) → AllPosted ls → AllPosted (got f k ls)
posted_got f k [] h = h
posted_got f k (l ∷ ls) h = All-cons IsPosted (collected (f k) l) (got f (suc k) ls) (still_posted (f k) l (All-head IsPosted l ls h)) (posted_got f (suc k) ls (All-tail IsPosted l ls h))

module _ (rates : ℕ → Rates) (last : Option ℕ) (issued : ℕ) (given : ℕ → Bool) (f : ℕ → Option Ask) (only : OfGiven given f) where
  abbrev replies_of : List ℕ → List Reply
  replies_of lanes = map (λ i. Ok (try_answer (f i))) lanes

  abbrev IsTryRun : ℕ → ℕ → List Lane → List Lane → Type 0
  IsTryRun k n ls ms = IsRun rates (at last issued ls) (collects (given_lanes given k n)) (replies_of (given_lanes given k n)) (at last issued ms)

  -- one lane more, which is tried if it is given
  tries_next : (b : Bool) (done : List Lane) (l : Lane) (ls : List Lane) (k : ℕ) (more : List ℕ) (ms : List Lane) → given k ≡ b → length done ≡ k → IsFoundOn (given k) (f k) l → AllPosted (done ++ l ∷ ls)
      → IsRun rates (at last issued (done ++ collected (f k) l ∷ ls)) (collects more) (replies_of more) (at last issued ms)
      → IsRun rates (at last issued (done ++ l ∷ ls)) (collects (cond b (k ∷ more) more)) (replies_of (cond b (k ∷ more) more)) (at last issued ms)
  tries_next true done l ls k more ms e long h p r =
      run_from rates (at last issued (done ++ l ∷ ls)) (at last issued (done ++ collected (f k) l ∷ ls)) (at last issued ms) (event.Collect k) (Ok (try_answer (f k))) (collects more) (replies_of more)
      (p, change done l (collected (f k) l) ls k last issued (event.Collect k) (try_answer (f k)) long (try_step k (f k) l (subst (λ (b : Bool). IsFoundOn b (f k) l) e h))) r
  tries_next false done l ls k more ms e long h p r =
      let same : collected (f k) l ≡ l = ap (λ (o : Option Ask). collected o l) (only k e) in
      subst (λ (x : Lane). IsRun rates (at last issued (done ++ x ∷ ls)) (collects more) (replies_of more) (at last issued ms)) same r

  pub tries_run : (done ls : List Lane) (k n : ℕ) → length done ≡ k → length ls ≡ n → EachFound given f k ls → AllPosted done → AllPosted ls → IsTryRun k n (done ++ ls) (done ++ got f k ls)
  tries_run done [] k zero long wide h p q = run_none rates (at last issued (done ++ []))
  tries_run done [] k (suc n) long wide h p q = absurd (omega (arith, wide))
  tries_run done (l ∷ ls) k zero long wide h p q = absurd (omega (arith, wide))
  tries_run done (l ∷ ls) k (suc n) long wide h p q =
      let m : Lane = collected (f k) l in
      let settled : IsPosted m = still_posted (f k) l (All-head IsPosted l ls q) in
      let front : AllPosted (done ++ m ∷ []) = All-append IsPosted done (m ∷ []) p (All-cons IsPosted m [] settled (All-nil IsPosted)) in
      let more : IsTryRun (suc k) n ((done ++ m ∷ []) ++ ls) ((done ++ m ∷ []) ++ got f (suc k) ls) =
      tries_run (done ++ m ∷ []) ls (suc k) n (omega (arith, long, length-append done (m ∷ []))) (omega (arith, wide)) h.1 front (All-tail IsPosted l ls q) in
      tries_next (given k) done l ls k (given_lanes given (suc k) n) (done ++ m ∷ got f (suc k) ls) refl long h.0 (All-append IsPosted done (l ∷ ls) p q)
      (subst (λ (x : List Lane × List Lane). IsTryRun (suc k) n x.0 x.1) (λ z. (append_assoc done (m ∷ []) ls z, append_assoc done (m ∷ []) (got f (suc k) ls) z)) more)
