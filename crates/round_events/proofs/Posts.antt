-- The answers of a round: a Post of each lane that waits.
use Rattle.std.proofs.Common.{◌≡◌, ◌≢◌, ℕ, zero, suc, ◌<◌, List, [], ◌∷◌, ◌++◌, length, set, get_or, sym, refl, ap, ◌∙◌, arith, Option, Some, None, Ok, slice_get}
use Rattle.std.proofs.lemmas.List.{length-set}
use Rattle.std.proofs.lemmas.Option.{get_or_from_slice_get}
use Rattle.grant_ledger.specs.Books.{NamesNot}
use Rattle.line_rates.specs.Rates.{Rates}
use Rattle.world_terms.specs.declared.event.Event.TheVariants as event
use Rattle.world_terms.specs.declared.event.EventAnswer.TheVariants as answer
use Rattle.world_terms.specs.declared.event.LaneState.TheVariants as state
use Rattle.world_terms.specs.Lanes.{Lane, amount, hidden, new_lane, shown}
use Rattle.world_terms.specs.Runs.{IsRun}
use Rattle.world_terms.specs.Steps.{IsChange}
use Rattle.share_world.proofs.Deals.{get_here, get_other}
use Rattle.lane_desk.proofs.PostedLemmas.{names_other}
use Rattle.round_events.specs.Events.{post_replies, posts}
use Rattle.round_events.proofs.Collects.{at}
use Rattle.round_events.proofs.Runs.{run_from, run_none}

-- a lane after a Post of this amount
abbrev pub granted : ℕ → Lane → Lane
granted n l = record {
  shown = shown state.Granted l.shown.ask (l.shown.posted ++ n ∷ []) l.shown.taken;
  hidden = hidden l.hidden.moved l.hidden.back l.hidden.hand None;
}

-- the lanes after a Post of each amount on its lane
abbrev pub posted : List ℕ → List ℕ → List Lane → List Lane
posted [] ns ls = ls
posted (i ∷ is) [] ls = ls
posted (i ∷ is) (n ∷ ns) ls = posted is ns (set ls i (granted n (get_or ls i new_lane)))

-- the lane is in Round, and this amount is decided for it, or 0 if none is
pub record WaitsFor (n i : ℕ) (ls : List Lane) : Type 0 where
  pub lane : Lane
  pub there : slice_get ls i ≡ Some lane
  pub round : lane.shown.state ≡ state.Round
  pub amount_is : n ≡ amount lane.hidden.decided

-- each lane waits for its amount, and occurs once
abbrev pub AreWaiting : List ℕ → List ℕ → List Lane → Type 0
AreWaiting [] [] ls = Unit {0}
AreWaiting [] (n ∷ ns) ls = ⊥
AreWaiting (i ∷ is) [] ls = ⊥
AreWaiting (i ∷ is) (n ∷ ns) ls = WaitsFor n i ls × NamesNot i is × AreWaiting is ns ls

still_waits : (n i j : ℕ) (ls : List Lane) (m : Lane) → j ≢ i → WaitsFor n j ls → WaitsFor n j (set ls i m)
still_waits n i j ls m ne h = record { lane = h.lane; there = get_other ls i j m ne ∙ h.there; round = h.round; amount_is = h.amount_is }

others_wait : (i : ℕ) (is ns : List ℕ) (ls : List Lane) (m : Lane) → NamesNot i is → AreWaiting is ns ls → AreWaiting is ns (set ls i m)
others_wait i [] [] ls m ne h = tt
others_wait i [] (n ∷ ns) ls m ne h = h
others_wait i (j ∷ is) [] ls m ne h = h
others_wait i (j ∷ is) (n ∷ ns) ls m ne h = (still_waits n i j ls m (λ e. ne.0 (sym e)) h.0, h.1, others_wait i is ns ls m ne.1 h.2)

lane_is : (n i : ℕ) (ls : List Lane) (h : WaitsFor n i ls) → get_or ls i new_lane ≡ h.lane
lane_is n i ls h = get_or_from_slice_get ls i h.lane new_lane h.there

post_change : (n i : ℕ) (ls : List Lane) (last : Option ℕ) (issued : ℕ) → WaitsFor n i ls → IsChange (at last issued ls) i (event.Post i) (answer.Posted n) (at last issued (set ls i (granted n (get_or ls i new_lane))))
post_change n i ls last issued h = record {
  before = h.lane;
  after = granted n h.lane;
  there = h.there;
  step = ((h.round, refl), (h.amount_is, refl));
  rest = ap (λ (l : Lane). at last issued (set ls i (granted n l))) (lane_is n i ls h);
}

pub posts_run : (rates : ℕ → Rates) (last : Option ℕ) (issued : ℕ) (is ns : List ℕ) (ls : List Lane) → AreWaiting is ns ls → IsRun rates (at last issued ls) (posts is) (post_replies ns) (at last issued (posted is ns ls))
posts_run rates last issued [] [] ls h = run_none rates (at last issued ls)
posts_run rates last issued [] (n ∷ ns) ls h = absurd h
posts_run rates last issued (i ∷ is) [] ls h = absurd h
posts_run rates last issued (i ∷ is) (n ∷ ns) ls h =
    let m : Lane = granted n (get_or ls i new_lane) in
    run_from rates (at last issued ls) (at last issued (set ls i m)) (at last issued (posted is ns (set ls i m))) (event.Post i) (Ok (answer.Posted n)) (posts is) (post_replies ns)
    (post_change n i ls last issued h.0) (posts_run rates last issued is ns (set ls i m) (others_wait i is ns ls m h.1 h.2))

-- a lane that is not answered
pub posted_else : (is ns : List ℕ) (ls : List Lane) (j : ℕ) → NamesNot j is → slice_get (posted is ns ls) j ≡ slice_get ls j
posted_else [] ns ls j ne = refl
posted_else (i ∷ is) [] ls j ne = refl
posted_else (i ∷ is) (n ∷ ns) ls j ne = posted_else is ns (set ls i (granted n (get_or ls i new_lane))) j ne.1 ∙ get_other ls i j (granted n (get_or ls i new_lane)) ne.0

-- lane k of those that are answered
pub posted_at : (is ns : List ℕ) (ls : List Lane) (k : ℕ) (l : Lane) → AreWaiting is ns ls → k < length is → slice_get ls (get_or is k 0) ≡ Some l → slice_get (posted is ns ls) (get_or is k 0) ≡ Some (granted (get_or ns k 0) l)
posted_at [] ns ls k l h less e = absurd (omega arith)
posted_at (i ∷ is) [] ls k l h less e = absurd h
posted_at (i ∷ is) (n ∷ ns) ls zero l h less e =
    posted_else is ns (set ls i (granted n (get_or ls i new_lane))) i h.1 ∙ get_here ls i l (granted n (get_or ls i new_lane)) e ∙ ap (λ (x : Lane). Some (granted n x)) (get_or_from_slice_get ls i l new_lane e)
posted_at (i ∷ is) (n ∷ ns) ls (suc k) l h less e =
    let m : Lane = granted n (get_or ls i new_lane) in
    posted_at is ns (set ls i m) k l (others_wait i is ns ls m h.1 h.2) (omega arith) (get_other ls i (get_or is k 0) m (names_other i is k h.1 (omega arith)) ∙ e)

pub length-posted : (is ns : List ℕ) (ls : List Lane) → length (posted is ns ls) ≡ length ls
length-posted [] ns ls = refl
length-posted (i ∷ is) [] ls = refl
length-posted (i ∷ is) (n ∷ ns) ls = length-posted is ns (set ls i (granted n (get_or ls i new_lane))) ∙ length-set ls i (granted n (get_or ls i new_lane))
