-- An event of one lane is a step of the world.
use Rattle.std.proofs.Common.{◌≡◌, ℕ, zero, suc, ◌<◌, ◌≤◌, true, false, List, [], ◌∷◌, length, sum_by, sym, refl, ap, ◌∙◌, subst, arith, Option, Some, set, get_or}
use Rattle.std.specs.Prelude.{slice_get, Result, Ok, Err}
use Rattle.std.proofs.lemmas.Option.{slice_get-get_or}
use Rattle.line_rates.specs.Rates.{Rates}
use Rattle.world_terms.specs.declared.event.Event.{Event}
use Rattle.world_terms.specs.declared.event.Event.TheVariants as event
use Rattle.world_terms.specs.declared.event.EventAnswer.{EventAnswer}
use Rattle.world_terms.specs.declared.fault.StepFault.{StepFault}
use Rattle.world_terms.specs.declared.fault.StepFault.TheVariants as fault
use Rattle.world_terms.specs.Decisions.{AllPosted}
use Rattle.world_terms.specs.Lanes.{Lane, World}
use Rattle.world_terms.specs.Steps.{Accepts, IsChange, LaneStep, Refuses, RefusesLane, Step, lane_of}
use Rattle.world_terms.specs.Sums.{shares}
use Rattle.share_world.specs.Kept.{IsBooked, IsSound}
use Rattle.share_world.proofs.Effects.{effect}
use Rattle.share_world.proofs.Kept.{sum_set}
use Rattle.share_world.specs.Limited.{Limited}
use Rattle.share_world.specs.Performed.{LaneReply, is_collect, is_decide}

set_same : (ls : List Lane) (i : ℕ) (l : Lane) → slice_get ls i ≡ Some l → set ls i l ≡ ls
set_same [] i l e = refl
set_same (x ∷ ls) zero l e = ap (λ (y : Lane). y ∷ ls) (let s : l ≡ x = cc in s)
set_same (x ∷ ls) (suc i) l e = ap (λ (ys : List Lane). x ∷ ys) (set_same ls i l e)

abbrev with_lane : World → ℕ → Lane → World
with_lane w i m = record { lanes = set w.lanes i m; last_tick = w.last_tick; issued = w.issued }

change : (w : World) (e : Event) (a : EventAnswer) (l m : Lane) → slice_get w.lanes (lane_of e) ≡ Some l → LaneStep e a l m → IsChange w (lane_of e) e a (with_lane w (lane_of e) m)
change w e a l m there h = record { before = l; after = m; there = there; step = h; rest = refl }

accepted : (r : Rates) (w : World) (e : Event) (a : EventAnswer) (w' : World) → is_decide e ≡ false → (is_collect e ≡ true → AllPosted w.lanes) → IsChange w (lane_of e) e a w' → Accepts r w e a w'
accepted r w (event.Sit i) a w' d p c = c
accepted r w (event.Asked i b) a w' d p c = c
accepted r w (event.Collect i) a w' d p c = (p refl, c)
accepted r w (event.Decide m) a w' d p c = absurd (cc)
accepted r w (event.Post i) a w' d p c = c
accepted r w (event.Taken i) a w' d p c = c
accepted r w (event.Moved i n) a w' d p c = c
accepted r w (event.Rise i) a w' d p c = c

-- a lane's own refusal is one of the world
refused : (r : Rates) (w : World) (e : Event) (f : StepFault) (l : Lane) → is_decide e ≡ false → slice_get w.lanes (lane_of e) ≡ Some l → RefusesLane e f l → Refuses r w e f
refused r w (event.Sit i) fault.WrongState l d e h = record { lane = l; there = e; fact = h }
refused r w (event.Asked i a) fault.WrongState l d e h = record { lane = l; there = e; fact = h }
refused r w (event.Post i) fault.WrongState l d e h = record { lane = l; there = e; fact = h }
refused r w (event.Post i) fault.Memory l d e h = record { lane = l; there = e; fact = h }
refused r w (event.Taken i) fault.WrongState l d e h = record { lane = l; there = e; fact = h }
refused r w (event.Taken i) fault.Memory l d e h = record { lane = l; there = e; fact = h }
refused r w (event.Moved i n) fault.WrongState l d e h = record { lane = l; there = e; fact = h }
refused r w (event.Moved i n) fault.TooMuch l d e h = record { lane = l; there = e; fact = h }
refused r w (event.Rise i) fault.WrongState l d e h = record { lane = l; there = e; fact = h }
refused r w e f l d t h = absurd h

pub perform_steps : (r : Rates) (w : World) (e : Event) (res : Result EventAnswer StepFault) (l m : Lane) → is_decide e ≡ false → (is_collect e ≡ true → AllPosted w.lanes)
    → slice_get w.lanes (lane_of e) ≡ Some l → LaneReply e res l m → Step r w e res (with_lane w (lane_of e) m)
perform_steps r w e (Ok a) l m d p there t = accepted r w e a (with_lane w (lane_of e) m) d p (change w e a l m there t)
perform_steps r w e (Err f) l m d p there t =
    (ap (with_lane w (lane_of e)) t.0 ∙ ap (λ (ls : List Lane). record { lanes = ls; last_tick = w.last_tick; issued = w.issued }) (set_same w.lanes (lane_of e) l there), refused r w e f l d there t.1)

pub no_lane : (r : Rates) (w : World) (e : Event) → is_decide e ≡ false → length w.lanes ≤ lane_of e → Refuses r w e fault.NoLane
no_lane r w (event.Sit i) d h = h
no_lane r w (event.Asked i b) d h = h
no_lane r w (event.Collect i) d h = h
no_lane r w (event.Decide m) d h = absurd (cc)
no_lane r w (event.Post i) d h = h
no_lane r w (event.Taken i) d h = h
no_lane r w (event.Moved i n) d h = h
no_lane r w (event.Rise i) d h = h

pub not_posted : (r : Rates) (w : World) (e : Event) → is_collect e ≡ true → lane_of e < length w.lanes → (AllPosted w.lanes → ⊥) → Refuses r w e fault.WrongState
not_posted r w (event.Collect i) c h p = (h, p)
not_posted r w (event.Sit i) c h p = absurd (cc)
not_posted r w (event.Asked i b) c h p = absurd (cc)
not_posted r w (event.Decide m) c h p = absurd (cc)
not_posted r w (event.Post i) c h p = absurd (cc)
not_posted r w (event.Taken i) c h p = absurd (cc)
not_posted r w (event.Moved i n) c h p = absurd (cc)
not_posted r w (event.Rise i) c h p = absurd (cc)

-- no share is lost by it
perform_shares : (e : Event) (res : Result EventAnswer StepFault) (l m : Lane) → IsSound l → LaneReply e res l m → shares m ≡ shares l
perform_shares e (Ok a) l m s t = (effect e a l m t.0 t.1 s).kept
perform_shares e (Err f) l m s t = ap shares t.0

pub perform_books : (e : Event) (res : Result EventAnswer StepFault) (ls : List Lane) (i issued : ℕ) (l m : Lane) → IsSound l → slice_get ls i ≡ Some l → LaneReply e res l m → IsBooked ls issued → IsBooked (set ls i m) issued
perform_books e res ls i issued l m s there t b = record {
  shares_are = let before : issued ≡ sum_by shares ls = b.shares_are in omega (arith, sum_set shares ls i l m there, perform_shares e res l m s t);
  most = b.most;
}

here : (ls : List Lane) (i : ℕ) (l : Lane) → i < length ls → l ≡ get_or ls i l → slice_get ls i ≡ Some l
here ls i l less e = slice_get-get_or ls i l less ∙ ap (λ (x : Lane). Some x) (sym e)

-- at the index that the code has
pub perform_at : (r : Rates) (w : World) (e : Event) (res : Result EventAnswer StepFault) (i : ℕ) (l m : Lane) → i ≡ lane_of e → i < length w.lanes → l ≡ get_or w.lanes i l → is_decide e ≡ false → (is_collect e ≡ true → AllPosted w.lanes)
    → LaneReply e res l m → Step r w e res (with_lane w i m)
perform_at r w e res i l m at less got d p t =
    let at_lane : lane_of e < length w.lanes = omega arith in
    let got_lane : l ≡ get_or w.lanes (lane_of e) l = subst (λ (j : ℕ). l ≡ get_or w.lanes j l) at got in
    subst (λ (j : ℕ). Step r w e res (with_lane w j m)) (sym at) (perform_steps r w e res l m d p (here w.lanes (lane_of e) l at_lane got_lane) t)

pub books_at : (e : Event) (res : Result EventAnswer StepFault) (ls : List Lane) (i issued : ℕ) (l m : Lane) → i < length ls → l ≡ get_or ls i l → IsSound l → LaneReply e res l m → IsBooked ls issued → IsBooked (set ls i m) issued
books_at e res ls i issued l m less got s t b = perform_books e res ls i issued l m s (here ls i l less got) t b

abbrev pub world_of : List Lane → Option ℕ → ℕ → World
world_of ls last issued = record { lanes = ls; last_tick = last; issued = issued }

abbrev pub limited : Rates → World → Limited
limited r w = record { rates = r; world = w }

-- as the model of a `World` shows it
pub perform_seen : (r : Rates) (ls : List Lane) (last : Option ℕ) (issued : ℕ) (s : Limited) (e : Event) (res : Result EventAnswer StepFault) (i : ℕ) (l m : Lane) → limited r (world_of ls last issued) ≡ s
    → i ≡ lane_of e → i < length ls → l ≡ get_or ls i l → is_decide e ≡ false → (is_collect e ≡ true → AllPosted ls) → LaneReply e res l m → Step s.rates s.world e res (world_of (set ls i m) last issued)
perform_seen r ls last issued s e res i l m shown at less got d p t =
    subst (λ (x : Limited). Step x.rates x.world e res (world_of (set ls i m) last issued)) shown (perform_at r (world_of ls last issued) e res i l m at less got d p t)
