-- A grant that is taken answers the last ask of the same sitting.
use Rattle.std.proofs.Common.{◌≡◌, ◌≢◌, ℕ, inl, inr, Bool, true, false, cond, List, [], ◌∷◌, ◌++◌, sym, refl, ap, ◌∙◌, subst, Some, set}
use Rattle.std.specs.Prelude.{slice_get, nat_eq, Result, Ok, Err}
use Rattle.std.proofs.lemmas.Bool.{eq-eqb}
use Rattle.std.proofs.lemmas.Bool.Decides.{eqb_tells}
use Rattle.line_rates.specs.declared.ask.Ask.{Ask}
use Rattle.line_rates.specs.Granted.{GrantsKeepNames}
use Rattle.line_rates.specs.Rates.{Rates}
use Rattle.world_terms.specs.declared.event.LaneState.{LaneState}
use Rattle.world_terms.specs.declared.event.LaneState.TheVariants as state
use Rattle.world_terms.specs.declared.event.Event.{Event}
use Rattle.world_terms.specs.declared.event.Event.TheVariants as event
use Rattle.world_terms.specs.declared.event.EventAnswer.{EventAnswer}
use Rattle.world_terms.specs.declared.event.EventAnswer.TheVariants as answer
use Rattle.world_terms.specs.declared.fault.StepFault.{StepFault}
use Rattle.world_terms.specs.Decisions.{IsGiven, IsDecision}
use Rattle.world_terms.specs.Lanes.{World, Lane, Shown, shown, new_world}
use Rattle.world_terms.specs.Runs.{TraceEntry, Runs, exchanges, is_exchange, on_lane, tick_of}
use Rattle.world_terms.specs.Shown.{ShownStep}
use Rattle.world_terms.specs.Steps.{IsChange, Accepts, Step, lane_of}
use Rattle.share_world.specs.Kept.{IsSound}
use Rattle.share_world.specs.Laws.{AnswersLastAsk}
use Rattle.share_world.proofs.Effects.{same_sums}
use Rattle.share_world.proofs.Grants.{given_at, given_case}
use Rattle.share_world.proofs.Kept.{kept_by_runs, get_set, is_new}

abbrev pub Exchanged : Type 0
Exchanged = List (Event × EventAnswer)

abbrev SitsAt : ℕ → LaneState → Shown → Exchanged → Type 0
SitsAt i state.Free s xs = Unit {0}
SitsAt i state.Worker s xs = Unit {0}
SitsAt i state.Asked s xs = (a : Ask) × (older : Exchanged) × (s.ask ≡ Some a) × (xs ≡ (event.Asked i a, answer.Done) ∷ older)
SitsAt i state.Round s xs = (a : Ask) × (older : Exchanged) × (s.ask ≡ Some a) × (xs ≡ (event.Collect i, answer.Got) ∷ (event.Asked i a, answer.Done) ∷ older)
SitsAt i state.Granted s xs = (a : Ask) × (n : ℕ) × (older : Exchanged) × (s.ask ≡ Some a) × (s.posted ≡ s.taken ++ n ∷ []) × (xs ≡ (event.Post i, answer.Posted n) ∷ (event.Collect i, answer.Got) ∷ (event.Asked i a, answer.Done) ∷ older)

-- what was exchanged last on the word of lane i, of which this is shown
abbrev Sits : ℕ → Shown → Exchanged → Type 0
Sits i s xs = SitsAt i s.state s xs

sits_at : (i : ℕ) (s : Shown) (st : LaneState) (xs : Exchanged) → s.state ≡ st → Sits i s xs → SitsAt i st s xs
sits_at i s st xs e h = subst (λ (x : LaneState). SitsAt i x s xs) e h

-- what is exchanged on the lane of an event
on_own : (e : Event) (a : EventAnswer) (xs : Exchanged) → is_exchange e a ≡ true → on_lane (lane_of e) e a ++ xs ≡ (e, a) ∷ xs
on_own e a xs h = ap (λ (b : Bool). cond b (cond (nat_eq (lane_of e) (lane_of e)) ((e, a) ∷ []) []) [] ++ xs) h ∙ ap (λ (b : Bool). cond b ((e, a) ∷ []) [] ++ xs) (eq-eqb (lane_of e) (lane_of e) refl)

on_other : (j : ℕ) (e : Event) (a : EventAnswer) (xs : Exchanged) → j ≢ lane_of e → on_lane j e a ++ xs ≡ xs
on_other j e a xs ne = both (is_exchange e a) (nat_eq (lane_of e) j) (elim (eqb_tells (lane_of e) j) [ inl h ↦ absurd (ne (sym h.1)) | inr h ↦ h.0 ])
  where
    both : (b c : Bool) → c ≡ false → cond b (cond c ((e, a) ∷ []) []) [] ++ xs ≡ xs
    both true c h = ap (λ (d : Bool). cond d ((e, a) ∷ []) [] ++ xs) h
    both false c h = refl

-- the event's own lane sits as it should
own : (e : Event) (a : EventAnswer) (l m : Lane) (xs : Exchanged) → ShownStep e a l.shown m.shown → IsSound l → Sits (lane_of e) l.shown xs → Sits (lane_of e) m.shown (on_lane (lane_of e) e a ++ xs)
own (event.Sit i) answer.Done l m xs v s h = subst (λ (z : Shown). Sits i z (on_lane i (event.Sit i) answer.Done ++ xs)) (sym v.1) tt
own (event.Asked i b) answer.Done l m xs v s h =
    subst (λ (z : Shown). Sits i z (on_lane i (event.Asked i b) answer.Done ++ xs)) (sym v.1) (b, xs, refl, on_own (event.Asked i b) answer.Done xs refl)
own (event.Collect i) answer.Got l m xs v s h =
    let w = sits_at i l.shown state.Asked xs v.0 h in
    subst (λ (z : Shown). Sits i z (on_lane i (event.Collect i) answer.Got ++ xs)) (sym v.1)
    (w.0, w.1, w.2, on_own (event.Collect i) answer.Got xs refl ∙ ap (λ (ys : Exchanged). (event.Collect i, answer.Got) ∷ ys) w.3)
own (event.Collect i) answer.Missed l m xs v s h = subst (λ (z : Shown). Sits i z xs) (sym v.1) h
own (event.Post i) (answer.Posted n) l m xs v s h =
    let w = sits_at i l.shown state.Round xs v.0 h in
    let same : l.shown.posted ≡ l.shown.taken = same_sums l s (λ e. let no : state.Round ≡ state.Granted = sym v.0 ∙ e in cc) in
    subst (λ (z : Shown). Sits i z (on_lane i (event.Post i) (answer.Posted n) ++ xs)) (sym v.1)
    (w.0, n, w.1, w.2, ap (λ (ys : List ℕ). ys ++ n ∷ []) same, on_own (event.Post i) (answer.Posted n) xs refl ∙ ap (λ (ys : Exchanged). (event.Post i, answer.Posted n) ∷ ys) w.3)
own (event.Taken i) (answer.Taken n) l m xs v s h = subst (λ (z : Shown). Sits i z (on_lane i (event.Taken i) (answer.Taken n) ++ xs)) (sym v.2) tt
own (event.Moved i n) answer.Done l m xs v s h = subst (λ (z : Shown). Sits i z xs) (sym v) h
own (event.Rise i) answer.Done l m xs v s h = subst (λ (z : Shown). Sits i z (on_lane i (event.Rise i) answer.Done ++ xs)) (sym v.1) tt
own e a l m xs v s h = absurd v

-- each lane sits as it should after the events of the past
abbrev AllSit : List TraceEntry → World → Type 0
AllSit past w = (j : ℕ) (l : Lane) → slice_get w.lanes j ≡ Some l → Sits j l.shown (exchanges j past)

changed : (past : List TraceEntry) (w : World) (e : Event) (a : EventAnswer) (end : World) → ((j : ℕ) (l : Lane) → slice_get w.lanes j ≡ Some l → IsSound l) → AllSit past w → IsChange w (lane_of e) e a end
    → AllSit (record { before = w; event = e; reply = Ok a } ∷ past) end
changed past w e a end sound k c j l there =
    let at : slice_get (set w.lanes (lane_of e) c.after) j ≡ Some l = sym (ap (λ (x : World). slice_get x.lanes j) c.rest) ∙ there in
    elim (get_set w.lanes (lane_of e) j c.after l at) [
      | inl h ↦
          let done : Sits (lane_of e) c.after.shown (on_lane (lane_of e) e a ++ exchanges (lane_of e) past) = own e a c.before c.after (exchanges (lane_of e) past) c.step.0 (sound (lane_of e) c.before c.there) (k (lane_of e) c.before c.there) in
          subst (λ (x : Lane). Sits j x.shown (on_lane j e a ++ exchanges j past)) (sym h.1) (subst (λ (i : ℕ). Sits i c.after.shown (on_lane i e a ++ exchanges i past)) (sym h.0) done)
      | inr h ↦ subst (Sits j l.shown) (sym (on_other j e a (exchanges j past) h.0)) (k j l h.1)
    ]

decided : (past : List TraceEntry) (r : Rates) (w : World) (m tick total : ℕ) (end : World) → AllSit past w → IsDecision r w m tick total end
    → AllSit (record { before = w; event = event.Decide m; reply = Ok (answer.Decided tick total) } ∷ past) end
decided past r w m tick total end k d j l there =
    let g : (x : Lane) × (slice_get w.lanes j ≡ Some x) × IsGiven x l = given_at w.lanes end.lanes j l d.shared.given there in
    given_case (λ (x : Lane). Sits j x.shown (exchanges j past)) g.0 l g.2 (λ n here. k j g.0 g.1) (λ other. k j g.0 g.1)

accepted : (past : List TraceEntry) (r : Rates) (w : World) (e : Event) (a : EventAnswer) (end : World) → ((j : ℕ) (l : Lane) → slice_get w.lanes j ≡ Some l → IsSound l) → AllSit past w → Accepts r w e a end
    → AllSit (record { before = w; event = e; reply = Ok a } ∷ past) end
accepted past r w (event.Sit i) a end sound k c = changed past w (event.Sit i) a end sound k c
accepted past r w (event.Asked i b) a end sound k c = changed past w (event.Asked i b) a end sound k c
accepted past r w (event.Collect i) a end sound k c = changed past w (event.Collect i) a end sound k c.1
accepted past r w (event.Decide m) (answer.Decided t s) end sound k c = decided past r w m t s end k c
accepted past r w (event.Post i) a end sound k c = changed past w (event.Post i) a end sound k c
accepted past r w (event.Taken i) a end sound k c = changed past w (event.Taken i) a end sound k c
accepted past r w (event.Moved i n) a end sound k c = changed past w (event.Moved i n) a end sound k c
accepted past r w (event.Rise i) a end sound k c = changed past w (event.Rise i) a end sound k c
accepted past r w e a end sound k c = absurd c

replied : (past : List TraceEntry) (r : Rates) (w : World) (e : Event) (reply : Result EventAnswer StepFault) (end : World) → ((j : ℕ) (l : Lane) → slice_get w.lanes j ≡ Some l → IsSound l) → AllSit past w → Step r w e reply end
    → AllSit (record { before = w; event = e; reply = reply } ∷ past) end
replied past r w e (Ok a) end sound k s = accepted past r w e a end sound k s
replied past r w e (Err f) end sound k s = subst (AllSit past) (sym s.0) k

all_sit : GrantsKeepNames → (r : ℕ → Rates) (k : ℕ) (past : List TraceEntry) (end : World) → Runs r (new_world k) past end → AllSit past end
all_sit law r k [] end e = λ j l there. subst (λ (x : Lane). Sits j x.shown []) (sym (is_new k j l (sym (ap (λ (w : World). slice_get w.lanes j) e) ∙ there))) tt
all_sit law r k (x ∷ past) end e = replied past (r (tick_of x.event)) x.before x.event x.reply end (kept_by_runs law r k past x.before e.0).sound (all_sit law r k past x.before e.0) e.1

last_of : (xs ys : List ℕ) (m n : ℕ) → xs ++ m ∷ [] ≡ ys ++ n ∷ [] → xs ≡ ys → m ≡ n
last_of [] [] m n e h = cc
last_of [] (y ∷ ys) m n e h = absurd (cc)
last_of (x ∷ xs) [] m n e h = absurd (cc)
last_of (x ∷ xs) (y ∷ ys) m n e h = last_of xs ys m n (let t : xs ++ m ∷ [] ≡ ys ++ n ∷ [] = cc in t) (let t : xs ≡ ys = cc in t)

pub answers_last : GrantsKeepNames → (r : ℕ → Rates) (k : ℕ) (past : List TraceEntry) (w : World) (i n : ℕ) (end : World)
    → Runs r (new_world k) (record { before = w; event = event.Taken i; reply = Ok (answer.Taken n) } ∷ past) end → AnswersLastAsk past i n
answers_last law r k past w i n end e =
    let c : IsChange w i (event.Taken i) (answer.Taken n) end = e.1 in
    let sits : Sits i c.before.shown (exchanges i past) = all_sit law r k past w e.0 i c.before c.there in
    let v : (c.before.shown.state ≡ state.Granted) × (c.before.shown.posted ≡ c.before.shown.taken ++ n ∷ []) × (c.after.shown ≡ shown state.Worker c.before.shown.ask c.before.shown.posted (c.before.shown.taken ++ n ∷ [])) = c.step.0 in
    let s = sits_at i c.before.shown state.Granted (exchanges i past) v.0 sits in
    let same : s.1 ≡ n = last_of c.before.shown.taken c.before.shown.taken s.1 n (sym s.4 ∙ v.1) refl in
    record {
      ask = s.0;
      older = s.2;
      exchanged = s.5 ∙ ap (λ (m : ℕ). (event.Post i, answer.Posted m) ∷ (event.Collect i, answer.Got) ∷ (event.Asked i s.0, answer.Done) ∷ s.2) same;
      last = (kept_by_runs law r k past w e.0).asks i c.before c.there ∙ s.3;
    }
