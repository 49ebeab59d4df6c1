-- What each event does to its lane.
use Rattle.std.proofs.Common.{◌≡◌, ◌≢◌, ℕ, ◌+◌, ◌-◌, ◌≤◌, ◌⊎◌, inl, inr, List, [], ◌∷◌, ◌++◌, sum, sym, refl, ap, ◌∙◌, subst, arith, append-nil, Option, Some, None}
use Rattle.std.proofs.lemmas.List.Sums.{sum_by-append}
use Rattle.line_rates.specs.declared.ask.Ask.{Ask}
use Rattle.world_terms.specs.declared.event.LaneState.{LaneState}
use Rattle.world_terms.specs.declared.event.LaneState.TheVariants as state
use Rattle.world_terms.specs.declared.event.Event.{Event}
use Rattle.world_terms.specs.declared.event.Event.TheVariants as event
use Rattle.world_terms.specs.declared.event.EventAnswer.{EventAnswer}
use Rattle.world_terms.specs.declared.event.EventAnswer.TheVariants as answer
use Rattle.world_terms.specs.Decisions.{decided_of}
use Rattle.world_terms.specs.Lanes.{Shown, shown, Hidden, hidden, Lane, amount}
use Rattle.world_terms.specs.Runs.{octets_by}
use Rattle.world_terms.specs.Shown.{ShownStep}
use Rattle.world_terms.specs.Steps.{HiddenStep}
use Rattle.world_terms.specs.Sums.{pending, shares}
use Rattle.share_world.specs.Kept.{Waits, IsUnasked, IsSound}

-- the lane that shows this
abbrev pub lane_at : Shown → Hidden → Lane
lane_at s a = record { shown = s; hidden = a }

pub at_lane : (P : Lane → Type 0) (m : Lane) (s : Shown) (a : Hidden) → m.shown ≡ s → m.hidden ≡ a → P (lane_at s a) → P m
at_lane P m s a p q h = subst (λ (x : Shown). P (lane_at x m.hidden)) (sym p) (subst (λ (y : Hidden). P (lane_at s y)) (sym q) h)

sum_more : (xs : List ℕ) (n : ℕ) → sum (xs ++ n ∷ []) ≡ sum xs + n
sum_more xs n = omega (arith, sum_by-append (λ (x : ℕ). x) xs (n ∷ []))

-- the lane stays sound, its ask becomes `ask`, and what is pending and k beside it was pending before; no share is lost
pub record Effect (ask : Option Ask) (k : ℕ) (l m : Lane) : Type 0 where
  pub sound : IsSound m
  pub ask_is : m.shown.ask ≡ ask
  pub less : (m.shown.ask ≡ l.shown.ask) ⊎ (pending m + k ≡ 0)
  pub most : pending m + k ≤ pending l
  pub kept : shares m ≡ shares l

-- a lane with no amount posted and not taken
none_waits : (p : LaneState) (ws : List ℕ) → p ≢ state.Granted → Waits p ws → ws ≡ []
none_waits state.Free ws h w = w
none_waits state.Worker ws h w = w
none_waits state.Asked ws h w = w
none_waits state.Round ws h w = w
none_waits state.Granted ws h w = absurd (h refl)

waits_none : (p : LaneState) → p ≢ state.Granted → Waits p []
waits_none state.Free h = refl
waits_none state.Worker h = refl
waits_none state.Asked h = refl
waits_none state.Round h = refl
waits_none state.Granted h = absurd (h refl)

pub same_sums : (l : Lane) (s : IsSound l) → l.shown.state ≢ state.Granted → l.shown.posted ≡ l.shown.taken
same_sums l s h = s.posted_is ∙ ap (λ (ws : List ℕ). l.shown.taken ++ ws) (none_waits l.shown.state s.waiting h s.waits) ∙ append-nil l.shown.taken

-- a lane in a state that follows an ask has one
never : (l : Lane) (p : LaneState) → IsSound l → l.shown.state ≡ p → (IsUnasked p → ⊥) → l.shown.ask ≡ None → ⊥
never l p s here after none = after (subst IsUnasked here (s.unasked none).1)

-- the lane goes from a state to another with nothing else changed but its ask
goes : (l : Lane) (p : LaneState) (a : Option Ask) → IsSound l → l.shown.state ≢ state.Granted → p ≢ state.Granted → (p ≢ state.Worker → l.hidden.hand ≡ None) → (p ≢ state.Round → l.hidden.decided ≡ None)
    → (a ≡ None → (l.hidden.hand ≡ None) × IsUnasked p) → (a ≡ l.shown.ask) ⊎ (pending l ≡ 0)
    → Effect a 0 l (lane_at (shown p a l.shown.posted l.shown.taken) l.hidden)
goes l p a s here there hand decided unasked less = record {
  sound = record {
    waiting = [];
    posted_is = same_sums l s here ∙ sym (append-nil l.shown.taken);
    waits = waits_none p there;
    in_hand = hand;
    in_round = decided;
    taken_is = s.taken_is;
    unasked = unasked;
  };
  ask_is = refl;
  less = elim less [ inl e ↦ inl e | inr z ↦ inr (omega arith) ];
  most = omega arith;
  kept = refl;
}

sits : (l m : Lane) → (l.shown.state ≡ state.Free) × (m.shown ≡ shown state.Worker l.shown.ask l.shown.posted l.shown.taken) → m.hidden ≡ l.hidden → IsSound l → Effect l.shown.ask 0 l m
sits l m v h s = at_lane (Effect l.shown.ask 0 l) m (shown state.Worker l.shown.ask l.shown.posted l.shown.taken) l.hidden v.1 h
    (goes l state.Worker l.shown.ask s (λ e. cc) (λ e. cc) (λ ne. absurd (ne refl)) (λ ne. s.in_round (λ e. cc)) (λ e. ((s.unasked e).0, tt)) (inl refl))

rises : (l m : Lane) → (l.shown.state ≡ state.Worker) × (m.shown ≡ shown state.Free l.shown.ask l.shown.posted l.shown.taken) → (l.hidden.hand ≡ None) × (m.hidden ≡ l.hidden) → IsSound l → Effect l.shown.ask 0 l m
rises l m v h s = at_lane (Effect l.shown.ask 0 l) m (shown state.Free l.shown.ask l.shown.posted l.shown.taken) l.hidden v.1 h.1
    (goes l state.Free l.shown.ask s (λ e. cc) (λ e. cc) (λ ne. h.0) (λ ne. s.in_round (λ e. cc)) (λ e. (h.0, tt)) (inl refl))

nothing : (l : Lane) → IsSound l → l.shown.state ≡ state.Worker → l.hidden.hand ≡ None → pending l ≡ 0
nothing l s p h =
    let same : sum l.shown.posted ≡ sum l.shown.taken = ap sum (same_sums l s (λ e. cc)) in
    let none : decided_of l ≡ 0 = ap amount (s.in_round (λ e. cc)) in
    let hand : amount l.hidden.hand ≡ 0 = ap amount h in
    omega arith

nothing_asked : (l : Lane) → IsSound l → l.shown.state ≡ state.Asked → pending l ≡ 0
nothing_asked l s p =
    let same : sum l.shown.posted ≡ sum l.shown.taken = ap sum (same_sums l s (λ e. cc)) in
    let none : decided_of l ≡ 0 = ap amount (s.in_round (λ e. cc)) in
    let hand : amount l.hidden.hand ≡ 0 = ap amount (s.in_hand (λ e. cc)) in
    omega arith

asks : (l m : Lane) (a : Ask) → (l.shown.state ≡ state.Worker) × (m.shown ≡ shown state.Asked (Some a) l.shown.posted l.shown.taken) → (l.hidden.hand ≡ None) × (m.hidden ≡ l.hidden) → IsSound l → Effect (Some a) 0 l m
asks l m a v h s = at_lane (Effect (Some a) 0 l) m (shown state.Asked (Some a) l.shown.posted l.shown.taken) l.hidden v.1 h.1
    (goes l state.Asked (Some a) s (λ e. cc) (λ e. cc) (λ ne. h.0) (λ ne. s.in_round (λ e. cc)) (λ e. absurd (cc)) (inr (nothing l s v.0 h.0)))

is_collected : (l m : Lane) → (l.shown.state ≡ state.Asked) × (m.shown ≡ shown state.Round l.shown.ask l.shown.posted l.shown.taken) → m.hidden ≡ l.hidden → IsSound l → Effect l.shown.ask 0 l m
is_collected l m v h s = at_lane (Effect l.shown.ask 0 l) m (shown state.Round l.shown.ask l.shown.posted l.shown.taken) l.hidden v.1 h
    (goes l state.Round l.shown.ask s (λ e. cc) (λ e. cc) (λ ne. s.in_hand (λ e. cc)) (λ ne. absurd (ne refl)) (λ e. absurd (never l state.Asked s v.0 (λ z. z) e)) (inl refl))

stays : (l : Lane) → IsSound l → Effect l.shown.ask 0 l l
stays l s = record { sound = s; ask_is = refl; less = inl refl; most = omega arith; kept = refl }

is_missed : (l m : Lane) → m.shown ≡ l.shown → m.hidden ≡ l.hidden → IsSound l → Effect l.shown.ask 0 l m
is_missed l m v h s = at_lane (Effect l.shown.ask 0 l) m l.shown l.hidden v h (stays l s)

is_posted : (l m : Lane) (n : ℕ) → (l.shown.state ≡ state.Round) × (m.shown ≡ shown state.Granted l.shown.ask (l.shown.posted ++ n ∷ []) l.shown.taken)
    → (n ≡ amount l.hidden.decided) × (m.hidden ≡ hidden l.hidden.moved l.hidden.back l.hidden.hand None) → IsSound l → Effect l.shown.ask 0 l m
is_posted l m n v h s = at_lane (Effect l.shown.ask 0 l) m (shown state.Granted l.shown.ask (l.shown.posted ++ n ∷ []) l.shown.taken) (hidden l.hidden.moved l.hidden.back l.hidden.hand None) v.1 h.1
    (let same : l.shown.posted ≡ l.shown.taken = same_sums l s (λ e. cc) in
    let sums : sum l.shown.posted ≡ sum l.shown.taken = ap sum same in
    let more : sum (l.shown.posted ++ n ∷ []) ≡ sum l.shown.posted + n = sum_more l.shown.posted n in
    let due : n ≡ decided_of l = h.0 in
    record {
      sound = record {
        waiting = n ∷ [];
        posted_is = ap (λ (xs : List ℕ). xs ++ n ∷ []) same;
        waits = (n, refl);
        in_hand = λ ne. s.in_hand (λ e. cc);
        in_round = λ ne. refl;
        taken_is = s.taken_is;
        unasked = λ e. absurd (never l state.Round s v.0 (λ z. z) e);
      };
      ask_is = refl;
      less = inl refl;
      most = omega arith;
      kept = omega arith;
    })

takes : (l m : Lane) (n : ℕ) → (l.shown.state ≡ state.Granted) × (l.shown.posted ≡ l.shown.taken ++ n ∷ []) × (m.shown ≡ shown state.Worker l.shown.ask l.shown.posted (l.shown.taken ++ n ∷ []))
    → m.hidden ≡ hidden l.hidden.moved l.hidden.back (Some n) l.hidden.decided → IsSound l → Effect l.shown.ask 0 l m
takes l m n v h s = at_lane (Effect l.shown.ask 0 l) m (shown state.Worker l.shown.ask l.shown.posted (l.shown.taken ++ n ∷ [])) (hidden l.hidden.moved l.hidden.back (Some n) l.hidden.decided) v.2 h
    (let sums : sum l.shown.posted ≡ sum (l.shown.taken ++ n ∷ []) = ap sum v.1 in
    let more : sum (l.shown.taken ++ n ∷ []) ≡ sum l.shown.taken + n = sum_more l.shown.taken n in
    let none : amount l.hidden.hand ≡ 0 = ap amount (s.in_hand (λ e. cc)) in
    let whole : l.hidden.moved + l.hidden.back + amount l.hidden.hand ≡ sum l.shown.taken = s.taken_is in
    record {
      sound = record {
        waiting = [];
        posted_is = v.1 ∙ sym (append-nil (l.shown.taken ++ n ∷ []));
        waits = refl;
        in_hand = λ ne. absurd (ne refl);
        in_round = λ ne. s.in_round (λ e. cc);
        taken_is = omega arith;
        unasked = λ e. absurd (never l state.Granted s v.0 (λ z. z) e);
      };
      ask_is = refl;
      less = inl refl;
      most = omega arith;
      kept = omega arith;
    })

moves : (l m : Lane) (n : ℕ) → m.shown ≡ l.shown → (h : ℕ) × (l.hidden.hand ≡ Some h) × (n ≤ h) × (m.hidden ≡ hidden (l.hidden.moved + n) (l.hidden.back + (h - n)) None l.hidden.decided) → IsSound l → Effect l.shown.ask n l m
moves l m n v h s = at_lane (Effect l.shown.ask n l) m l.shown (hidden (l.hidden.moved + n) (l.hidden.back + (h.0 - n)) None l.hidden.decided) v h.3
    (let hand : amount l.hidden.hand ≡ h.0 = ap amount h.1 in
    let fits : n ≤ h.0 = h.2 in
    let whole : l.hidden.moved + l.hidden.back + amount l.hidden.hand ≡ sum l.shown.taken = s.taken_is in
    record {
      sound = record {
        waiting = s.waiting;
        posted_is = s.posted_is;
        waits = s.waits;
        in_hand = λ ne. refl;
        in_round = s.in_round;
        taken_is = omega arith;
        unasked = λ e. (refl, (s.unasked e).1);
      };
      ask_is = refl;
      less = inl refl;
      most = omega arith;
      kept = omega arith;
    })

-- the ask of the lane of an event, after it
abbrev pub ask_after : Event → Option Ask → Option Ask
ask_after (event.Asked i a) old = Some a
ask_after e old = old

pub effect : (e : Event) (a : EventAnswer) (l m : Lane) → ShownStep e a l.shown m.shown → HiddenStep e a l.hidden m.hidden → IsSound l → Effect (ask_after e l.shown.ask) (octets_by e) l m
effect (event.Sit i) answer.Done l m v h s = sits l m v h s
effect (event.Asked i b) answer.Done l m v h s = asks l m b v h s
effect (event.Collect i) answer.Got l m v h s = is_collected l m v h s
effect (event.Collect i) answer.Missed l m v h s = is_missed l m v.1 h s
effect (event.Post i) (answer.Posted n) l m v h s = is_posted l m n v h s
effect (event.Taken i) (answer.Taken n) l m v h s = takes l m n v h s
effect (event.Moved i n) answer.Done l m v h s = moves l m n v h s
effect (event.Rise i) answer.Done l m v h s = rises l m v h s
effect e a l m v h s = absurd v

-- the tick of the decision that what is pending on a lane is of: the last decision's while the lane is in Round, and else that of the grant posted last
abbrev pub tick_for : LaneState → ℕ → ℕ → ℕ
tick_for state.Round deciding granted = deciding
tick_for s deciding granted = granted

-- the tick of the grant posted last, after an event of its lane
abbrev pub granted_after : Event → ℕ → ℕ → ℕ
granted_after (event.Post i) deciding granted = deciding
granted_after e deciding granted = granted

same_tick : (l m : Lane) (p q : LaneState) (d g h : ℕ) → l.shown.state ≡ p → m.shown.state ≡ q → tick_for q d h ≡ tick_for p d g → tick_for m.shown.state d h ≡ tick_for l.shown.state d g
same_tick l m p q d g h x y e = ap (λ (s : LaneState). tick_for s d h) y ∙ e ∙ sym (ap (λ (s : LaneState). tick_for s d g) x)

kept_tick : (l m : Lane) (d g : ℕ) → m.shown ≡ l.shown → tick_for m.shown.state d g ≡ tick_for l.shown.state d g
kept_tick l m d g e = ap (λ (s : Shown). tick_for s.state d g) e

-- an event keeps the tick of what is pending, or nothing is pending
pub timed : (e : Event) (a : EventAnswer) (l m : Lane) (d g : ℕ) → ShownStep e a l.shown m.shown → HiddenStep e a l.hidden m.hidden → IsSound l
    → (tick_for m.shown.state d (granted_after e d g) ≡ tick_for l.shown.state d g) ⊎ (pending m + octets_by e ≡ 0)
timed (event.Sit i) answer.Done l m d g v h s = inl (same_tick l m state.Free state.Worker d g g v.0 (ap (λ (x : Shown). x.state) v.1) refl)
timed (event.Asked i b) answer.Done l m d g v h s = inl (same_tick l m state.Worker state.Asked d g g v.0 (ap (λ (x : Shown). x.state) v.1) refl)
timed (event.Collect i) answer.Got l m d g v h s =
    inr (let none : pending l ≡ 0 = nothing_asked l s v.0 in at_lane (λ (x : Lane). pending x + 0 ≡ 0) m (shown state.Round l.shown.ask l.shown.posted l.shown.taken) l.hidden v.1 h (omega arith))
timed (event.Collect i) answer.Missed l m d g v h s = inl (kept_tick l m d g v.1)
timed (event.Post i) (answer.Posted n) l m d g v h s = inl (same_tick l m state.Round state.Granted d g d v.0 (ap (λ (x : Shown). x.state) v.1) refl)
timed (event.Taken i) (answer.Taken n) l m d g v h s = inl (same_tick l m state.Granted state.Worker d g g v.0 (ap (λ (x : Shown). x.state) v.2) refl)
timed (event.Moved i n) answer.Done l m d g v h s = inl (kept_tick l m d g v)
timed (event.Rise i) answer.Done l m d g v h s = inl (same_tick l m state.Worker state.Free d g g v.0 (ap (λ (x : Shown). x.state) v.1) refl)
timed e a l m d g v h s = absurd v
