-- The round's steps at a seat whose view is known.
use Rattle.std.proofs.Common.{◌≡◌, ◌≢◌, ℕ, suc, ◌+◌, ◌-◌, ◌<◌, ◌≤◌, eqb, eq-eqb, ne_eqb, eqb-true, List, [], ◌∷◌, ◌++◌, length, get_or, set, sum, Bool, true, false, ◌||◌, sym, refl, ap, ◌∙◌, subst, arith, length-set, length-append, get_or-set_other, get_or-set_same}
use mathlib.Core.Logic.{dite}
use mathlib.Core.Option.{none}
use native.Mathlib.Decide.{ℕ_discrete}
use Rattle.atomic_table.specs.Table.{Me, step, rest, Allows}
use Rattle.line_rates.specs.declared.ask.Ask.{Ask}
use Rattle.grant_ledger.specs.Books.{GrantView}
use Rattle.desk_rule.specs.declared.view.LaneSlot.{LaneSlot}
use Rattle.desk_rule.specs.declared.view.LaneSlot.TheVariants.{Blank, WithGrant}
use Rattle.desk_rule.specs.declared.view.TraceView.{TraceView}
use Rattle.desk_rule.specs.declared.view.RoundView.{RoundView}
use Rattle.desk_rule.specs.declared.view.DeskView.{DeskView}
use Rattle.desk_rule.specs.declared.view.DeskView.TheVariants.{Round}
use Rattle.desk_rule.specs.Lanes.{Leads, is_due, any_due, is_answering, now_answering, with_answer, trace_in, with_trace, untraced, posted_in, posted_by, most, has_posted, has_collected, has_missed}
use Rattle.desk_rule.specs.Steps.{Ran}
use Rattle.desk_rule.specs.Lanes as spec
use Rattle.lane_desk.specs.Held.{below, above, stack, round_in, KnowsDesk}
use Rattle.desk_rule.proofs.Keeps.{posts, collects, posted_set}
use prog.Atomic.{either}
use lib.Seq.{set-get_or}
use Rattle.lane_desk.proofs.Held.{whole, joins_front, in_front, leaves_front}

abbrev pub IsRound : DeskView → Type 0
IsRound v = v ≡ Round (round_in v)

pub rounds_of : (v : DeskView) (i : ℕ) → IsRound v → i < length (round_in v).traces → Leads i v
rounds_of v i e h = subst (Leads i) (sym e) h

module _ {N : Type 0} where
  pub all_in : (fs : List Bool) (n m : ℕ) (l : List (ℕ × (LaneSlot N))) → m ≡ 0 → l ≡ stack fs 0 n → l ≡ stack fs n m
  all_in fs n m l e is = is ∙ sym (whole fs n) ∙ ap (stack fs n) (sym e)

pub not_due : (t : TraceView) → length t.collected ≡ length t.posted → is_due t ≡ false
not_due t e = ne_eqb (length t.collected) (length t.posted + 1) (λ f. omega arith)

pub round_after : (v : DeskView) (i : ℕ) (t : TraceView) → IsRound v → round_in (with_trace i t v) ≡ record { dealt = (round_in v).dealt; traces = set (round_in v).traces i t; back = (round_in v).back; answering = (round_in v).answering }
round_after v i t e = subst (λ (u : DeskView). round_in (with_trace i t u) ≡ record { dealt = (round_in u).dealt; traces = set (round_in u).traces i t; back = (round_in u).back; answering = (round_in u).answering }) (sym e) refl

quiet_is : (v : DeskView) → IsRound v → is_answering v ≡ (round_in v).answering
quiet_is v e = subst (λ (u : DeskView). is_answering u ≡ (round_in u).answering) (sym e) refl

-- the round's view after an answer
pub round_answered : (v : DeskView) → IsRound v → round_in (now_answering v) ≡ record { dealt = (round_in v).dealt; traces = (round_in v).traces; back = (round_in v).back; answering = any_due (round_in v).traces }
round_answered v e = subst (λ (u : DeskView). round_in (now_answering u) ≡ record { dealt = (round_in u).dealt; traces = (round_in u).traces; back = (round_in u).back; answering = any_due (round_in u).traces }) (sym e) refl

still_answering : (v : DeskView) (i : ℕ) (t : TraceView) → IsRound v → (round_in (with_answer i t v)).answering ≡ any_due (round_in (with_answer i t v)).traces
still_answering v i t e = subst (λ (u : DeskView). (round_in (with_answer i t u)).answering ≡ any_due (round_in (with_answer i t u)).traces) (sym e) refl

pub answering_of : {A : Type 0} (m m' : DeskView × A) (i : ℕ) (t : TraceView) (l : A) → IsRound m.0 → m' ≡ (with_answer i t m.0, l) → (round_in m'.0).answering ≡ any_due (round_in m'.0).traces
answering_of {A} m m' i t l e is = subst (λ (u : DeskView × A). (round_in u.0).answering ≡ any_due (round_in u.0).traces) (sym is) (still_answering m.0 i t e)

pub trace_answered : (v : DeskView) (i : ℕ) (t : TraceView) → IsRound v → round_in (with_answer i t v) ≡ record { dealt = (round_in v).dealt; traces = set (round_in v).traces i t; back = (round_in v).back; answering = any_due (set (round_in v).traces i t) }
trace_answered v i t e = subst (λ (u : DeskView). round_in (with_answer i t u) ≡ record { dealt = (round_in u).dealt; traces = set (round_in u).traces i t; back = (round_in u).back; answering = any_due (set (round_in u).traces i t) }) (sym e) refl

-- a try leaves the round as quiet as it was
pub quiet_after : {A : Type 0} (m m' : DeskView × A) (i : ℕ) (t : TraceView) (l : A) → IsRound m.0 → (round_in m.0).answering ≡ false → m' ≡ (with_trace i t m.0, l) → (round_in m'.0).answering ≡ false
quiet_after {A} m m' i t l e quiet is = ap (λ (u : DeskView × A). (round_in u.0).answering) is ∙ ap (λ (s : RoundView). s.answering) (round_after m.0 i t e) ∙ quiet

quiet_knows : (v : DeskView) → (round_in v).answering ≡ false → (round_in v).answering ≡ true → any_due (round_in v).traces ≡ true
quiet_knows v q e = let f : false ≡ true = sym q ∙ e in absurd (cc)

-- a round that knows of no lane that is due is quiet
pub quiet_when : (v : DeskView) → ((round_in v).answering ≡ true → any_due (round_in v).traces ≡ true) → any_due (round_in v).traces ≡ false → (round_in v).answering ≡ false
quiet_when v answers all = go (round_in v).answering answers
  where
    go : (b : Bool) → (b ≡ true → any_due (round_in v).traces ≡ true) → b ≡ false
    go true h = let f : true ≡ false = sym (h refl) ∙ all in absurd (cc)
    go false h = refl

pub none_due : (ts : List TraceView) → ((i : ℕ) → i < length ts → length (get_or ts i untraced).collected ≡ length (get_or ts i untraced).posted) → any_due ts ≡ false
none_due [] all = refl
none_due (t ∷ ts) all = (λ q. not_due t (all 0 (omega arith)) q || any_due ts) ∙ none_due ts (λ i less. all (suc i) (omega arith))

trace_here : (v : DeskView) (i : ℕ) (t : TraceView) → IsRound v → i < length (round_in v).traces → trace_in i (with_trace i t v) ≡ t
trace_here v i t e = subst (λ (u : DeskView). i < length (round_in u).traces → trace_in i (with_trace i t u) ≡ t) (sym e) (λ h. get_or-set_same (round_in v).traces i t untraced h)

trace_else : (v : DeskView) (i j : ℕ) (t : TraceView) → IsRound v → j ≢ i → trace_in j (with_trace i t v) ≡ trace_in j v
trace_else v i j t e ne = subst (λ (u : DeskView). trace_in j (with_trace i t u) ≡ trace_in j u) (sym e) (get_or-set_other (round_in v).traces i j t untraced ne)

still_round : (v : DeskView) (i : ℕ) (t : TraceView) → IsRound v → IsRound (with_trace i t v)
still_round v i t e = subst (λ (u : DeskView). IsRound (with_trace i t u)) (sym e) refl

within_after : (v : DeskView) (i : ℕ) (t : TraceView) → IsRound v → i < length (round_in v).traces → posted_in (round_in v).traces + sum t.posted ≤ most + sum (trace_in i v).posted → posted_in (round_in (with_trace i t v)).traces ≤ most
within_after v i t e = subst (λ (u : DeskView). i < length (round_in u).traces → posted_in (round_in u).traces + sum t.posted ≤ most + sum (trace_in i u).posted → posted_in (round_in (with_trace i t u)).traces ≤ most) (sym e)
    (λ near few. let p = posted_set (round_in v).traces i t near in omega arith)

module _ {N : Type 0} where
  -- the round's seat after a step at the lane i
  pub knows_after : (m m' : (Me (LaneSlot N) DeskView)) (lanes n : ℕ) (held : List Bool) (i : ℕ) (t : TraceView) (b : Bool) → KnowsDesk m lanes held → i < lanes → n ≡ lanes → posted_in (round_in m.0).traces + sum t.posted ≤ most + sum (trace_in i m.0).posted → is_due t ≡ b → m' ≡ (with_trace i t m.0, stack (set held i b) 0 n) → KnowsDesk m' lanes (set held i b)
  knows_after m m' lanes n held i t b k near e few due is = subst (λ (u : (Me (LaneSlot N) DeskView)). KnowsDesk u lanes (set held i b)) (sym (is ∙ ap (λ (z : ℕ). (with_trace i t m.0, stack (set held i b) 0 z)) e))
      record {
        view_is = still_round m.0 i t k.view_is;
        wide = ap (λ (s : RoundView). length s.traces) (round_after m.0 i t k.view_is) ∙ length-set (round_in m.0).traces i t ∙ k.wide;
        room = omega (arith, k.room, length-set held i b);
        slots_are = refl;
        within = within_after m.0 i t k.view_is (subst (λ (z : ℕ). i < z) (sym k.wide) near) few;
        marks = λ j below. dite (ℕ_discrete j i)
            (λ e. subst (λ (z : ℕ). get_or (set held i b) z false ≡ is_due (trace_in z (with_trace i t m.0))) (sym e)
            (get_or-set_same held i b false (omega (arith, near, k.room)) ∙ sym due ∙ ap is_due (sym (trace_here m.0 i t k.view_is (subst (λ (z : ℕ). i < z) (sym k.wide) near)))))
            (λ ne. get_or-set_other held i j b false ne ∙ k.marks j below ∙ ap is_due (sym (trace_else m.0 i j t k.view_is ne)));
      }

module _ {N : Type 0} where
  -- and after an answer
  pub knows_answered : (u : DeskView) (l : List (ℕ × (LaneSlot N))) (lanes : ℕ) (held : List Bool) → KnowsDesk (u, l) lanes held → KnowsDesk (now_answering u, l) lanes held
  knows_answered u l lanes held k =
      let same = round_answered u k.view_is in
      let traces : (round_in (now_answering u)).traces ≡ (round_in u).traces = ap (λ (s : RoundView). s.traces) same in
      record {
        view_is = subst (λ (v : DeskView). IsRound (now_answering v)) (sym k.view_is) refl;
        wide = ap (λ (ts : List TraceView). length ts) traces ∙ k.wide;
        room = k.room;
        slots_are = k.slots_are;
        within = subst (λ (ts : List TraceView). posted_in ts ≤ most) (sym traces) k.within;
        marks = λ i less. k.marks i less ∙ ap is_due (same_trace u i k.view_is);
      }
    where
      same_trace : (v : DeskView) (i : ℕ) → IsRound v → trace_in i v ≡ trace_in i (now_answering v)
      same_trace v i e = subst (λ (w : DeskView). trace_in i w ≡ trace_in i (now_answering w)) (sym e) refl

  pub knows_posted : (m m' : (Me (LaneSlot N) DeskView)) (lanes n : ℕ) (held : List Bool) (i : ℕ) (t : TraceView) (b : Bool) → KnowsDesk m lanes held → i < lanes → n ≡ lanes → posted_in (round_in m.0).traces + sum t.posted ≤ most + sum (trace_in i m.0).posted → is_due t ≡ b → m' ≡ (with_answer i t m.0, stack (set held i b) 0 n) → KnowsDesk m' lanes (set held i b)
  knows_posted m m' lanes n held i t b k near e few due is = subst (λ (u : (Me (LaneSlot N) DeskView)). KnowsDesk u lanes (set held i b)) (sym is)
      (knows_answered (with_trace i t m.0) (stack (set held i b) 0 n) lanes (set held i b) (knows_after m (with_trace i t m.0, stack (set held i b) 0 n) lanes n held i t b k near e few due refl))

pub collected_due : (a : Ask) (t : TraceView) → length t.collected ≡ length t.posted → is_due (has_collected a t) ≡ true
collected_due a t e = eq-eqb (length (t.collected ++ a ∷ [])) (length t.posted + 1) (omega (arith, e, length-append t.collected (a ∷ [])))

pub posted_not_due : (n : ℕ) (t : TraceView) → is_due t ≡ true → is_due (has_posted n t) ≡ false
posted_not_due n t due = let e = eqb-true (length t.collected) (length t.posted + 1) due in ne_eqb (length t.collected) (length (t.posted ++ n ∷ []) + 1) (λ f. omega (arith, e, f, length-append t.posted (n ∷ [])))

pub posted_is : (v : DeskView) → IsRound v → posted_by v ≡ posted_in (round_in v).traces
posted_is v e = subst (λ (u : DeskView). posted_by u ≡ posted_in (round_in u).traces) (sym e) refl

pub trace_is : (v : DeskView) (i : ℕ) → IsRound v → trace_in i v ≡ get_or (round_in v).traces i untraced
trace_is v i e = subst (λ (u : DeskView). trace_in i u ≡ get_or (round_in u).traces i untraced) (sym e) refl

module _ {N : Type 0} where
  -- the slots before and behind that of a lane that is held
  pub rest_is : (m : (Me (LaneSlot N) DeskView)) (lanes : ℕ) (held : List Bool) (i n : ℕ) (l : List (ℕ × (LaneSlot N))) → get_or held i false ≡ true → l ≡ stack held (i + 1) n → rest l ≡ below held i ++ above held (suc i) n
  rest_is m lanes held i n l e is =
      let one : i + 1 ≡ suc i = omega arith in
      ap rest (is ∙ ap (λ (z : ℕ). stack held z n) one ∙ in_front held i n e)

  pub posts_of : (n id : ℕ) (m : (Me (LaneSlot N) DeskView)) (v : DeskView) (c : List (ℕ × (LaneSlot N))) (i : ℕ) (g : GrantView) → m ≡ (v, (i, WithGrant g) ∷ c) → Leads i v → is_due (trace_in i v) ≡ true → g.lane ≡ i → posted_by v + g.octets ≤ most
      → Allows Ran n id m i (λ _. 4) (λ _. spec.posts (step n i 4 0 none) m 4)
  posts_of n id m v c i g is o due bears few = subst (λ (u : (Me (LaneSlot N) DeskView)). Allows Ran n id u i (λ _. 4) (λ _. spec.posts (step n i 4 0 none) u 4)) (sym is)
      (posts n id (v, (i, WithGrant g) ∷ c) i g o (eqb-true (length (trace_in i v).collected) (length (trace_in i v).posted + 1) due) bears few refl)

  pub posts_then : (m m' : (Me (LaneSlot N) DeskView)) (v : DeskView) (c : List (ℕ × (LaneSlot N))) (i : ℕ) (g : GrantView) → m ≡ (v, (i, WithGrant g) ∷ c) → spec.posts (step 0 i 4 0 none) m 4 m' → m' ≡ (with_answer i (has_posted g.octets (trace_in i v)) v, c)
  posts_then m m' v c i g is reported = subst (λ (u : (Me (LaneSlot N) DeskView)). spec.posts (step 0 i 4 0 none) u 4 m') is reported g refl

  pub left_slot : (held : List Bool) (i n n' : ℕ) (l : List (ℕ × (LaneSlot N))) → i < length held → l ≡ below held i ++ above held (suc i) n' → n ≡ suc n' → l ≡ stack (set held i false) i n
  left_slot held i n n' l near is e = is ∙ leaves_front held i n' near ∙ ap (stack (set held i false) i) (sym e)

  pub collects_of : (n id : ℕ) (m0 m1 : (Me (LaneSlot N) DeskView)) (lanes : ℕ) (held : List Bool) (i : ℕ) (l : List (ℕ × (LaneSlot N))) → KnowsDesk m0 lanes held → i < lanes → (round_in m0.0).answering ≡ false → m1 ≡ (m0.0, l) → Allows Ran n id m1 i (λ y. either (eqb y 2) 3 y) (spec.collects (step n i 2 3 none) m1)
  collects_of n id m0 m1 lanes held i l k near quiet is = subst (λ (u : (Me (LaneSlot N) DeskView)). Allows Ran n id u i (λ y. either (eqb y 2) 3 y) (spec.collects (step n i 2 3 none) u)) (sym is)
      (collects n id (m0.0, l) i (rounds_of m0.0 i k.view_is (subst (λ (z : ℕ). i < z) (sym k.wide) near)) (quiet_is m0.0 k.view_is ∙ quiet))

  -- the round's seat once it has read the ask
  pub collected_front : (m0 m1 m2 m3 : (Me (LaneSlot N) DeskView)) (lanes : ℕ) (held : List Bool) (i n n' : ℕ) → KnowsDesk m0 lanes held → i < lanes → n ≡ suc n' → m1 ≡ (m0.0, stack held i n) → spec.Collected (step 0 i 2 3 none) m1 m2 → m3 ≡ (m2.0, (i, Blank) ∷ rest m2.1)
      → (a : Ask) × (is_due (has_collected a (trace_in i m0.0)) ≡ true) × (m3 ≡ (with_trace i (has_collected a (trace_in i m0.0)) m0.0, stack (set held i true) (i + 1) n'))
  collected_front m0 m1 m2 m3 lanes held i n n' k near e is reported put =
      let t = subst (λ (u : (Me (LaneSlot N) DeskView)). spec.Collected (step 0 i 2 3 none) u m2) is reported in
      let a : Ask = t.0 in
      let one : suc i ≡ i + 1 = omega arith in
      let v : DeskView = with_trace i (has_collected a (trace_in i m0.0)) m0.0 in (
        a,
        collected_due a (trace_in i m0.0) t.1,
        put ∙ ap (λ (u : (Me (LaneSlot N) DeskView)). (u.0, (i, Blank) ∷ rest u.1)) t.2
            ∙ ap (λ (z : ℕ). (v, (i, Blank) ∷ stack held i z)) e
            ∙ ap (λ (l : List (ℕ × (LaneSlot N))). (v, l)) (joins_front held i n' (omega (arith, near, k.room)) (k.marks i near ∙ not_due (trace_in i m0.0) t.1) ∙ ap (λ (z : ℕ). stack (set held i true) z n') one),
      )

  -- the round's seat once it has put its grant into the slot
  pub posting_front : (m0 m1 m2 : (Me (LaneSlot N) DeskView)) (lanes : ℕ) (held : List Bool) (i n : ℕ) (g : GrantView) → KnowsDesk m0 lanes held → i < lanes → is_due (get_or (round_in m0.0).traces i untraced) ≡ true → m1 ≡ (m0.0, stack held (i + 1) n) → m2 ≡ (m1.0, (i, WithGrant g) ∷ rest m1.1)
      → m2 ≡ (m0.0, (i, WithGrant g) ∷ (below held i ++ above held (suc i) n))
  posting_front m0 m1 m2 lanes held i n g k near due is put =
      put ∙ (λ q. ((is q).0, (i, WithGrant g) ∷ rest (is q).1)) ∙ ap (λ (l : List (ℕ × (LaneSlot N))). (m0.0, (i, WithGrant g) ∷ l)) (rest_is m0 lanes held i n (stack held (i + 1) n) (k.marks i near ∙ ap is_due (trace_is m0.0 i k.view_is) ∙ due) refl)

  pub posts_front : (n' id : ℕ) (m0 m2 : (Me (LaneSlot N) DeskView)) (lanes : ℕ) (held : List Bool) (i : ℕ) (g : GrantView) (c : List (ℕ × (LaneSlot N))) → KnowsDesk m0 lanes held → i < lanes → is_due (get_or (round_in m0.0).traces i untraced) ≡ true → g.lane ≡ i → posted_in (round_in m0.0).traces + g.octets ≤ most → m2 ≡ (m0.0, (i, WithGrant g) ∷ c)
      → Allows Ran n' id m2 i (λ _. 4) (λ _. spec.posts (step n' i 4 0 none) m2 4)
  posts_front n' id m0 m2 lanes held i g c k near due bears few is =
      posts_of n' id m2 m0.0 c i g is (rounds_of m0.0 i k.view_is (subst (λ (z : ℕ). i < z) (sym k.wide) near)) (ap is_due (trace_is m0.0 i k.view_is) ∙ due) bears (subst (λ (z : ℕ). z + g.octets ≤ most) (sym (posted_is m0.0 k.view_is)) few)

  -- the round's seat after a try that found no ask
  pub knows_missed : (m0 m1 m2 m3 : (Me (LaneSlot N) DeskView)) (lanes n : ℕ) (l : List (ℕ × (LaneSlot N))) (held : List Bool) (i : ℕ) → KnowsDesk m0 lanes held → i < lanes → n ≡ lanes → m1 ≡ (m0.0, l) → m2 ≡ (with_trace i (has_missed (trace_in i m1.0)) m1.0, m1.1) → m3 ≡ (m2.0, stack held 0 n) → KnowsDesk m3 lanes held
  knows_missed m0 m1 m2 m3 lanes n l held i k near e is reported end =
      let t : TraceView = has_missed (trace_in i m0.0) in
      let same = set-get_or held i false in
      subst (λ (h : List Bool). KnowsDesk m3 lanes h) same
      (knows_after m0 m3 lanes n held i t (get_or held i false) k near e (omega (arith, k.within)) (sym (k.marks i near))
      (end ∙ ap (λ (u : (Me (LaneSlot N) DeskView)). (u.0, stack held 0 n)) reported ∙ ap (λ (u : (Me (LaneSlot N) DeskView)). (with_trace i (has_missed (trace_in i u.0)) u.0, stack held 0 n)) is ∙ ap (λ (h : List Bool). (with_trace i t m0.0, stack h 0 n)) (sym same)))

-- a try that found no ask leaves the round quiet
pub quiet_missed : {A : Type 0} (m0 m1 m2 m3 : DeskView × A) (i : ℕ) (l l' : A) → IsRound m0.0 → (round_in m0.0).answering ≡ false → m1 ≡ (m0.0, l) → m2 ≡ (with_trace i (has_missed (trace_in i m1.0)) m1.0, m1.1) → m3 ≡ (m2.0, l') → (round_in m3.0).answering ≡ false
quiet_missed m0 m1 m2 m3 i l l' e quiet is reported end =
    quiet_after m0 m3 i (has_missed (trace_in i m0.0)) l' e quiet
    (end ∙ ap (λ u. (u.0, l')) reported ∙ ap (λ u. (with_trace i (has_missed (trace_in i u.0)) u.0, l')) is)

pub quiet_then : {A : Type 0} (m m' : DeskView × A) (i : ℕ) (t : TraceView) (l : A) → IsRound m.0 → (round_in m.0).answering ≡ false → m' ≡ (with_trace i t m.0, l) → (round_in m'.0).answering ≡ true → any_due (round_in m'.0).traces ≡ true
quiet_then m m' i t l e quiet is = quiet_knows m'.0 (quiet_after m m' i t l e quiet is)

pub missed_then : {A : Type 0} (m0 m1 m2 m3 : DeskView × A) (i : ℕ) (l l' : A) → IsRound m0.0 → (round_in m0.0).answering ≡ false → m1 ≡ (m0.0, l) → m2 ≡ (with_trace i (has_missed (trace_in i m1.0)) m1.0, m1.1) → m3 ≡ (m2.0, l') → (round_in m3.0).answering ≡ true → any_due (round_in m3.0).traces ≡ true
missed_then m0 m1 m2 m3 i l l' e quiet is reported end = quiet_knows m3.0 (quiet_missed m0 m1 m2 m3 i l l' e quiet is reported end)
