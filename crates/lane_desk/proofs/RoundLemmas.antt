-- What trying, deciding and posting leave.
use Rattle.std.proofs.Common.{◌≡◌, ℕ, zero, suc, ◌+◌, ◌<◌, List, [], ◌∷◌, ◌++◌, map, length, get_or, sum, sym, refl, ap, ◌∙◌, subst, arith, Bool, true, false, cond, Option, Some, None, IsPermutation, length-append}
use Rattle.std.proofs.lemmas.List.Sorted.{IsPermutation-refl}
use Rattle.limit_tree.specs.Sharing.{LimitTree}
use Rattle.line_rates.specs.declared.ask.Ask.{Ask}
use Rattle.line_rates.specs.Rates.{Rates}
use Rattle.line_rates.specs.TickTree.{Asker, lane_in, IsPlan}
use Rattle.grant_ledger.specs.Books.{BookView}
use Rattle.desk_rule.specs.declared.view.TraceView.{TraceView}
use Rattle.desk_rule.specs.Lanes.{has_missed, has_collected, has_posted, posted_in}
use Rattle.lane_desk.specs.declared.refusal.RoundRefusal.{RoundRefusal}
use Rattle.fair_shares.specs.Asked.{IsAskedPlan}
use Rattle.lane_desk.specs.Refusals.{IsRefused}
use Rattle.lane_desk.specs.Tried.{every, tried_by, tried, asks_from, mark_of, AreTried}
use Rattle.lane_desk.specs.Posted.{trace_at, posted_all, AreDue, AllAnswered, nothing_for}
use Rattle.lane_desk.specs.Rounded.{IsAnswered, IsTurnedAway, IsRoundOver, IsRefusedRoundOver, IsRound, IsRefusedRound}
use Rattle.lane_desk.proofs.TriedLemmas.{tried_at, length-tried, posted_same, posted_in-tried}
use Rattle.lane_desk.proofs.DueLemmas.{many, many_moved, many_at, names_not, place_of, due_of}
use Rattle.lane_desk.proofs.PostedLemmas.{post_else, post_at, length-posted_all, posted_sum, zero_at, zero_sum}

abbrev Find : Type 0
Find = Option Ask

abbrev Outcome : Bool → Find → TraceView → TraceView → List ℕ → Type 0
Outcome given None t t' ns = t' ≡ cond given (has_missed t) t
Outcome given (Some a) t t' ns = (j : ℕ) × (t' ≡ has_posted (get_or ns j 0) (has_collected a t))

within_due : (ls : List ℕ) (ts : List TraceView) (j : ℕ) → AreDue ls ts → j < length ls → get_or ls j 0 < length ts
within_due [] ts j d h = absurd (omega (arith, h))
within_due (l ∷ ls) ts zero d h = d.0
within_due (l ∷ ls) ts (suc j) d h = within_due ls ts j d.3 (omega (arith, h))

module _ (given : ℕ → Bool) (fs : List Find) (old : List TraceView) (order : List Asker) (ns : List ℕ) (wide : length fs ≡ length old) (answered : AllAnswered old) (moved : IsPermutation (asks_from 0 fs) order) (each : length (map lane_in order) ≡ length ns) where
  due : AreDue (map lane_in order) (tried given fs old)
  due = due_of given fs old order wide answered moved

  many_of : (i : ℕ) → many i order ≡ mark_of (get_or fs i None)
  many_of i = many_moved i (asks_from 0 fs) order moved ∙ many_at fs i

  outcome : (i : ℕ) → i < length old → Outcome (given i) (get_or fs i None) (trace_at old i) (trace_at (posted_all (map lane_in order) ns (tried given fs old)) i) ns
  outcome i near = go (get_or fs i None) refl
    where
      go : (f : Find) → get_or fs i None ≡ f → Outcome (given i) f (trace_at old i) (trace_at (posted_all (map lane_in order) ns (tried given fs old)) i) ns
      go None e =
          post_else (map lane_in order) ns (tried given fs old) i (names_not i order (many_of i ∙ ap mark_of e))
          ∙ tried_at given fs old i wide near ∙ ap (λ (f : Find). tried_by (given i) f (trace_at old i)) e
      go (Some a) e =
          let r = place_of i order (many_of i ∙ ap mark_of e) in (
            r.0,
            ap (trace_at (posted_all (map lane_in order) ns (tried given fs old))) (sym r.2)
                ∙ post_at (map lane_in order) ns (tried given fs old) r.0 due each r.1
                ∙ ap (λ (k : ℕ). has_posted (get_or ns r.0 0) (trace_at (tried given fs old) k)) r.2
                ∙ ap (has_posted (get_or ns r.0 0)) (tried_at given fs old i wide near ∙ ap (λ (f : Find). tried_by (given i) f (trace_at old i)) e),
          )

  posted : (j : ℕ) → j < length (map lane_in order) → (trace_at (posted_all (map lane_in order) ns (tried given fs old)) (get_or (map lane_in order) j 0)).posted ≡ (trace_at old (get_or (map lane_in order) j 0)).posted ++ get_or ns j 0 ∷ []
  posted j near =
      let k : ℕ = get_or (map lane_in order) j 0 in
      let here : k < length old = omega (arith, within_due (map lane_in order) (tried given fs old) j due near, length-tried given fs old) in
      ap (λ (t : TraceView). t.posted) (post_at (map lane_in order) ns (tried given fs old) j due each near)
      ∙ ap (λ (t : TraceView). t.posted ++ get_or ns j 0 ∷ []) (tried_at given fs old k wide here)
      ∙ ap (λ (p : List ℕ). p ++ get_or ns j 0 ∷ []) (posted_same (given k) (get_or fs k None) (trace_at old k))

  still : length (posted_all (map lane_in order) ns (tried given fs old)) ≡ length old
  still = length-posted_all (map lane_in order) ns (tried given fs old) ∙ length-tried given fs old

  total : posted_in (posted_all (map lane_in order) ns (tried given fs old)) ≡ posted_in old + sum ns
  total = posted_sum (map lane_in order) ns (tried given fs old) due each ∙ ap (λ (n : ℕ). n + sum ns) (posted_in-tried given fs old)

answers : (given : Bool) (f : Find) (t t' : TraceView) (ns : List ℕ) → Outcome given f t t' ns → IsAnswered given f t t'
answers given None t t' ns o = o
answers given (Some a) t t' ns o = (get_or ns o.0 0, o.1)

traces_away : (given : Bool) (f : Find) (t t' : TraceView) (xs : List Asker) → Outcome given f t t' (map nothing_for xs) → IsTurnedAway given f t t'
traces_away given None t t' xs o = o
traces_away given (Some a) t t' xs o = o.1 ∙ ap (λ (n : ℕ). has_posted n (has_collected a t)) (zero_at xs o.0)

even_after : (given : Bool) (f : Find) (t t' : TraceView) → IsAnswered given f t t' → length t.collected ≡ length t.posted → length t'.collected ≡ length t'.posted
even_after true None t t' is e = ap (λ (u : TraceView). length u.collected) is ∙ e ∙ sym (ap (λ (u : TraceView). length u.posted) is)
even_after false None t t' is e = ap (λ (u : TraceView). length u.collected) is ∙ e ∙ sym (ap (λ (u : TraceView). length u.posted) is)
even_after given (Some a) t t' is e = omega (arith, e, ap (λ (u : TraceView). length u.collected) is.1, ap (λ (u : TraceView). length u.posted) is.1, length-append t.collected (a ∷ []), length-append t.posted (is.0 ∷ []))

answered_so : (given : Bool) (f : Find) (t t' : TraceView) → IsTurnedAway given f t t' → IsAnswered given f t t'
answered_so given None t t' is = is
answered_so given (Some a) t t' is = (0, is)

-- the lanes of a plan are due
pub due_plan : (rates : Rates) (tick : ℕ) (tree : LimitTree) (lanes : List ℕ) (given : ℕ → Bool) (fs : List Find) (old mid : List TraceView) (asks : List Asker) (marks : ℕ) → AreTried given fs old mid asks marks → AllAnswered old → IsPlan rates tick asks tree lanes → AreDue lanes mid
due_plan rates tick tree lanes given fs old mid asks marks t answered p =
    subst (λ (z : List ℕ × List TraceView). AreDue z.0 z.1) (λ q. (sym p.lanes_are q, sym t.traces q))
    (due_of given fs old p.order t.wide answered (subst (λ (xs : List Asker). IsPermutation xs p.order) t.asks_are p.all))

-- so are those of the asks
pub due_asks : (given : ℕ → Bool) (fs : List Find) (old mid : List TraceView) (asks : List Asker) (marks : ℕ) → AreTried given fs old mid asks marks → AllAnswered old → AreDue (map lane_in asks) mid
due_asks given fs old mid asks marks t answered =
    subst (λ (ts : List TraceView). AreDue (map lane_in asks) ts) (sym t.traces)
    (due_of given fs old asks t.wide answered (subst (λ (xs : List Asker). IsPermutation xs asks) t.asks_are (IsPermutation-refl asks)))

pub posted_mid : (given : ℕ → Bool) (fs : List Find) (old mid : List TraceView) (asks : List Asker) (marks : ℕ) → AreTried given fs old mid asks marks → posted_in mid ≡ posted_in old
posted_mid given fs old mid asks marks t = ap posted_in t.traces ∙ posted_in-tried given fs old

-- a round that was decided
pub rounded : (rates : Rates) (tick : ℕ) (tree : LimitTree) (lanes : List ℕ) (own : List Ask) (grants : List ℕ) (given : ℕ → Bool) (fs : List Find) (old mid new : List TraceView) (asks : List Asker) (marks : ℕ) → AreTried given fs old mid asks marks → AllAnswered old → IsAskedPlan rates tick asks tree lanes own
    → length lanes ≡ length grants → new ≡ posted_all lanes grants mid → IsRoundOver given rates tick old new marks tree lanes own grants
rounded rates tick tree lanes own grants given fs old mid new asks marks t answered a each is =
    let p = a.plan in
    let all : IsPermutation (asks_from 0 fs) p.order = subst (λ (xs : List Asker). IsPermutation xs p.order) t.asks_are p.all in
    let long : length (map lane_in p.order) ≡ length grants = ap length (sym p.lanes_are) ∙ each in
    let now : new ≡ posted_all (map lane_in p.order) grants (tried given fs old) = is ∙ (λ q. posted_all (p.lanes_are q) grants (t.traces q)) in
    record {
      found = fs;
      wide = t.wide;
      only = t.only;
      still = ap length now ∙ still given fs old p.order grants t.wide answered all long;
      each = λ i near. subst (λ (ts : List TraceView). IsAnswered (given i) (get_or fs i None) (trace_at old i) (trace_at ts i)) (sym now)
          (answers (given i) (get_or fs i None) (trace_at old i) (trace_at (posted_all (map lane_in p.order) grants (tried given fs old)) i) grants (outcome given fs old p.order grants t.wide answered all long i near));
      marks = t.marks;
      plan = record { order = p.order; all = all; tree = p.tree; lanes_are = p.lanes_are };
      asks_are = a.asks_are;
      posted = subst (λ (z : List ℕ × List TraceView). (j : ℕ) → j < length z.0 → (trace_at z.1 (get_or z.0 j 0)).posted ≡ (trace_at old (get_or z.0 j 0)).posted ++ get_or grants j 0 ∷ []) (λ q. (sym p.lanes_are q, sym now q))
          (posted given fs old p.order grants t.wide answered all long);
    }

pub round_total : (rates : Rates) (tick : ℕ) (tree : LimitTree) (lanes grants : List ℕ) (given : ℕ → Bool) (fs : List Find) (old mid new : List TraceView) (asks : List Asker) (marks : ℕ) → AreTried given fs old mid asks marks → AllAnswered old → IsPlan rates tick asks tree lanes
    → length lanes ≡ length grants → new ≡ posted_all lanes grants mid → posted_in new ≡ posted_in old + sum grants
round_total rates tick tree lanes grants given fs old mid new asks marks t answered p each is =
    ap posted_in is ∙ posted_sum lanes grants mid (due_plan rates tick tree lanes given fs old mid asks marks t answered p) each ∙ ap (λ (n : ℕ). n + sum grants) (posted_mid given fs old mid asks marks t)

pub answered_round : (given : ℕ → Bool) (rates : Rates) (tick : ℕ) (tree : LimitTree) (lanes : List ℕ) (own : List Ask) (grants : List ℕ) (old new : List TraceView) (marks : ℕ) → IsRoundOver given rates tick old new marks tree lanes own grants → AllAnswered old → AllAnswered new
answered_round given rates tick tree lanes own grants old new marks r answered i near =
    let here : i < length old = omega (arith, near, r.still) in
    even_after (given i) (get_or r.found i None) (trace_at old i) (trace_at new i) (r.each i here) (answered i here)

-- a refused round
pub refused : (A : Type 0) (rates : Rates) (tick : ℕ) (book : BookView) (reason : RoundRefusal) (given : ℕ → Bool) (fs : List Find) (old mid new : List TraceView) (asks : List Asker) (marks : ℕ) → AreTried given fs old mid asks marks → AllAnswered old → IsRefused A rates tick asks book reason
    → new ≡ posted_all (map lane_in asks) (map nothing_for asks) mid → IsRefusedRoundOver A given rates tick book old new marks reason
refused A rates tick book reason given fs old mid new asks marks t answered why is =
    let all : IsPermutation (asks_from 0 fs) asks = subst (λ (xs : List Asker). IsPermutation xs asks) t.asks_are (IsPermutation-refl asks) in
    let long : length (map lane_in asks) ≡ length (map nothing_for asks) = one_each asks in
    let now : new ≡ posted_all (map lane_in asks) (map nothing_for asks) (tried given fs old) = is ∙ ap (posted_all (map lane_in asks) (map nothing_for asks)) t.traces in
    record {
      found = fs;
      wide = t.wide;
      only = t.only;
      still = ap length now ∙ still given fs old asks (map nothing_for asks) t.wide answered all long;
      each = λ i near. subst (λ (ts : List TraceView). IsTurnedAway (given i) (get_or fs i None) (trace_at old i) (trace_at ts i)) (sym now)
          (traces_away (given i) (get_or fs i None) (trace_at old i) (trace_at (posted_all (map lane_in asks) (map nothing_for asks) (tried given fs old)) i) asks (outcome given fs old asks (map nothing_for asks) t.wide answered all long i near));
      marks = t.marks;
      refused = subst (λ (xs : List Asker). IsRefused A rates tick xs book reason) t.asks_are why;
    }
  where
    one_each : (xs : List Asker) → length (map lane_in xs) ≡ length (map nothing_for xs)
    one_each [] = refl
    one_each (x ∷ xs) = ap suc (one_each xs)

pub refused_total : (given : ℕ → Bool) (fs : List Find) (old mid new : List TraceView) (asks : List Asker) (marks : ℕ) → AreTried given fs old mid asks marks → AllAnswered old → new ≡ posted_all (map lane_in asks) (map nothing_for asks) mid → posted_in new ≡ posted_in old
refused_total given fs old mid new asks marks t answered is =
    let d = due_asks given fs old mid asks marks t answered in
    let s = posted_sum (map lane_in asks) (map nothing_for asks) mid d (one_each asks) in
    let m = posted_mid given fs old mid asks marks t in
    omega (arith, ap posted_in is, s, m, zero_sum asks)
  where
    one_each : (xs : List Asker) → length (map lane_in xs) ≡ length (map nothing_for xs)
    one_each [] = refl
    one_each (x ∷ xs) = ap suc (one_each xs)

pub answered_refused : (A : Type 0) (given : ℕ → Bool) (rates : Rates) (tick : ℕ) (book : BookView) (reason : RoundRefusal) (old new : List TraceView) (marks : ℕ) → IsRefusedRoundOver A given rates tick book old new marks reason → AllAnswered old → AllAnswered new
answered_refused A given rates tick book reason old new marks r answered i near =
    let here : i < length old = omega (arith, near, r.still) in
    even_after (given i) (get_or r.found i None) (trace_at old i) (trace_at new i) (answered_so (given i) (get_or r.found i None) (trace_at old i) (trace_at new i) (r.each i here)) (answered i here)

module _ (given : ℕ → Bool) (rates : Rates) (tick : ℕ) (old new : List TraceView) (marks : ℕ) (alike : (i : ℕ) → i < length old → given i ≡ true) where
  -- a round of given lanes that are all lanes
  pub whole_round : (tree : LimitTree) (lanes : List ℕ) (own : List Ask) (grants : List ℕ) → IsRoundOver given rates tick old new marks tree lanes own grants → IsRound rates tick old new marks tree lanes own grants
  whole_round tree lanes own grants r = record {
    found = r.found;
    wide = r.wide;
    still = r.still;
    only = λ i e. cc;
    each = λ i near. subst (λ (b : Bool). IsAnswered b (get_or r.found i None) (trace_at old i) (trace_at new i)) (alike i near) (r.each i near);
    marks = r.marks;
    plan = r.plan;
    asks_are = r.asks_are;
    posted = r.posted;
  }

  pub whole_refusal : (A : Type 0) (book : BookView) (reason : RoundRefusal) → IsRefusedRoundOver A given rates tick book old new marks reason → IsRefusedRound A rates tick book old new marks reason
  whole_refusal A book reason r = record {
    found = r.found;
    wide = r.wide;
    still = r.still;
    only = λ i e. cc;
    each = λ i near. subst (λ (b : Bool). IsTurnedAway b (get_or r.found i None) (trace_at old i) (trace_at new i)) (alike i near) (r.each i near);
    marks = r.marks;
    refused = r.refused;
  }
