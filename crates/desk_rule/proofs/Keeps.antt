-- Each step keeps the rule.
use Rattle.std.proofs.Common.{◌≡◌, ℕ, zero, suc, ◌+◌, ◌<◌, ◌≤◌, eqb, ◌≢◌, false, List, [], ◌∷◌, ◌++◌, map, length, get_or, set, sum, replicate, ◌⊎◌, inl, inr, sym, refl, ap, ◌∙◌, subst, ⊎_elim, arith, length-set, length-append, append-nil, get_or-set_other, get_or-set_same}
use mathlib.Core.Logic.{dite}
use mathlib.Core.Option.{Option, none, some, some-injective, some-ne-none}
use native.Mathlib.Decide.{ℕ_discrete}
use lib.ListN.{get_elem?, length-map, length-replicate}
use lib.Seq.{set-get_or}
use prog.Atomic.{either}
use Rattle.std.proofs.lemmas.List.Sums.{sum_by-append}
use Rattle.atomic_table.specs.Table.{State, Me, step, rest, Act, keeps, takes, gives, Valid, carried_after, stepped, Allows, Splits, Joins, opening}
use Rattle.atomic_table.proofs.Lists.{at_map, at_set, set_here, set_else, set_again, exchanged}
use Rattle.line_rates.specs.declared.ask.Ask.{Ask}
use Rattle.grant_ledger.specs.Books.{GrantView}
use Rattle.desk_rule.specs.declared.view.LaneSlot.{LaneSlot}
use Rattle.desk_rule.specs.declared.view.LaneSlot.TheVariants.{Blank, WithAsk, WithGrant}
use Rattle.desk_rule.specs.declared.view.SeatState.TheVariants.{Free, Worker}
use Rattle.desk_rule.specs.declared.view.LaneView.{LaneView}
use Rattle.desk_rule.specs.declared.view.TraceView.{TraceView}
use Rattle.desk_rule.specs.declared.view.RoundView.{RoundView}
use Rattle.desk_rule.specs.declared.view.DeskView.{DeskView}
use Rattle.desk_rule.specs.declared.view.DeskView.TheVariants.{Spent, Lane, Round}
use Rattle.desk_rule.specs.Lanes.{Phase, free, worker, asked, round, granted, code, state_of, open_grant, ahead, Agrees, fresh, untraced, posted_in, most, KnowsRound, Knows, Kept, first_round, lane_in, with_lane, Owns, trace_in, with_trace, now_answering, with_answer, is_answering, Leads, posted_by, sat_down, has_asked, has_taken, has_looked, has_risen, has_missed, has_collected, has_posted}
use Rattle.world_terms.specs.Lanes.{Shown}
use Rattle.desk_rule.specs.Shown.{shown_of, StepsTo}
use Rattle.desk_rule.specs.Lanes as spec
use Rattle.desk_rule.specs.Events.{noted}
use Rattle.desk_rule.specs.Steps.{Done, Ran, StepOn}
use Rattle.std.specs.Prelude.{Some, None}
use Rattle.world_terms.specs.declared.event.Event.TheVariants as event
use Rattle.world_terms.specs.declared.event.EventAnswer.TheVariants as answer

module _ {A : Type 0} where
  pick : {P : Type 0} → Dec P → A → A → A
  pick (yes _) a b = a
  pick (no _) a b = b

  put : (ℕ → A) → ℕ → A → ℕ → A
  put f i c j = pick (ℕ_discrete j i) c (f j)

  put_at : (f : ℕ → A) (i : ℕ) (c : A) (j : ℕ) → j ≡ i → put f i c j ≡ c
  unfolding put pick
  put_at f i c j e = go (ℕ_discrete j i)
    where
      go : (d : Dec (j ≡ i)) → pick d c (f j) ≡ c
      go (yes _) = refl
      go (no n) = absurd (n e)

  put_else : (f : ℕ → A) (i : ℕ) (c : A) (j : ℕ) → j ≢ i → put f i c j ≡ f j
  unfolding put pick
  put_else f i c j n = go (ℕ_discrete j i)
    where
      go : (d : Dec (j ≡ i)) → pick d c (f j) ≡ f j
      go (yes e) = absurd (n e)
      go (no _) = refl

  pub index_at : (l : List A) (i : ℕ) (d : A) → i < length l → get_elem? l i ≡ some (get_or l i d)
  index_at [] i d h = absurd (omega arith)
  index_at (x ∷ xs) zero d h = refl
  index_at (x ∷ xs) (suc i) d h = index_at xs i d (omega arith)

  pub at_length : (l : List A) (i : ℕ) (a : A) → get_elem? l i ≡ some a → i < length l
  at_length [] i a e = absurd (some-ne-none a (sym e))
  at_length (x ∷ xs) zero a e = omega arith
  at_length (x ∷ xs) (suc i) a e = let h = at_length xs i a e in omega arith

module _ (k : ℕ) (lane : ℕ → LaneView) (trace : ℕ → TraceView) (owner : ℕ → ℕ) (desk dealt : ℕ) where
  -- the seat that has a lane knows it
  pub own : (j i : ℕ) (v : DeskView) → Knows k lane trace owner desk dealt j v → Owns i v → (owner i ≡ j) × (lane i ≡ lane_in i v) × (i < dealt)
  own j i Spent kn o = absurd o
  own j i (Lane q x) kn o = subst (λ (z : ℕ). (owner z ≡ j) × (lane z ≡ x) × (z < dealt)) o kn
  own j i (Round sh) kn o = kn.each_back i (get_or sh.back i fresh) (index_at sh.back i fresh o)

  -- the round's seat knows each turn
  pub ruled : (j i : ℕ) (v : DeskView) → Knows k lane trace owner desk dealt j v → Leads i v → (desk ≡ j) × (trace i ≡ trace_in i v) × (i < k)
  ruled j i Spent kn o = absurd o
  ruled j i (Lane q x) kn o = absurd o
  ruled j i (Round sh) kn o =
      let near : i < k = subst (λ (z : ℕ). i < z) kn.wide o in
      (kn.is_desk, some-injective _ _ (sym (kn.each_trace i near) ∙ index_at sh.traces i untraced o), near)

  -- the lane i changes
  lane_else : (i : ℕ) (x : LaneView) (id j : ℕ) (u : DeskView) → owner i ≡ id → j ≢ id → Knows k lane trace owner desk dealt j u → Knows k (put lane i x) trace owner desk dealt j u
  lane_else i x id j Spent mine other kn = tt
  lane_else i x id j (Lane q y) mine other kn = (kn.0, put_else lane i x q (λ e. other (sym kn.0 ∙ ap owner e ∙ mine)) ∙ kn.1, kn.2)
  lane_else i x id j (Round sh) mine other kn = record {
    is_desk = kn.is_desk;
    dealt_is = kn.dealt_is;
    wide = kn.wide;
    each_trace = kn.each_trace;
    each_back = λ q y e. let t = kn.each_back q y e in (t.0, put_else lane i x q (λ f. other (sym t.0 ∙ ap owner f ∙ mine)) ∙ t.1, t.2);
    within = kn.within;
  }

  lane_here : (i : ℕ) (x : LaneView) (id : ℕ) (v : DeskView) → Owns i v → Knows k lane trace owner desk dealt id v → Knows k (put lane i x) trace owner desk dealt id (with_lane i x v)
  lane_here i x id Spent o kn = tt
  lane_here i x id (Lane q y) o kn = (kn.0, put_at lane i x q o, kn.2)
  lane_here i x id (Round sh) o kn =
      let mine = own id i (Round sh) kn o in
      record {
        is_desk = kn.is_desk;
        dealt_is = kn.dealt_is;
        wide = kn.wide;
        each_trace = kn.each_trace;
        each_back = λ q y e. ⊎_elim (λ (t : (q ≡ i) × (x ≡ y)). subst (λ (z : ℕ). (owner z ≡ id) × (put lane i x z ≡ y) × (z < dealt)) (sym t.0) (mine.0, put_at lane i x i refl ∙ t.1, mine.2))
            (λ (t : (q ≢ i) × (get_elem? sh.back q ≡ some y)). let b = kn.each_back q y t.1 in (b.0, put_else lane i x q t.0 ∙ b.1, b.2)) (at_set sh.back i q x y e);
        within = kn.within;
      }

  -- the round's account of the lane i changes
  trace_else : (i : ℕ) (t : TraceView) (id j : ℕ) (u : DeskView) → desk ≡ id → j ≢ id → Knows k lane trace owner desk dealt j u → Knows k lane (put trace i t) owner desk dealt j u
  trace_else i t id j Spent mine other kn = tt
  trace_else i t id j (Lane q y) mine other kn = kn
  trace_else i t id j (Round sh) mine other kn = absurd (other (sym kn.is_desk ∙ mine))

  trace_here : (i : ℕ) (t : TraceView) (id : ℕ) (v : DeskView) → Leads i v → posted_by (with_trace i t v) ≤ most → Knows k lane trace owner desk dealt id v → Knows k lane (put trace i t) owner desk dealt id (with_trace i t v)
  trace_here i t id Spent o few kn = tt
  trace_here i t id (Lane q y) o few kn = kn
  trace_here i t id (Round sh) o few kn = record {
    is_desk = kn.is_desk;
    dealt_is = kn.dealt_is;
    wide = length-set sh.traces i t ∙ kn.wide;
    each_trace = λ q near. dite (ℕ_discrete q i)
        (λ e. subst (λ (z : ℕ). get_elem? (set sh.traces i t) z ≡ some (put trace i t z)) (sym e) (set_here sh.traces i t o ∙ ap some (sym (put_at trace i t i refl))))
        (λ ne. set_else sh.traces i q t ne ∙ kn.each_trace q near ∙ ap some (sym (put_else trace i t q ne)));
    each_back = kn.each_back;
    within = few;
  }

knows_answering : (k : ℕ) (lane : ℕ → LaneView) (trace : ℕ → TraceView) (owner : ℕ → ℕ) (desk dealt j : ℕ) (u : DeskView) → Knows k lane trace owner desk dealt j u → Knows k lane trace owner desk dealt j (now_answering u)
knows_answering k lane trace owner desk dealt j Spent kn = tt
knows_answering k lane trace owner desk dealt j (Lane q y) kn = kn
knows_answering k lane trace owner desk dealt j (Round sh) kn = record { is_desk = kn.is_desk; dealt_is = kn.dealt_is; wide = kn.wide; each_trace = kn.each_trace; each_back = kn.each_back; within = kn.within }

pub posted_set : (ts : List TraceView) (i : ℕ) (t : TraceView) → i < length ts → posted_in (set ts i t) + sum (get_or ts i untraced).posted ≡ posted_in ts + sum t.posted
posted_set [] i t h = absurd (omega arith)
posted_set (u ∷ ts) zero t h = omega arith
posted_set (u ∷ ts) (suc i) t h = let e = posted_set ts i t (omega arith) in omega arith

pub posted_after : (i : ℕ) (t : TraceView) (v : DeskView) → Leads i v → posted_by (with_trace i t v) + sum (trace_in i v).posted ≡ posted_by v + sum t.posted
posted_after i t Spent o = absurd o
posted_after i t (Lane q x) o = absurd o
posted_after i t (Round sh) o = posted_set sh.traces i t o

pub sum_more : (xs : List ℕ) (n : ℕ) → sum (xs ++ n ∷ []) ≡ sum xs + n
sum_more xs n = omega (arith, sum_by-append (λ (x : ℕ). x) xs (n ∷ []))

posted_one : (ts : List TraceView) (i : ℕ) → sum (get_or ts i untraced).posted ≤ posted_in ts
posted_one [] i = omega arith
posted_one (u ∷ ts) zero = omega arith
posted_one (u ∷ ts) (suc i) = let e = posted_one ts i in omega arith

pub posted_most : (i : ℕ) (v : DeskView) → Leads i v → sum (trace_in i v).posted ≤ posted_by v
posted_most i Spent o = absurd o
posted_most i (Lane q x) o = absurd o
posted_most i (Round sh) o = posted_one sh.traces i

pub at_end : {A : Type 0} (l : List A) (a b : A) (j : ℕ) → get_elem? (l ++ a ∷ []) j ≡ some b → ((j < length l) × (get_elem? l j ≡ some b)) ⊎ ((j ≡ length l) × (a ≡ b))
at_end [] a b zero e = inr (refl, some-injective a b e)
at_end [] a b (suc j) e = absurd (some-ne-none b (sym e))
at_end (x ∷ xs) a b zero e = inl ((omega arith), e)
at_end (x ∷ xs) a b (suc j) e = ⊎_elim (λ (t : (j < length xs) × (get_elem? xs j ≡ some b)). let h = t.0 in inl ((omega arith), t.1)) (λ (t : (j ≡ length xs) × (a ≡ b)). inr (ap suc t.0, t.1)) (at_end xs a b j e)

pub at_replicate : {A : Type 0} (n i : ℕ) (a : A) → i < n → get_elem? (replicate n a) i ≡ some a
at_replicate zero i a h = absurd (omega arith)
at_replicate (suc n) zero a h = refl
at_replicate (suc n) (suc i) a h = at_replicate n i a (omega arith)

pub posted_none : (n : ℕ) → posted_in (replicate n untraced) ≡ 0
posted_none zero = refl
posted_none (suc n) = let e = posted_none n in omega arith

one_view : (v : DeskView) (j : ℕ) (u : DeskView) → get_elem? (v ∷ []) j ≡ some u → (j ≡ 0) × (v ≡ u)
one_view v zero u e = (refl, some-injective v u e)
one_view v (suc j) u e = absurd (some-ne-none u (sym e))

module _ {N : Type 0} where
  pub is_free : (ph : Phase N) → Free ≡ state_of ph → ph ≡ free
  is_free free e = refl
  is_free worker e = absurd (cc)
  is_free (asked a) e = absurd (cc)
  is_free round e = absurd (cc)
  is_free (granted g) e = absurd (cc)

  pub is_worker : (ph : Phase N) → Worker ≡ state_of ph → ph ≡ worker
  is_worker free e = absurd (cc)
  is_worker worker e = refl
  is_worker (asked a) e = absurd (cc)
  is_worker round e = absurd (cc)
  is_worker (granted g) e = absurd (cc)

  pub is_asked : (ph : Phase N) → 2 ≡ code ph → (a : Ask) × (ph ≡ asked a)
  is_asked free e = absurd (omega arith)
  is_asked worker e = absurd (omega arith)
  is_asked (asked a) e = (a, refl)
  is_asked round e = absurd (omega arith)
  is_asked (granted g) e = absurd (omega arith)

  pub is_granted : (ph : Phase N) → 4 ≡ code ph → (g : GrantView) × (ph ≡ granted g)
  is_granted free e = absurd (omega arith)
  is_granted worker e = absurd (omega arith)
  is_granted (asked a) e = absurd (omega arith)
  is_granted round e = absurd (omega arith)
  is_granted (granted g) e = (g, refl)

  pub is_round : (ph : Phase N) → 1 ≡ ahead ph → ph ≡ round
  is_round free e = absurd (omega arith)
  is_round worker e = absurd (omega arith)
  is_round (asked a) e = absurd (omega arith)
  is_round round e = refl
  is_round (granted g) e = absurd (omega arith)

  -- nothing but the word and the slot of i has changed
  pub record Beside (s : State (LaneSlot N) DeskView) (i : ℕ) (ws : List ℕ) (hs : List (Option (LaneSlot N))) : Type 0 where
    pub words_long : length ws ≡ length s.words
    pub homes_long : length hs ≡ length s.homes
    pub words_same : (j : ℕ) → j ≢ i → get_or ws j 0 ≡ get_or s.words j 0
    pub homes_same : (j : ℕ) → j ≢ i → get_elem? hs j ≡ get_elem? s.homes j

  pub at_home : (s : State (LaneSlot N) DeskView) (i n : ℕ) (h : Option (LaneSlot N)) → Beside s i (set s.words i n) (set s.homes i h)
  at_home s i n h = record {
    words_long = length-set s.words i n;
    homes_long = length-set s.homes i h;
    words_same = λ j other. get_or-set_other s.words i j n 0 other;
    homes_same = λ j other. set_else s.homes i j h other;
  }

  at_rest : (s : State (LaneSlot N) DeskView) (i : ℕ) → Beside s i (set s.words i (get_or s.words i 0)) s.homes
  at_rest s i = record {
    words_long = length-set s.words i (get_or s.words i 0);
    homes_long = refl;
    words_same = λ j other. ap (λ (w : List ℕ). get_or w j 0) (set-get_or s.words i 0);
    homes_same = λ j other. refl;
  }

  module _ (s : State (LaneSlot N) DeskView) (r : Kept s) (i : ℕ) (ws : List ℕ) (hs : List (Option (LaneSlot N))) (b : Beside s i ws hs) (x : LaneView) (t : TraceView) (ph : Phase N) (ok : Agrees i (get_or ws i 0) (get_elem? hs i) x t ph) where
    each_other : (j : ℕ) → j < length hs → j ≢ i → Agrees j (get_or ws j 0) (get_elem? hs j) (r.lane j) (r.trace j) (put r.phase i ph j)
    each_other j near ne = subst (λ (z : ℕ × Option (Option (LaneSlot N)) × Phase N). Agrees j z.0 z.1 (r.lane j) (r.trace j) z.2) (λ q. (sym (b.words_same j ne) q, sym (b.homes_same j ne) q, sym (put_else r.phase i ph j ne) q))
        (r.each_lane j (subst (λ (z : ℕ). j < z) b.homes_long near))

    lane_moves : (id : ℕ) (v : DeskView) → get_elem? s.views id ≡ some v → Owns i v → r.trace i ≡ t → Kept record { words = ws; homes = hs; views = set s.views id (with_lane i x v) }
    lane_moves id v at o same =
        let kn = r.each_view id v at in
        let mine = own (length s.homes) r.lane r.trace r.owner r.desk r.dealt id i v kn o in
        record {
          lane = put r.lane i x;
          trace = r.trace;
          phase = put r.phase i ph;
          owner = r.owner;
          desk = r.desk;
          dealt = r.dealt;
          wide = omega (arith, r.wide, b.words_long, b.homes_long);
          few = omega (arith, r.few, b.homes_long);
          new = λ j far. put_else r.lane i x j (λ e. omega (arith, mine.2)) ∙ r.new j far;
          each_lane = λ j near. dite (ℕ_discrete j i)
              (λ e. subst (λ (z : ℕ). Agrees z (get_or ws z 0) (get_elem? hs z) (put r.lane i x z) (r.trace z) (put r.phase i ph z)) (sym e)
              (subst (λ (z : LaneView × TraceView × Phase N). Agrees i (get_or ws i 0) (get_elem? hs i) z.0 z.1 z.2) (λ q. (sym (put_at r.lane i x i refl) q, sym same q, sym (put_at r.phase i ph i refl) q)) ok))
              (λ ne. subst (λ (z : LaneView). Agrees j (get_or ws j 0) (get_elem? hs j) z (r.trace j) (put r.phase i ph j)) (sym (put_else r.lane i x j ne)) (each_other j near ne));
          each_view = λ j u e. subst (λ (z : ℕ). Knows z (put r.lane i x) r.trace r.owner r.desk r.dealt j u) (sym b.homes_long)
              (⊎_elim (λ (y : (j ≡ id) × (with_lane i x v ≡ u)). subst (λ (z : ℕ × DeskView). Knows (length s.homes) (put r.lane i x) r.trace r.owner r.desk r.dealt z.0 z.1) (λ q. (sym y.0 q, y.1 q)) (lane_here (length s.homes) r.lane r.trace r.owner r.desk r.dealt i x id v o kn))
              (λ (y : (j ≢ id) × (get_elem? s.views j ≡ some u)). lane_else (length s.homes) r.lane r.trace r.owner r.desk r.dealt i x id j u mine.0 y.0 (r.each_view j u y.1)) (at_set s.views id j (with_lane i x v) u e));
        }

    trace_moves : (id : ℕ) (v : DeskView) → get_elem? s.views id ≡ some v → Leads i v → posted_by (with_trace i t v) ≤ most → r.lane i ≡ x → Kept record { words = ws; homes = hs; views = set s.views id (with_trace i t v) }
    trace_moves id v at o few same =
        let kn = r.each_view id v at in
        let mine = ruled (length s.homes) r.lane r.trace r.owner r.desk r.dealt id i v kn o in
        record {
          lane = r.lane;
          trace = put r.trace i t;
          phase = put r.phase i ph;
          owner = r.owner;
          desk = r.desk;
          dealt = r.dealt;
          wide = omega (arith, r.wide, b.words_long, b.homes_long);
          few = omega (arith, r.few, b.homes_long);
          new = r.new;
          each_lane = λ j near. dite (ℕ_discrete j i)
              (λ e. subst (λ (z : ℕ). Agrees z (get_or ws z 0) (get_elem? hs z) (r.lane z) (put r.trace i t z) (put r.phase i ph z)) (sym e)
              (subst (λ (z : LaneView × TraceView × Phase N). Agrees i (get_or ws i 0) (get_elem? hs i) z.0 z.1 z.2) (λ q. (sym same q, sym (put_at r.trace i t i refl) q, sym (put_at r.phase i ph i refl) q)) ok))
              (λ ne. subst (λ (z : TraceView). Agrees j (get_or ws j 0) (get_elem? hs j) (r.lane j) z (put r.phase i ph j)) (sym (put_else r.trace i t j ne)) (each_other j near ne));
          each_view = λ j u e. subst (λ (z : ℕ). Knows z r.lane (put r.trace i t) r.owner r.desk r.dealt j u) (sym b.homes_long)
              (⊎_elim (λ (y : (j ≡ id) × (with_trace i t v ≡ u)). subst (λ (z : ℕ × DeskView). Knows (length s.homes) r.lane (put r.trace i t) r.owner r.desk r.dealt z.0 z.1) (λ q. (sym y.0 q, y.1 q)) (trace_here (length s.homes) r.lane r.trace r.owner r.desk r.dealt i t id v o few kn))
              (λ (y : (j ≢ id) × (get_elem? s.views j ≡ some u)). trace_else (length s.homes) r.lane r.trace r.owner r.desk r.dealt i t id j u mine.0 y.0 (r.each_view j u y.1)) (at_set s.views id j (with_trace i t v) u e));
        }

    -- what is shown changes as the lane's phase, view and turn do
    pub lane_changes : (id : ℕ) (v : DeskView) → get_elem? s.views id ≡ some v → Owns i v → r.trace i ≡ t → (P : Shown → Shown → Type 0) → P (shown_of (r.phase i) (lane_in i v) t) (shown_of ph x t)
        → StepsTo r record { words = ws; homes = hs; views = set s.views id (with_lane i x v) } i P
    unfolding lane_moves
    lane_changes id v at o same P is =
        let mine = own (length s.homes) r.lane r.trace r.owner r.desk r.dealt id i v (r.each_view id v at) o in (
          lane_moves id v at o same,
          (
            subst (λ (z : Shown × Shown). P z.0 z.1) (λ q. (shown_of (r.phase i) (sym mine.1 q) (sym same q), shown_of (sym (put_at r.phase i ph i refl) q) (sym (put_at r.lane i x i refl) q) (sym same q))) is,
            λ j ne q. shown_of (put_else r.phase i ph j ne q) (put_else r.lane i x j ne q) (r.trace j),
          ),
        )

    pub trace_changes : (id : ℕ) (v : DeskView) → get_elem? s.views id ≡ some v → Leads i v → posted_by (with_trace i t v) ≤ most → r.lane i ≡ x → (P : Shown → Shown → Type 0) → P (shown_of (r.phase i) x (trace_in i v)) (shown_of ph x t)
        → StepsTo r record { words = ws; homes = hs; views = set s.views id (with_trace i t v) } i P
    unfolding trace_moves
    trace_changes id v at o few same P is =
        let mine = ruled (length s.homes) r.lane r.trace r.owner r.desk r.dealt id i v (r.each_view id v at) o in (
          trace_moves id v at o few same,
          (
            subst (λ (z : Shown × Shown). P z.0 z.1) (λ q. (shown_of (r.phase i) (sym same q) (sym mine.1 q), shown_of (sym (put_at r.phase i ph i refl) q) (sym same q) (sym (put_at r.trace i t i refl) q))) is,
            λ j ne q. shown_of (put_else r.phase i ph j ne q) (r.lane j) (put_else r.trace i t j ne q),
          ),
        )

  -- nothing but the round's record of its answers changes
  pub answers : (s : State (LaneSlot N) DeskView) (id : ℕ) (v u : DeskView) (ws : List ℕ) (hs : List (Option (LaneSlot N))) → get_elem? s.views id ≡ some v → Kept record { words = ws; homes = hs; views = set s.views id u } → Kept record { words = ws; homes = hs; views = set s.views id (now_answering u) }
  answers s id v u ws hs at r = record {
    lane = r.lane;
    trace = r.trace;
    phase = r.phase;
    owner = r.owner;
    desk = r.desk;
    dealt = r.dealt;
    wide = r.wide;
    few = r.few;
    new = r.new;
    each_lane = r.each_lane;
    each_view = λ j w e. ⊎_elim
        (λ (y : (j ≡ id) × (now_answering u ≡ w)). subst (λ (z : ℕ × DeskView). Knows (length hs) r.lane r.trace r.owner r.desk r.dealt z.0 z.1) (λ q. (sym y.0 q, y.1 q))
        (knows_answering (length hs) r.lane r.trace r.owner r.desk r.dealt id u (r.each_view id u (set_here s.views id u (at_length s.views id v at)))))
        (λ (y : (j ≢ id) × (get_elem? s.views j ≡ some w)). r.each_view j w (set_else s.views id j u y.0 ∙ y.1)) (at_set s.views id j (now_answering u) w e);
  }

  -- and nothing that is shown
  pub answers_change : (s : State (LaneSlot N) DeskView) (s0 : State (LaneSlot N) DeskView) (r0 : Kept s0) (id i : ℕ) (v u : DeskView) (ws : List ℕ) (hs : List (Option (LaneSlot N))) (P : Shown → Shown → Type 0) → get_elem? s.views id ≡ some v → StepsTo r0 record { words = ws; homes = hs; views = set s.views id u } i P → StepsTo r0 record { words = ws; homes = hs; views = set s.views id (now_answering u) } i P
  unfolding answers
  answers_change s s0 r0 id i v u ws hs P at c = (answers s id v u ws hs at c.0, c.1)

  -- the state is as it was
  unmoved : (s : State (LaneSlot N) DeskView) (r : Kept s) (id i : ℕ) (v : DeskView) → get_elem? s.views id ≡ some v → Kept record { words = set s.words i (get_or s.words i 0); homes = s.homes; views = set s.views id v }
  unmoved s r id i v at = subst Kept (λ q. record { words = sym (set-get_or s.words i 0) q; homes = s.homes; views = sym (set_again s.views id v at) q }) r

  abbrev ask_at : List (ℕ × (LaneSlot N)) → Ask → Ask
  ask_at [] d = d
  ask_at ((k, Blank) ∷ xs) d = d
  ask_at ((k, WithAsk a) ∷ xs) d = a
  ask_at ((k, WithGrant g) ∷ xs) d = d

  abbrev grant_at : List (ℕ × (LaneSlot N)) → GrantView → GrantView
  grant_at [] d = d
  grant_at ((k, Blank) ∷ xs) d = d
  grant_at ((k, WithAsk a) ∷ xs) d = d
  grant_at ((k, WithGrant g) ∷ xs) d = g

  abbrev Goes : State (LaneSlot N) DeskView → ℕ → ℕ → (Me (LaneSlot N) DeskView) → (ℕ → (Me (LaneSlot N) DeskView) → Type 0) → ℕ → Type 0
  Goes s i id m then k = (w : DeskView) × (a : Act (LaneSlot N)) × Valid s.homes m.1 a × Ran (stepped s i k id m.1 w a) × then (get_or s.words i 0) (w, carried_after m.1 a)

  module _ (s : State (LaneSlot N) DeskView) (r : Kept s) (id i : ℕ) (v : DeskView) (at : get_elem? s.views id ≡ some v) where
    pub record LaneKnown : Type 0 where
      pub near : i < length s.homes
      pub below : i < length s.words
      pub trace : TraceView
      pub trace_is : r.trace i ≡ trace
      pub phase : Phase N
      pub ok : Agrees i (get_or s.words i 0) (get_elem? s.homes i) (lane_in i v) trace phase

    pub lane_known : Owns i v → LaneKnown
    lane_known o =
        let mine = own (length s.homes) r.lane r.trace r.owner r.desk r.dealt id i v (r.each_view id v at) o in
        let near : i < length s.homes = omega (arith, mine.2, r.few) in
        record {
          near = near;
          below = omega (arith, near, r.wide);
          trace = r.trace i;
          trace_is = refl;
          phase = r.phase i;
          ok = subst (λ (x : LaneView). Agrees i (get_or s.words i 0) (get_elem? s.homes i) x (r.trace i) (r.phase i)) mine.1 (r.each_lane i near);
        }

    pub record TraceKnown : Type 0 where
      pub near : i < length s.homes
      pub below : i < length s.words
      pub lane : LaneView
      pub lane_is : r.lane i ≡ lane
      pub phase : Phase N
      pub ok : Agrees i (get_or s.words i 0) (get_elem? s.homes i) lane (trace_in i v) phase
      pub few : posted_by v ≤ most

    within_of : (u : DeskView) → Leads i u → Knows (length s.homes) r.lane r.trace r.owner r.desk r.dealt id u → posted_by u ≤ most
    within_of Spent o kn = absurd o
    within_of (Lane q x) o kn = absurd o
    within_of (Round sh) o kn = kn.within

    pub trace_known : Leads i v → TraceKnown
    trace_known o =
        let mine = ruled (length s.homes) r.lane r.trace r.owner r.desk r.dealt id i v (r.each_view id v at) o in
        record {
          near = mine.2;
          below = omega (arith, mine.2, r.wide);
          lane = r.lane i;
          lane_is = refl;
          phase = r.phase i;
          ok = subst (λ (t : TraceView). Agrees i (get_or s.words i 0) (get_elem? s.homes i) (r.lane i) t (r.phase i)) mine.1 (r.each_lane i mine.2);
          few = within_of v o (r.each_view id v at);
        }

    pub in_phase : (x : LaneView) (t : TraceView) (ph ph' : Phase N) → ph ≡ ph' → Agrees i (get_or s.words i 0) (get_elem? s.homes i) x t ph → Agrees i (get_or s.words i 0) (get_elem? s.homes i) x t ph'
    in_phase x t ph ph' e ok = subst (λ (p : Phase N). Agrees i (get_or s.words i 0) (get_elem? s.homes i) x t p) e ok

  -- one step more
  pub more : (s s' : State (LaneSlot N) DeskView) → Ran s → (d : Done) → StepOn d s s' → Kept s' → Ran s'
  more s s' r d step k = record { kept = k; words = r.words; slots = r.slots; lanes = r.lanes; long = r.long; past = d ∷ r.past; ran = (s, r.ran, step) }

  -- a word that was written anew as it was
  same_word : (s : State (LaneSlot N) DeskView) (i id : ℕ) (w : DeskView) → ◌≡◌ {A = State (LaneSlot N) DeskView} (record { words = set s.words i (get_or s.words i 0); homes = s.homes; views = set s.views id w }) (noted s id w)
  same_word s i id w = ap (λ (ws : List ℕ). record { words = ws; homes = s.homes; views = set s.views id w }) (set-get_or s.words i 0)

  pub sits : (n id : ℕ) (me : (Me (LaneSlot N) DeskView)) (i : ℕ) → Owns i me.0 → (lane_in i me.0).state ≡ Free → Allows Ran n id me i (λ _. 1) (λ _. spec.sits (step n i 1 0 none) me 1)
  sits n id me i o is s ran wide at _ =
      let r = ran.kept in
      let v : DeskView = me.0 in
      let l = lane_known s r id i v at o in
      let ok = in_phase s r id i v at (lane_in i v) l.trace l.phase free (is_free l.phase (sym is ∙ l.ok.state_is)) l.ok in (
        with_lane i (sat_down (lane_in i v)) v,
        takes i Blank,
        ok.home_is,
        more s _ ran (Some (event.Sit i, answer.Done)) (id, v, (at, o), is, refl)
            (lane_moves s r i (set s.words i 1) (set s.homes i none) (at_home s i 1 none) (sat_down (lane_in i v)) l.trace worker
            record { word_is = get_or-set_same s.words i 1 0 l.below; home_is = set_here s.homes i none l.near; state_is = refl; asks_are = ok.asks_are; posted_are = ok.posted_are; answered = ok.answered; within = ok.within; bears = tt }
            id v at o l.trace_is),
        refl,
      )

  asks_at : (n id : ℕ) (v : DeskView) (c : List (ℕ × (LaneSlot N))) (i : ℕ) (a : Ask) → Owns i v → (lane_in i v).state ≡ Worker → Allows Ran n id (v, (i, WithAsk a) ∷ c) i (λ _. 2) (λ _. spec.asks (step n i 2 0 none) (v, (i, WithAsk a) ∷ c) 2)
  asks_at n id v c i a o is s ran wide at _ =
      let r = ran.kept in
      let l = lane_known s r id i v at o in
      let ok = in_phase s r id i v at (lane_in i v) l.trace l.phase worker (is_worker l.phase (sym is ∙ l.ok.state_is)) l.ok in (
        with_lane i (has_asked a (lane_in i v)) v,
        gives,
        tt,
        more s _ ran (Some (event.Asked i a, answer.Done)) (id, v, (at, o), is, refl)
            (lane_moves s r i (set s.words i 2) (set s.homes i (some (WithAsk a))) (at_home s i 2 (some (WithAsk a))) (has_asked a (lane_in i v)) l.trace (asked a)
            record { word_is = get_or-set_same s.words i 2 0 l.below; home_is = set_here s.homes i (some (WithAsk a)) l.near; state_is = refl; asks_are = ap (λ (xs : List Ask). xs ++ a ∷ []) (ok.asks_are ∙ append-nil l.trace.collected); posted_are = ok.posted_are; answered = ok.answered; within = ok.within; bears = tt }
            id v at o l.trace_is),
        λ b e. ap (λ (xs : List (ℕ × (LaneSlot N))). (with_lane i (has_asked (ask_at xs a) (lane_in i v)) v, c)) e,
      )

  pub asks : (n id : ℕ) (me : (Me (LaneSlot N) DeskView)) (i : ℕ) (a : Ask) → Owns i me.0 → (lane_in i me.0).state ≡ Worker → me.1 ≡ (i, WithAsk a) ∷ rest me.1 → Allows Ran n id me i (λ _. 2) (λ _. spec.asks (step n i 2 0 none) me 2)
  asks n id me i a o is held = subst (λ (c : List (ℕ × (LaneSlot N))). Allows Ran n id (me.0, c) i (λ _. 2) (λ _. spec.asks (step n i 2 0 none) (me.0, c) 2)) (sym held) (asks_at n id me.0 (rest me.1) i a o is)

  rises_at : (n id : ℕ) (v : DeskView) (c : List (ℕ × (LaneSlot N))) (i : ℕ) → Owns i v → (lane_in i v).state ≡ Worker → Allows Ran n id (v, (i, Blank) ∷ c) i (λ _. 0) (λ _. spec.rises (step n i 0 0 none) (v, (i, Blank) ∷ c) 0)
  rises_at n id v c i o is s ran wide at _ =
      let r = ran.kept in
      let l = lane_known s r id i v at o in
      let ok = in_phase s r id i v at (lane_in i v) l.trace l.phase worker (is_worker l.phase (sym is ∙ l.ok.state_is)) l.ok in (
        with_lane i (has_risen (lane_in i v)) v,
        gives,
        tt,
        more s _ ran (Some (event.Rise i, answer.Done)) (id, v, (at, o), is, refl)
            (lane_moves s r i (set s.words i 0) (set s.homes i (some Blank)) (at_home s i 0 (some Blank)) (has_risen (lane_in i v)) l.trace free
            record { word_is = get_or-set_same s.words i 0 0 l.below; home_is = set_here s.homes i (some Blank) l.near; state_is = refl; asks_are = ok.asks_are; posted_are = ok.posted_are; answered = ok.answered; within = ok.within; bears = tt }
            id v at o l.trace_is),
        refl,
      )

  pub rises : (n id : ℕ) (me : (Me (LaneSlot N) DeskView)) (i : ℕ) → Owns i me.0 → (lane_in i me.0).state ≡ Worker → me.1 ≡ (i, Blank) ∷ rest me.1 → Allows Ran n id me i (λ _. 0) (λ _. spec.rises (step n i 0 0 none) me 0)
  rises n id me i o is held = subst (λ (c : List (ℕ × (LaneSlot N))). Allows Ran n id (me.0, c) i (λ _. 0) (λ _. spec.rises (step n i 0 0 none) (me.0, c) 0)) (sym held) (rises_at n id me.0 (rest me.1) i o is)

  no_grant : (ph : Phase N) → 4 ≢ code ph → open_grant ph ≡ []
  no_grant free ne = refl
  no_grant worker ne = refl
  no_grant (asked a) ne = refl
  no_grant round ne = refl
  no_grant (granted g) ne = absurd (ne refl)

  -- a seat that knows both sides of the lane
  both_known : (s : State (LaneSlot N) DeskView) (r : Kept s) (id i : ℕ) (v : DeskView) → get_elem? s.views id ≡ some v → (t : TraceView) (x : LaneView) (waiting : List ℕ) → r.trace i ≡ t → t.posted ≡ (lane_in i v).taken ++ waiting → spec.Fits i v waiting
  both_known s r id i v at t x waiting same fit o =
      ap (λ (u : TraceView). u.posted) (sym (ruled (length s.homes) r.lane r.trace r.owner r.desk r.dealt id i v (r.each_view id v at) o).1 ∙ same) ∙ fit

  pub takes_grant : (n id : ℕ) (me : (Me (LaneSlot N) DeskView)) (i : ℕ) → Owns i me.0 → Allows Ran n id me i (λ y. either (eqb y 4) 1 y) (spec.takes_grant (step n i 4 1 none) me)
  takes_grant n id me i o s ran wide at _ =
      let r = ran.kept in
      let v : DeskView = me.0 in
      let y : ℕ = get_or s.words i 0 in
      let l = lane_known s r id i v at o in
      exchanged y 4 1 (Goes s i id me (spec.takes_grant (step n i 4 1 none) me))
      (λ hit. let f = is_granted l.phase (sym hit ∙ l.ok.word_is) in let g : GrantView = f.0 in
      let ok = in_phase s r id i v at (lane_in i v) l.trace l.phase (granted g) f.1 l.ok in (
        with_lane i (has_taken g.octets (lane_in i v)) v,
        takes i (WithGrant g),
        ok.home_is,
        more s _ ran (Some (event.Taken i, answer.Taken g.octets)) (id, v, g, (at, o), hit, ok.home_is, refl, refl)
            (lane_moves s r i (set s.words i 1) (set s.homes i none) (at_home s i 1 none) (has_taken g.octets (lane_in i v)) l.trace worker
            record { word_is = get_or-set_same s.words i 1 0 l.below; home_is = set_here s.homes i none l.near; state_is = refl; asks_are = ok.asks_are; posted_are = ok.posted_are ∙ sym (append-nil ((lane_in i v).taken ++ g.octets ∷ [])); answered = ok.answered; within = ok.within; bears = tt }
            id v at o l.trace_is),
        ((λ _. (g, ok.bears, refl, subst (λ (xs : List ℕ). sum xs ≤ most) ok.posted_are ok.within, both_known s r id i v at l.trace (lane_in i v) (g.octets ∷ []) l.trace_is ok.posted_are)), λ miss. absurd (miss hit)),
      ))
      (λ miss. let x : LaneView = has_looked (lane_in i v) in (
        with_lane i x v,
        keeps,
        tt,
        more s _ ran None (inl (id, i, v, (at, o), miss, same_word s i id (with_lane i x v)))
            (lane_moves s r i (set s.words i y) s.homes (at_rest s i) x l.trace l.phase
            record { word_is = ap (λ (ws : List ℕ). get_or ws i 0) (set-get_or s.words i 0) ∙ l.ok.word_is; home_is = l.ok.home_is; state_is = l.ok.state_is; asks_are = l.ok.asks_are; posted_are = l.ok.posted_are; answered = l.ok.answered; within = l.ok.within; bears = l.ok.bears }
            id v at o l.trace_is),
        ((λ hit. absurd (miss hit)), λ _. (refl, both_known s r id i v at l.trace (lane_in i v) [] l.trace_is (l.ok.posted_are ∙ ap (λ (xs : List ℕ). (lane_in i v).taken ++ xs) (no_grant l.phase (λ e. miss (l.ok.word_is ∙ sym e)))))),
      ))

  pub collects : (n id : ℕ) (me : (Me (LaneSlot N) DeskView)) (i : ℕ) → Leads i me.0 → is_answering me.0 ≡ false → Allows Ran n id me i (λ y. either (eqb y 2) 3 y) (spec.collects (step n i 2 3 none) me)
  collects n id me i o quiet s ran wide at _ =
      let r = ran.kept in
      let v : DeskView = me.0 in
      let y : ℕ = get_or s.words i 0 in
      let l = trace_known s r id i v at o in
      exchanged y 2 3 (Goes s i id me (spec.collects (step n i 2 3 none) me))
      (λ hit. let f = is_asked l.phase (sym hit ∙ l.ok.word_is) in let a : Ask = f.0 in
      let t : TraceView = has_collected a (trace_in i v) in
      let ok = in_phase s r id i v at l.lane (trace_in i v) l.phase (asked a) f.1 l.ok in (
        with_trace i t v,
        takes i (WithAsk a),
        ok.home_is,
        more s _ ran (Some (event.Collect i, answer.Got)) (id, v, a, (at, o), hit, ok.home_is, quiet, refl)
            (trace_moves s r i (set s.words i 3) (set s.homes i none) (at_home s i 3 none) l.lane t round
            record { word_is = get_or-set_same s.words i 3 0 l.below; home_is = set_here s.homes i none l.near; state_is = ok.state_is; asks_are = ok.asks_are ∙ sym (append-nil ((trace_in i v).collected ++ a ∷ [])); posted_are = ok.posted_are; answered = omega (arith, ok.answered, length-append (trace_in i v).collected (a ∷ [])); within = ok.within; bears = tt }
            id v at o (omega (arith, l.few, posted_after i t v o)) l.lane_is),
        ((λ _. (a, omega (arith, ok.answered), refl)), λ miss. absurd (miss hit)),
      ))
      (λ miss. let t : TraceView = has_missed (trace_in i v) in (
        with_trace i t v,
        keeps,
        tt,
        more s _ ran (Some (event.Collect i, answer.Missed)) (id, v, (at, o), miss, quiet, same_word s i id (with_trace i t v))
            (trace_moves s r i (set s.words i y) s.homes (at_rest s i) l.lane t l.phase
            record { word_is = ap (λ (ws : List ℕ). get_or ws i 0) (set-get_or s.words i 0) ∙ l.ok.word_is; home_is = l.ok.home_is; state_is = l.ok.state_is; asks_are = l.ok.asks_are; posted_are = l.ok.posted_are; answered = l.ok.answered; within = l.ok.within; bears = l.ok.bears }
            id v at o (omega (arith, l.few, posted_after i t v o)) l.lane_is),
        ((λ hit. absurd (miss hit)), λ _. refl),
      ))

  posts_at : (n id : ℕ) (v : DeskView) (c : List (ℕ × (LaneSlot N))) (i : ℕ) (g : GrantView) → Leads i v → length (trace_in i v).collected ≡ length (trace_in i v).posted + 1 → g.lane ≡ i → posted_by v + g.octets ≤ most
      → Allows Ran n id (v, (i, WithGrant g) ∷ c) i (λ _. 4) (λ _. spec.posts (step n i 4 0 none) (v, (i, WithGrant g) ∷ c) 4)
  posts_at n id v c i g o due bears few s ran wide at _ =
      let r = ran.kept in
      let l = trace_known s r id i v at o in
      let t : TraceView = has_posted g.octets (trace_in i v) in
      let ok = in_phase s r id i v at l.lane (trace_in i v) l.phase round (is_round l.phase (omega (arith, due, l.ok.answered))) l.ok in (
        with_answer i t v,
        gives,
        tt,
        more s _ ran (Some (event.Post i, answer.Posted g.octets)) (id, v, g, (at, o), due, bears, few, refl, refl)
            (answers s id v (with_trace i t v) (set s.words i 4) (set s.homes i (some (WithGrant g))) at (trace_moves s r i (set s.words i 4) (set s.homes i (some (WithGrant g))) (at_home s i 4 (some (WithGrant g))) l.lane t (granted g)
            record { word_is = get_or-set_same s.words i 4 0 l.below; home_is = set_here s.homes i (some (WithGrant g)) l.near; state_is = ok.state_is; asks_are = ok.asks_are; posted_are = ap (λ (xs : List ℕ). xs ++ g.octets ∷ []) (ok.posted_are ∙ append-nil l.lane.taken); answered = omega (arith, ok.answered, length-append (trace_in i v).posted (g.octets ∷ [])); within = omega (arith, few, posted_most i v o, sum_more (trace_in i v).posted g.octets); bears = bears }
            id v at o (omega (arith, few, posted_after i t v o, sum_more (trace_in i v).posted g.octets)) l.lane_is)),
        λ b e. ap (λ (xs : List (ℕ × (LaneSlot N))). (with_answer i (has_posted (grant_at xs g).octets (trace_in i v)) v, c)) e,
      )

  pub posts : (n id : ℕ) (me : (Me (LaneSlot N) DeskView)) (i : ℕ) (g : GrantView) → Leads i me.0 → length (trace_in i me.0).collected ≡ length (trace_in i me.0).posted + 1 → g.lane ≡ i → posted_by me.0 + g.octets ≤ most → me.1 ≡ (i, WithGrant g) ∷ rest me.1
      → Allows Ran n id me i (λ _. 4) (λ _. spec.posts (step n i 4 0 none) me 4)
  posts n id me i g o due bears few held = subst (λ (c : List (ℕ × (LaneSlot N))). Allows Ran n id (me.0, c) i (λ _. 4) (λ _. spec.posts (step n i 4 0 none) (me.0, c) 4)) (sym held) (posts_at n id me.0 (rest me.1) i g o due bears few)

  module _ (s : State (LaneSlot N) DeskView) (r : Kept s) (id : ℕ) (sh : RoundView) (at : get_elem? s.views id ≡ some (Round sh)) where
    kn : KnowsRound (length s.homes) r.lane r.trace r.owner r.desk r.dealt id sh
    kn = r.each_view id (Round sh) at

    -- a lane that has had no seat gets one
    module _ (room : sh.dealt < length sh.traces) where
      left : RoundView
      left = record { dealt = sh.dealt + 1; traces = sh.traces; back = sh.back; answering = sh.answering }

      views' : List DeskView
      views' = set s.views id (Round left)

      owner' : ℕ → ℕ
      owner' = put r.owner r.dealt (length views')

      deal_else : (j : ℕ) (u : DeskView) → j ≢ id → Knows (length s.homes) r.lane r.trace r.owner r.desk r.dealt j u → Knows (length s.homes) r.lane r.trace owner' r.desk (r.dealt + 1) j u
      unfolding owner'
      deal_else j Spent other k = tt
      deal_else j (Lane q y) other k = let h = k.2 in (put_else r.owner r.dealt (length views') q (λ e. omega arith) ∙ k.0, k.1, omega arith)
      deal_else j (Round th) other k = absurd (other (sym k.is_desk ∙ kn.is_desk))

      deal_here : KnowsRound (length s.homes) r.lane r.trace owner' r.desk (r.dealt + 1) id left
      unfolding owner' left
      deal_here = record {
        is_desk = kn.is_desk;
        dealt_is = ap (λ (z : ℕ). z + 1) kn.dealt_is;
        wide = kn.wide;
        each_trace = kn.each_trace;
        each_back = λ q y e. let t = kn.each_back q y e in let h = t.2 in (put_else r.owner r.dealt (length views') q (λ f. omega arith) ∙ t.0, t.1, omega arith);
        within = kn.within;
      }

      deals_at : Kept record { words = s.words; homes = s.homes; views = set s.views id (Round record { dealt = sh.dealt + 1; traces = sh.traces; back = sh.back; answering = sh.answering }) ++ Lane sh.dealt fresh ∷ [] }
      unfolding owner' left views'
      deals_at = record {
        lane = r.lane;
        trace = r.trace;
        phase = r.phase;
        owner = owner';
        desk = r.desk;
        dealt = r.dealt + 1;
        wide = r.wide;
        few = omega (arith, room, kn.dealt_is, kn.wide);
        new = λ i far. r.new i (omega arith);
        each_lane = r.each_lane;
        each_view = λ j u e. ⊎_elim
            (λ (old : (j < length views') × (get_elem? views' j ≡ some u)). ⊎_elim
            (λ (y : (j ≡ id) × (Round left ≡ u)). subst (λ (z : ℕ × DeskView). Knows (length s.homes) r.lane r.trace owner' r.desk (r.dealt + 1) z.0 z.1) (λ q. (sym y.0 q, y.1 q)) deal_here)
            (λ (y : (j ≢ id) × (get_elem? s.views j ≡ some u)). deal_else j u y.0 (r.each_view j u y.1)) (at_set s.views id j (Round left) u old.1))
            (λ (new : (j ≡ length views') × (Lane sh.dealt fresh ≡ u)). subst (λ (z : ℕ × DeskView). Knows (length s.homes) r.lane r.trace owner' r.desk (r.dealt + 1) z.0 z.1) (λ q. (sym new.0 q, new.1 q))
            (put_at r.owner r.dealt (length views') sh.dealt kn.dealt_is, r.new sh.dealt (omega (arith, kn.dealt_is)), omega (arith, kn.dealt_is)))
            (at_end views' (Lane sh.dealt fresh) u j e);
      }

    -- the next lane's seat comes back
    module _ (other : ℕ) (x : LaneView) (apart : other ≢ id) (there : get_elem? s.views other ≡ some (Lane (length sh.back) x)) where
      lane_kn : (r.owner (length sh.back) ≡ other) × (r.lane (length sh.back) ≡ x) × (length sh.back < r.dealt)
      lane_kn = r.each_view other (Lane (length sh.back) x) there

      all_back : RoundView
      all_back = record { dealt = sh.dealt; traces = sh.traces; back = sh.back ++ x ∷ []; answering = sh.answering }

      owner'' : ℕ → ℕ
      owner'' = put r.owner (length sh.back) id

      join_else : (j : ℕ) (u : DeskView) → j ≢ id → j ≢ other → Knows (length s.homes) r.lane r.trace r.owner r.desk r.dealt j u → Knows (length s.homes) r.lane r.trace owner'' r.desk r.dealt j u
      unfolding owner''
      join_else j Spent a b k = tt
      join_else j (Lane q y) a b k = (put_else r.owner (length sh.back) id q (λ e. b (sym k.0 ∙ ap r.owner e ∙ lane_kn.0)) ∙ k.0, k.1, k.2)
      join_else j (Round th) a b k = absurd (a (sym k.is_desk ∙ kn.is_desk))

      join_here : KnowsRound (length s.homes) r.lane r.trace owner'' r.desk r.dealt id all_back
      unfolding owner'' all_back
      join_here = record {
        is_desk = kn.is_desk;
        dealt_is = kn.dealt_is;
        wide = kn.wide;
        each_trace = kn.each_trace;
        each_back = λ q y e. ⊎_elim
            (λ (t : (q < length sh.back) × (get_elem? sh.back q ≡ some y)). let k = kn.each_back q y t.1 in let h = t.0 in (put_else r.owner (length sh.back) id q (λ f. omega arith) ∙ k.0, k.1, k.2))
            (λ (t : (q ≡ length sh.back) × (x ≡ y)). (put_at r.owner (length sh.back) id q t.0, ap r.lane t.0 ∙ lane_kn.1 ∙ t.1, subst (λ (z : ℕ). z < r.dealt) (sym t.0) lane_kn.2))
            (at_end sh.back x y q e);
        within = kn.within;
      }

      joins_at : Kept record { words = s.words; homes = s.homes; views = set (set s.views id (Round record { dealt = sh.dealt; traces = sh.traces; back = sh.back ++ x ∷ []; answering = sh.answering })) other Spent }
      unfolding owner'' all_back
      joins_at = record {
        lane = r.lane;
        trace = r.trace;
        phase = r.phase;
        owner = owner'';
        desk = r.desk;
        dealt = r.dealt;
        wide = r.wide;
        few = r.few;
        new = r.new;
        each_lane = r.each_lane;
        each_view = λ j u e. ⊎_elim
            (λ (y : (j ≡ other) × (Spent ≡ u)). subst (λ (z : DeskView). Knows (length s.homes) r.lane r.trace owner'' r.desk r.dealt j z) y.1 tt)
            (λ (z : (j ≢ other) × (get_elem? (set s.views id (Round all_back)) j ≡ some u)). ⊎_elim
            (λ (y : (j ≡ id) × (Round all_back ≡ u)). subst (λ (w : ℕ × DeskView). Knows (length s.homes) r.lane r.trace owner'' r.desk r.dealt w.0 w.1) (λ q. (sym y.0 q, y.1 q)) join_here)
            (λ (y : (j ≢ id) × (get_elem? s.views j ≡ some u)). join_else j u y.0 z.0 (r.each_view j u y.1)) (at_set s.views id j (Round all_back) u z.1))
            (at_set (set s.views id (Round all_back)) other j Spent u e);
      }

  pub deals : (id : ℕ) (v : DeskView) (sh : RoundView) → v ≡ Round sh → sh.dealt < length sh.traces → Splits (Ran {N = N}) id v (spec.dealer_after v) (spec.dealt_to v)
  deals id v sh is room = subst (λ (u : DeskView). Splits (Ran {N = N}) id u (spec.dealer_after u) (spec.dealt_to u)) (sym is) (λ s r at. more s _ r None (inr (inl (id, sh, at, room, refl))) (deals_at s r.kept id sh at room))

  pub joins : (id : ℕ) (v : DeskView) (sh : RoundView) (other : ℕ) (w : DeskView) (x : LaneView) → v ≡ Round sh → w ≡ Lane (length sh.back) x → Joins (Ran {N = N}) id v other w (spec.taken_in v w) Spent
  joins id v sh other w x is is' = subst (λ (u : DeskView × DeskView). Joins (Ran {N = N}) id u.0 other u.1 (spec.taken_in u.0 u.1) Spent) (λ q. (sym is q, sym is' q))
      (λ s r at apart there.
      let seat = sym (set_else s.views id other (Round record { dealt = sh.dealt; traces = sh.traces; back = sh.back ++ x ∷ []; answering = sh.answering }) apart) ∙ there in
      more s _ r None (inr (inr (id, sh, other, x, at, apart, seat, refl))) (joins_at s r.kept id sh at other x apart seat))

  -- the table at the start: each word is 0, and each slot blank
  opens_kept : (ws : List ℕ) (xs : List (LaneSlot N)) (k : ℕ) → length xs ≡ k → k ≤ length ws → ((i : ℕ) → i < k → get_or ws i 0 ≡ 0) → ((i : ℕ) → i < k → get_elem? xs i ≡ some Blank) → Kept (opening ws xs (Round (first_round k)))
  opens_kept ws xs k long wide zeros blanks =
      let many : length (map some xs) ≡ k = length-map xs some ∙ long in
      record {
        lane = λ _. fresh;
        trace = λ _. untraced;
        phase = λ _. free;
        owner = λ _. 0;
        desk = 0;
        dealt = 0;
        wide = omega arith;
        few = omega arith;
        new = λ i far. refl;
        each_lane = λ i near. let here : i < k = omega arith in record { word_is = zeros i here; home_is = at_map some xs i Blank (blanks i here); state_is = refl; asks_are = refl; posted_are = refl; answered = refl; within = omega arith; bears = tt };
        each_view = λ j u e. let o = one_view (Round (first_round k)) j u e in subst (λ (z : ℕ × DeskView). Knows (length (map some xs)) (λ _. fresh) (λ _. untraced) (λ _. 0) 0 0 z.0 z.1) (λ q. (sym o.0 q, o.1 q))
            record {
              is_desk = refl;
              dealt_is = refl;
              wide = length-replicate k untraced ∙ sym many;
              each_trace = λ i near. at_replicate k i untraced (omega arith);
              each_back = λ i x f. absurd (some-ne-none x (sym f));
              within = omega (arith, posted_none k);
            };
      }

  pub opens : (ws : List ℕ) (xs : List (LaneSlot N)) (k : ℕ) → length xs ≡ k → k ≤ length ws → ((i : ℕ) → i < k → get_or ws i 0 ≡ 0) → ((i : ℕ) → i < k → get_elem? xs i ≡ some Blank) → Ran (opening ws xs (Round (first_round k)))
  opens ws xs k long wide zeros blanks = record { kept = opens_kept ws xs k long wide zeros blanks; words = ws; slots = xs; lanes = k; long = long; past = []; ran = refl }
