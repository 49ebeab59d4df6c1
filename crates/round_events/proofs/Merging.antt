-- Merged runs of the desk, one step longer at the front.
use Rattle.std.proofs.Common.{◌≡◌, ◌≢◌, ℕ, zero, suc, ◌+◌, ◌/◌, ◌<◌, cond, nat_eq, List, [], ◌∷◌, length, get_or, set, sum, sum_by, sym, refl, ap, ◌∙◌, arith, Some, None, slice_get}
use Rattle.std.proofs.lemmas.List.Sums.{sum_by-cons}
use Rattle.atomic_table.specs.Table.{State}
use Rattle.line_rates.specs.Rates.{Rates}
use Rattle.line_rates.specs.TickTree.{Asker}
use Rattle.world_terms.specs.declared.event.Event.{Event}
use Rattle.world_terms.specs.declared.event.Event.TheVariants as event
use Rattle.world_terms.specs.declared.event.EventAnswer.{EventAnswer}
use Rattle.world_terms.specs.declared.event.EventAnswer.TheVariants as answer
use Rattle.world_terms.specs.Lanes.{Hidden}
use Rattle.world_terms.specs.Steps.{HiddenStep, lane_of}
use Rattle.desk_rule.specs.declared.view.DeskView.{DeskView}
use Rattle.desk_rule.specs.declared.view.LaneSlot.{LaneSlot}
use Rattle.desk_rule.specs.Steps.{Done}
use Rattle.round_events.specs.Desk.{DeskState, DeskStep, HoldStep, Holdings, held_lanes}
use Rattle.round_events.specs.Merged.{IsMerged, decisions_in, moved_on, table_steps}
use Rattle.round_events.specs.Results.{RoundDecision, RoundResult, total_of}

pub there : (xs : List Hidden) (i : ℕ) → i < length xs → (x : Hidden) × (slice_get xs i ≡ Some x) × ((d : Hidden) → get_or xs i d ≡ x)
there [] i h = absurd (omega arith)
there (x ∷ xs) zero h = (x, refl, λ d. refl)
there (x ∷ xs) (suc i) h = there xs i (omega arith)

set_there : (xs : List Hidden) (i : ℕ) (x : Hidden) → slice_get xs i ≡ Some x → set xs i x ≡ xs
set_there [] i x e = refl
set_there (y ∷ xs) zero x e = let same : x ≡ y = cc in λ q. same q ∷ xs
set_there (y ∷ xs) (suc i) x e = ap (λ (ys : List Hidden). y ∷ ys) (set_there xs i x e)

pub get_else : (xs : List Hidden) (i j : ℕ) (x : Hidden) → j ≢ i → slice_get (set xs i x) j ≡ slice_get xs j
get_else [] i j x ne = refl
get_else (y ∷ xs) zero zero x ne = absurd (ne refl)
get_else (y ∷ xs) zero (suc j) x ne = refl
get_else (y ∷ xs) (suc i) zero x ne = refl
get_else (y ∷ xs) (suc i) (suc j) x ne = get_else xs i j x (λ e. ne (ap suc e))

pub get_here : (xs : List Hidden) (i : ℕ) (x y : Hidden) → slice_get xs i ≡ Some x → slice_get (set xs i y) i ≡ Some y
get_here [] i x y e = absurd (cc)
get_here (z ∷ xs) zero x y e = refl
get_here (z ∷ xs) (suc i) x y e = get_here xs i x y e

pub get_same : (xs : List Hidden) (i : ℕ) (x y : Hidden) → slice_get (set xs i x) i ≡ Some y → y ≡ x
get_same [] i x y e = absurd (cc)
get_same (z ∷ xs) zero x y e = cc
get_same (z ∷ xs) (suc i) x y e = get_same xs i x y e

-- an event that leaves what is held as it is
pub same_held : (e : Event) (a : EventAnswer) (h : Holdings) → lane_of e < length h.lanes → ((y : Hidden) → slice_get h.lanes (lane_of e) ≡ Some y → HiddenStep e a y y) → HoldStep e a h h
same_held e a h less step =
    let t = there h.lanes (lane_of e) less in
    record { before = t.0; after = t.0; there = t.1; step = step t.0 t.1; rest = ap (λ (xs : List Hidden). held_lanes xs h) (sym (set_there h.lanes (lane_of e) t.0 t.1)) }

module _ {N : Type 0} (rates : ℕ → Rates) (s : State (LaneSlot N) DeskView) where
  pub merged_none : (x : DeskState N) (spent : ℕ → List ℕ) → s ≡ x.table → ((i : ℕ) → spent i ≡ []) → IsMerged rates x [] [] spent s
  merged_none x spent e none = record { steps = []; end = x; runs = refl; table = sym e; same = refl; decided = refl; moved = λ i. sym (none i); issued = omega arith }

  -- a step on the table
  pub merged_step : (d : Done) (x y : DeskState N) (ds : List Done) (rounds : List RoundResult) (spent : ℕ → List ℕ) → DeskStep rates d x y → y.held.issued ≡ x.held.issued
      → ((es : List Done) → table_steps (d ∷ es) ≡ d ∷ table_steps es) → ((es : List Done) → decisions_in (d ∷ es) ≡ decisions_in es) → ((i : ℕ) (es : List Done) → moved_on i (d ∷ es) ≡ moved_on i es)
      → IsMerged rates y ds rounds spent s → IsMerged rates x (d ∷ ds) rounds spent s
  merged_step d x y ds rounds spent h issued tables decisions moves m = record {
    steps = d ∷ m.steps;
    end = m.end;
    runs = (y, h, m.runs);
    table = m.table;
    same = tables m.steps ∙ ap (λ (es : List Done). d ∷ es) m.same;
    decided = decisions m.steps ∙ m.decided;
    moved = λ i. moves i m.steps ∙ m.moved i;
    issued = m.issued ∙ ap (λ (n : ℕ). n + sum_by total_of rounds) issued;
  }

  -- the octets moved of a grant
  pub merged_moved : (i n : ℕ) (x y : DeskState N) (ds : List Done) (rounds : List RoundResult) (spent spent' : ℕ → List ℕ) → DeskStep rates (Some (event.Moved i n, answer.Done)) x y → y.held.issued ≡ x.held.issued
      → ((j : ℕ) → cond (nat_eq i j) (n ∷ spent' j) (spent' j) ≡ spent j) → IsMerged rates y ds rounds spent' s → IsMerged rates x ds rounds spent s
  merged_moved i n x y ds rounds spent spent' h issued moves m = record {
    steps = Some (event.Moved i n, answer.Done) ∷ m.steps;
    end = m.end;
    runs = (y, h, m.runs);
    table = m.table;
    same = m.same;
    decided = m.decided;
    moved = λ j. ap (λ (ms : List ℕ). cond (nat_eq i j) (n ∷ ms) ms) (m.moved j) ∙ moves j;
    issued = m.issued ∙ ap (λ (k : ℕ). k + sum_by total_of rounds) issued;
  }

  -- the same octets moved
  pub merged_same : (x : DeskState N) (ds : List Done) (rounds : List RoundResult) (spent spent' : ℕ → List ℕ) → ((j : ℕ) → spent' j ≡ spent j) → IsMerged rates x ds rounds spent' s → IsMerged rates x ds rounds spent s
  merged_same x ds rounds spent spent' same m = record { steps = m.steps; end = m.end; runs = m.runs; table = m.table; same = m.same; decided = m.decided; moved = λ j. m.moved j ∙ same j; issued = m.issued }

  -- a decision
  pub merged_decided : (found : List Asker) (d : RoundDecision) (x y : DeskState N) (ds : List Done) (rounds : List RoundResult) (spent : ℕ → List ℕ)
      → DeskStep rates (Some (event.Decide d.moment, answer.Decided (d.moment / 100) (sum d.grants))) x y → y.held.issued ≡ x.held.issued + sum d.grants
      → IsMerged rates y ds rounds spent s → IsMerged rates x ds (record { found = found; decision = Some d } ∷ rounds) spent s
  merged_decided found d x y ds rounds spent h issued m =
      let e : Done = Some (event.Decide d.moment, answer.Decided (d.moment / 100) (sum d.grants)) in
      record {
        steps = e ∷ m.steps;
        end = m.end;
        runs = (y, h, m.runs);
        table = m.table;
        same = m.same;
        decided = ap (λ (es : List Done). e ∷ es) m.decided;
        moved = m.moved;
        issued = let all = sum_by-cons total_of (record { found = found; decision = Some d }) rounds in omega (arith, m.issued, issued, all);
      }

  -- a refused round
  pub merged_refused : (found : List Asker) (x : DeskState N) (ds : List Done) (rounds : List RoundResult) (spent : ℕ → List ℕ) → IsMerged rates x ds rounds spent s → IsMerged rates x ds (record { found = found; decision = None } ∷ rounds) spent s
  merged_refused found x ds rounds spent m = record {
    steps = m.steps;
    end = m.end;
    runs = m.runs;
    table = m.table;
    same = m.same;
    decided = m.decided;
    moved = m.moved;
    issued = let all = sum_by-cons total_of (record { found = found; decision = None }) rounds in omega (arith, m.issued, all);
  }
