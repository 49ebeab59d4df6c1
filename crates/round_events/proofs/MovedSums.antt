-- The octets moved on a lane are the sum of those that the steps of the desk move there.
use Rattle.std.proofs.Common.{◌≡◌, ◌≢◌, ℕ, zero, suc, ◌+◌, ◌<◌, Bool, true, false, cond, nat_eq, eq-eqb, ne_eqb, List, [], ◌∷◌, replicate, set, sum, sym, refl, ap, ◌∙◌, subst, arith, Option, Some, None, slice_get}
use Rattle.std.proofs.lemmas.Option.{same_Some}
use Rattle.std.proofs.lemmas.List.Sums.{sum_by-cons}
use mathlib.Core.Logic.{dite}
use native.Mathlib.Decide.{ℕ_discrete}
use Rattle.line_rates.specs.Rates.{Rates}
use Rattle.world_terms.specs.declared.event.Event.{Event}
use Rattle.world_terms.specs.declared.event.Event.TheVariants as event
use Rattle.world_terms.specs.declared.event.EventAnswer.{EventAnswer}
use Rattle.world_terms.specs.declared.event.EventAnswer.TheVariants as answer
use Rattle.world_terms.specs.Lanes.{Hidden, hidden}
use Rattle.world_terms.specs.Steps.{HiddenStep, lane_of}
use Rattle.desk_rule.specs.Steps.{Done}
use Rattle.round_events.specs.Desk.{DeskRuns, DeskState, DeskStep, HoldStep, Holdings, decided_by, grant_on}
use Rattle.round_events.specs.Merged.{MergedMoves, moved_on, opened_desk}
use Rattle.round_events.proofs.Merging.{get_else, get_here}

decided_there : (f : ℕ → Option ℕ) (k : ℕ) (xs : List Hidden) (i : ℕ) (x : Hidden) → slice_get xs i ≡ Some x → (y : Hidden) × (slice_get (decided_by f k xs) i ≡ Some y) × (y.moved ≡ x.moved)
decided_there f k [] i x e = absurd (cc)
decided_there f k (z ∷ xs) zero x e = let same : z ≡ x = cc in (hidden z.moved z.back z.hand (f k), refl, ap (λ (y : Hidden). y.moved) same)
decided_there f k (z ∷ xs) (suc i) x e = decided_there f (suc k) xs i x e

-- the octets that a step moves on a lane
abbrev moved_by : Done → ℕ → ℕ
moved_by (Some (event.Moved j n, a)) i = cond (nat_eq j i) n 0
moved_by d i = 0

one_moved : (b : Bool) (n : ℕ) (ms : List ℕ) → sum (cond b (n ∷ ms) ms) ≡ cond b n 0 + sum ms
one_moved true n ms = sum_by-cons (λ x. x) n ms
one_moved false n ms = omega arith

moved_sum : (d : Done) (i : ℕ) (ds : List Done) → sum (moved_on i (d ∷ ds)) ≡ moved_by d i + sum (moved_on i ds)
moved_sum (Some (event.Moved j n, a)) i ds = one_moved (nat_eq j i) n (moved_on i ds)
moved_sum d i ds = omega arith

-- what a lane's event moves
hidden_moved : (e : Event) (a : EventAnswer) (x y : Hidden) → HiddenStep e a x y → y.moved ≡ x.moved + moved_by (Some (e, a)) (lane_of e)
hidden_moved (event.Sit i) a x y h = ap (λ (z : Hidden). z.moved) h ∙ omega arith
hidden_moved (event.Asked i b) a x y h = ap (λ (z : Hidden). z.moved) h.1 ∙ omega arith
hidden_moved (event.Collect i) a x y h = ap (λ (z : Hidden). z.moved) h ∙ omega arith
hidden_moved (event.Post i) (answer.Posted n) x y h = ap (λ (z : Hidden). z.moved) h.1 ∙ omega arith
hidden_moved (event.Taken i) (answer.Taken n) x y h = ap (λ (z : Hidden). z.moved) h ∙ omega arith
hidden_moved (event.Moved i n) a x y h = ap (λ (z : Hidden). z.moved) h.3 ∙ ap (λ (b : Bool). x.moved + cond b n 0) (sym (eq-eqb i i refl))
hidden_moved (event.Rise i) a x y h = ap (λ (z : Hidden). z.moved) h.1 ∙ omega arith
hidden_moved e a x y h = absurd h

moved_else : (e : Event) (a : EventAnswer) (i : ℕ) → i ≢ lane_of e → moved_by (Some (e, a)) i ≡ 0
moved_else (event.Moved j n) a i ne = ap (λ (b : Bool). cond b n 0) (ne_eqb j i (λ e. ne (sym e)))
moved_else e a i ne = refl

abbrev Moves : Done → List Hidden → List Hidden → Type 0
Moves d xs ys = (i : ℕ) (x : Hidden) → slice_get xs i ≡ Some x → (y : Hidden) × (slice_get ys i ≡ Some y) × (y.moved ≡ x.moved + moved_by d i)

hold_moves : (e : Event) (a : EventAnswer) (h h' : Holdings) → HoldStep e a h h' → Moves (Some (e, a)) h.lanes h'.lanes
hold_moves e a h h' s i x at = dite (ℕ_discrete i (lane_of e))
    (λ here.
    let old : s.before ≡ x = same_Some s.before x (sym s.there ∙ subst (λ (n : ℕ). slice_get h.lanes n ≡ Some x) here at) in
    let new : slice_get (set h.lanes (lane_of e) s.after) i ≡ Some s.after = subst (λ (n : ℕ). slice_get (set h.lanes (lane_of e) s.after) n ≡ Some s.after) (sym here) (get_here h.lanes (lane_of e) s.before s.after s.there) in (
      s.after,
      ap (λ (k : Holdings). slice_get k.lanes i) s.rest ∙ new,
      hidden_moved e a s.before s.after s.step ∙ (λ q. (old q).moved + moved_by (Some (e, a)) (sym here q)),
    ))
    (λ ne. (x, ap (λ (k : Holdings). slice_get k.lanes i) s.rest ∙ get_else h.lanes (lane_of e) i s.after ne ∙ at, (let none = moved_else e a i ne in omega (arith, none))))

same_moves : (d : Done) (xs : List Hidden) → ((i : ℕ) → moved_by d i ≡ 0) → Moves d xs xs
same_moves d xs none i x at = (x, at, (let k = none i in omega (arith, k)))

module _ {N : Type 0} (rates : ℕ → Rates) where
  step_moves : (d : Done) (x y : DeskState N) → DeskStep rates d x y → Moves d x.held.lanes y.held.lanes
  step_moves None x y h = subst (λ (k : Holdings). Moves None x.held.lanes k.lanes) (sym h.1) (same_moves None x.held.lanes (λ i. refl))
  step_moves (Some (event.Decide m, answer.Decided tick total)) x y h = subst (λ (k : Holdings). Moves (Some (event.Decide m, answer.Decided tick total)) x.held.lanes k.lanes) (sym h.holds.rest)
      (λ i z at. let r = decided_there (grant_on h.holds.lanes h.holds.grants) 0 x.held.lanes i z at in (r.0, r.1, (let same = r.2 in omega (arith, same))))
  step_moves (Some (event.Decide m, a)) x y h = absurd h.0
  step_moves (Some (event.Moved i n, answer.Done)) x y h = hold_moves (event.Moved i n) answer.Done x.held y.held h.1
  step_moves (Some (event.Moved i n, a)) x y h = absurd h.0
  step_moves (Some (event.Collect i, a)) x y h = hold_moves (event.Collect i) a x.held y.held h.1
  step_moves (Some (e, a)) x y h = hold_moves e a x.held y.held h.1

  runs_move : (ds : List Done) (x z : DeskState N) → DeskRuns rates x ds z → (i : ℕ) (a : Hidden) → slice_get x.held.lanes i ≡ Some a → (b : Hidden) × (slice_get z.held.lanes i ≡ Some b) × (b.moved ≡ a.moved + sum (moved_on i ds))
  runs_move [] x z h i a at = (a, ap (λ (y : DeskState N). slice_get y.held.lanes i) h ∙ at, omega arith)
  runs_move (d ∷ ds) x z h i a at =
      let one = step_moves d x h.0 h.1 i a at in
      let rest = runs_move ds h.0 z h.2 i one.0 one.1 in
      (rest.0, rest.1, (let p = one.2 in let q = rest.2 in let all = moved_sum d i ds in omega (arith, p, q, all)))

new_there : (n i : ℕ) (x : Hidden) → i < n → slice_get (replicate n x) i ≡ Some x
new_there zero i x less = absurd (omega arith)
new_there (suc n) zero x less = refl
new_there (suc n) (suc i) x less = new_there n i x (omega arith)

pub merged_moves : (N : Type 0) → MergedMoves N
merged_moves N rates s r rounds spent m i less =
    let k = runs_move rates m.steps (opened_desk r) m.end m.runs i (hidden 0 0 None None) (new_there r.lanes i (hidden 0 0 None None) less) in
    (k.0, k.1, k.2 ∙ (let all : 0 + sum (moved_on i m.steps) ≡ sum (moved_on i m.steps) = omega arith in all) ∙ ap sum (m.moved i))
