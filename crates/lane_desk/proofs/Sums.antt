-- The accounts of all lanes.
use Rattle.std.proofs.Common.{◌≡◌, ℕ, suc, ◌+◌, ◌<◌, List, [], ◌∷◌, ◌++◌, cond, Bool, true, false, length, get_or, set, sum, sym, refl, ap, ◌∙◌, subst, arith, length-append, get_or-set_other, reverse}
use mathlib.Core.Logic.{dite}
use native.Mathlib.Decide.{ℕ_discrete}
use Rattle.std.specs.Prelude.{slice_get}
use Rattle.std.proofs.lemmas.List.{reverse-append}
use Rattle.std.proofs.lemmas.List.Sums.{sum_by-append}
use Rattle.atomic_table.specs.Seated.{TableId}
use Rattle.desk_rule.specs.declared.view.LaneView.{LaneView}
use Rattle.desk_rule.specs.declared.view.TraceView.{TraceView}
use Rattle.lane_desk.specs.declared.worked.Worked.{Worked}
use Rattle.desk_rule.specs.Lanes.{fresh, untraced, posted_in}
use Rattle.desk_rule.specs.Lanes.{is_due}
use Rattle.lane_desk.specs.Close.{Settled, Closes, AllSettled}
use Rattle.lane_desk.specs.AllLanes.{taken_in_all}
use Rattle.lane_desk.specs.Workers.{AreWorkers, moved_by_all}
use Rattle.desk_rule.proofs.Keeps.{posted_set}
use Rattle.lane_desk.proofs.AllLanes.{get_middle, get_front, get_last}

pub settled_more : (ts1 ts2 : List TraceView) (xs1 xs2 : List LaneView) (i : ℕ) (x : LaneView) → AllSettled ts1 xs1 → i ≡ length xs1 → ts2 ≡ set ts1 i (get_or ts2 i untraced) → xs2 ≡ xs1 ++ x ∷ [] → Settled x (get_or ts2 i untraced) → AllSettled ts2 xs2
settled_more ts1 ts2 xs1 xs2 i x all is moved back new j near =
    let long : length xs2 ≡ length xs1 + 1 = ap length back ∙ length-append xs1 (x ∷ []) in
    dite (ℕ_discrete j i)
    (λ e. subst (λ (z : ℕ). Settled (get_or xs2 z fresh) (get_or ts2 z untraced)) (sym e) (subst (λ (y : LaneView). Settled y (get_or ts2 i untraced)) (sym (ap (λ (l : List LaneView). get_or l i fresh) back ∙ ap (λ (z : ℕ). get_or (xs1 ++ x ∷ []) z fresh) is ∙ get_last xs1 x fresh)) new))
    (λ ne. let h : j < length xs1 = omega arith in subst (λ (z : LaneView × TraceView). Settled z.0 z.1)
    (λ q. (sym (ap (λ (l : List LaneView). get_or l j fresh) back ∙ get_front xs1 (x ∷ []) j fresh h) q, sym (ap (λ (l : List TraceView). get_or l j untraced) moved ∙ get_or-set_other ts1 i j (get_or ts2 i untraced) untraced ne) q)) (all j h))

nothing_more : (b : Bool) → sum (cond b (0 ∷ []) []) ≡ 0
nothing_more true = refl
nothing_more false = refl

pub posted_still : (ts1 ts2 : List TraceView) (i : ℕ) → i < length ts1 → ts2 ≡ set ts1 i (get_or ts2 i untraced) → (get_or ts2 i untraced).posted ≡ (get_or ts1 i untraced).posted ++ cond (is_due (get_or ts1 i untraced)) (0 ∷ []) [] → posted_in ts2 ≡ posted_in ts1
posted_still ts1 ts2 i near moved is =
    omega (arith, ap posted_in moved, posted_set ts1 i (get_or ts2 i untraced) near, ap sum is, sum_by-append (λ (x : ℕ). x) (get_or ts1 i untraced).posted (cond (is_due (get_or ts1 i untraced)) (0 ∷ []) []), nothing_more (is_due (get_or ts1 i untraced)))

-- where each lane is settled, all that was posted was taken
pub taken_all : (ts : List TraceView) (xs : List LaneView) → length xs ≡ length ts → AllSettled ts xs → taken_in_all xs ≡ posted_in ts
taken_all [] [] long all = refl
taken_all [] (x ∷ xs) long all = absurd (omega arith)
taken_all (t ∷ ts) [] long all = absurd (omega arith)
taken_all (t ∷ ts) (x ∷ xs) long all =
    let same : sum t.posted ≡ sum x.taken = ap sum (all 0 (omega arith)).1 in
    let whole : taken_in_all (x ∷ xs) ≡ sum x.taken + taken_in_all xs = (let e = sum_by-append (λ (y : LaneView). sum y.taken) (x ∷ []) xs in omega arith) in
    let more : taken_in_all xs ≡ posted_in ts = taken_all ts xs (omega arith) (λ i near. all (suc i) (omega arith)) in
    omega arith

pub taken_plus : (xs1 xs2 : List LaneView) (x : LaneView) → xs2 ≡ xs1 ++ x ∷ [] → taken_in_all xs2 ≡ taken_in_all xs1 + sum x.taken
taken_plus xs1 xs2 x e = omega (arith, ap taken_in_all e, sum_by-append (λ (y : LaneView). sum y.taken) xs1 (x ∷ []))

pub taken_sum : (s x : LaneView) (t t' : TraceView) (n : ℕ) → Closes t s t' x n → sum x.taken ≡ sum s.taken + n
taken_sum s x t t' n c = ap sum c.2.1 ∙ sum_by-append (λ (y : ℕ). y) s.taken c.2.0 ∙ ap (λ (z : ℕ). sum s.taken + z) c.2.3

module _ {N : Type 0} where
  pub moved_plus : (ws : List (Worked N)) (w : (Worked N)) → moved_by_all (ws ++ w ∷ []) ≡ moved_by_all ws + w.tally.moved
  moved_plus ws w = omega (arith, sum_by-append (λ (y : (Worked N)). y.tally.moved) ws (w ∷ []))

  pub next_order : (ys l l' all : List (Worked N)) (w : (Worked N)) → ys ++ reverse l ≡ all → l ≡ l' ++ w ∷ [] → ys ++ w ∷ reverse l' ≡ all
  next_order ys l l' all w is pops = ap (λ x. ys ++ x) (sym (ap reverse pops ∙ reverse-append l' (w ∷ []))) ∙ is

  pub next_worker : (z : TableId) (n : ℕ) (all ys r : List (Worked N)) (w : (Worked N)) → AreWorkers z n all → ys ++ w ∷ r ≡ all → (w.seat.seat.table_id ≡ z) × (w.seat.lane < n) × (w.seat.lane ≡ length ys)
  next_worker z n all ys r w are is =
      let k = are.1 (length ys) w (ap (λ l. slice_get l (length ys)) (sym is) ∙ get_middle ys w r) in
      (k.1, omega (arith, k.0, are.0, ap length is, length-append ys (w ∷ r)), k.0)
