-- How what a worker did grows by a job.
use Rattle.std.proofs.Common.{◌≡◌, ◌≢◌, ◌⊎◌, inl, inr, ℕ, ◌+◌, ◌++◌, Bool, false, List, [], ◌∷◌, length, map, sym, refl, ap, ◌∙◌, arith, append_assoc, append-nil, length-append, All, subst}
use Rattle.std.specs.Prelude.{Some, None}
use Rattle.std.specs.List.{flat_map, sum_by}
use Rattle.std.proofs.lemmas.List.{map-append}
use Rattle.std.proofs.lemmas.List.Sums.{sum_by_push}
use Rattle.std.proofs.lemmas.Grind.{flat_map-append}
use Rattle.std.proofs.lemmas.List.Elements.{All-nil, All-push}
use Rattle.line_rates.specs.declared.ask.Way.{Way}
use Rattle.data_pump.specs.declared.pumped.OpenFault.{OpenFault}
use Rattle.data_pump.specs.declared.pumped.OpenFault.TheVariants as opening
use Rattle.transfer_worker.specs.declared.order.Hand.{Hand}
use Rattle.transfer_worker.specs.Order.{hand}
use Rattle.transfer_worker.specs.declared.end.JobEnd.{JobEnd}
use Rattle.transfer_worker.specs.declared.end.JobEnd.TheVariants.{ReadFault, Memory, Stopped}
use Rattle.transfer_worker.specs.declared.job.LaneJob.{LaneJob}
use Rattle.transfer_worker.specs.Ends.{Reports, fault_of}
use Rattle.transfer_worker.specs.Transfers.{Flow, Known, way_in, user_of, session_of, way_of, Opens}
use Rattle.transfer_worker.specs.Runs.{WorkerView, Turn, asks_at, Bears}
use Rattle.transfer_worker.specs.Works.{RunsTransfer, Work, asks_in, taken_in, looks_in, moves_in, passes_in, IsWork, sitting_of, starts, reported_of, Does, RunsJob, Did}
use Rattle.transfer_worker.proofs.Adding.{adds_none, adds_then, adds_as, adds_still}

module _ {R K C : Type 0} where
  starts_append : (n : ℕ) (ws vs : List (Work R K C)) → starts n (ws ++ vs) ≡ starts n ws ++ starts (n + length (flat_map asks_in ws)) vs
  starts_append n [] vs = ap (λ (m : ℕ). starts m vs) (omega arith)
  starts_append n (w ∷ ws) vs =
      let m : ℕ = n + length (asks_in w) in
      let more : length (flat_map asks_in (w ∷ ws)) ≡ length (asks_in w) + length (flat_map asks_in ws) = length-append (asks_in w) (flat_map asks_in ws) in
      let far : m + length (flat_map asks_in ws) ≡ n + length (flat_map asks_in (w ∷ ws)) = omega (arith, more) in
      ap (λ (l : List ℕ). sitting_of n w.opening ++ l) (starts_append m ws vs ∙ ap (λ (q : ℕ). starts m ws ++ starts q vs) far)
      ∙ sym (append_assoc (sitting_of n w.opening) (starts m ws) (starts (n + length (flat_map asks_in (w ∷ ws))) vs))

  flat_one : {A : Type 0} (f : (Work R K C) → List A) (ws : List (Work R K C)) (w : (Work R K C)) → flat_map f (ws ++ w ∷ []) ≡ flat_map f ws ++ f w
  flat_one {A = A} f ws w = flat_map-append f ws (w ∷ []) ∙ ap (λ (l : List A). flat_map f ws ++ l) (append-nil (f w))

  module _ (k : Known R K C) (may_want : ℕ → Type 0) where
    pub none_done : (h : Hand (LaneJob R K C)) (v : WorkerView) → Did k may_want [] h h v v
    none_done h v = record {
      each = All-nil (IsWork k may_want);
      popped = sym (append-nil h.popped);
      pushed = refl;
      sittings_are = sym (append-nil v.lane.sittings);
      adds = adds_none v;
      reports = λ before e. e ∙ ap (λ (l : List (ℕ × JobEnd)). Some l) (sym (append-nil before));
    }

    -- one job more
    pub more_done : (works : List (Work R K C)) (job : (Work R K C)) (h g g' : Hand (LaneJob R K C)) (v u w : WorkerView) → Did k may_want works h g v u → g' ≡ hand g.pushed (g.popped ++ job.job ∷ []) → Does k may_want job u w
        → Did k may_want (works ++ job ∷ []) h g' v w
    more_done works job h g g' v u w d pop does = record {
      each = All-push (IsWork k may_want) works job d.each does.is_work;
      popped = ap (λ (q : Hand (LaneJob R K C)). q.popped) pop ∙ ap (λ (l : List (LaneJob R K C)). l ++ job.job ∷ []) d.popped ∙ append_assoc h.popped (map (λ (j : (Work R K C)). j.job) works) (job.job ∷ [])
          ∙ ap (λ (l : List (LaneJob R K C)). h.popped ++ l) (sym (map-append (λ (j : (Work R K C)). j.job) works (job ∷ [])));
      pushed = ap (λ (q : Hand (LaneJob R K C)). q.pushed) pop ∙ d.pushed;
      sittings_are =
          let far : length u.lane.asks ≡ length v.lane.asks + length (flat_map asks_in works) = ap length d.adds.asks_are ∙ length-append v.lane.asks (flat_map asks_in works) in
          does.sittings_are
          ∙ sym (append-nil (u.lane.sittings ++ sitting_of (length u.lane.asks) job.opening))
          ∙ append_assoc u.lane.sittings (sitting_of (length u.lane.asks) job.opening) []
          ∙ (λ q. d.sittings_are q ++ starts (far q) (job ∷ []))
          ∙ append_assoc v.lane.sittings (starts (length v.lane.asks) works) (starts (length v.lane.asks + length (flat_map asks_in works)) (job ∷ []))
          ∙ ap (λ (l : List ℕ). v.lane.sittings ++ l) (sym (starts_append (length v.lane.asks) works (job ∷ [])));
      adds = adds_as (flat_map asks_in works ++ asks_in job) (flat_map asks_in (works ++ job ∷ [])) (flat_map taken_in works ++ taken_in job) (flat_map taken_in (works ++ job ∷ []))
          (sum_by looks_in works + looks_in job) (sum_by looks_in (works ++ job ∷ [])) (flat_map moves_in works ++ moves_in job) (flat_map moves_in (works ++ job ∷ []))
          (flat_map passes_in works ++ passes_in job) (flat_map passes_in (works ++ job ∷ [])) v w
          (sym (flat_one asks_in works job)) (sym (flat_one taken_in works job)) (sym (sum_by_push looks_in works job)) (sym (flat_one moves_in works job)) (sym (flat_one passes_in works job))
          (adds_then (flat_map asks_in works) (asks_in job) (flat_map taken_in works) (taken_in job) (sum_by looks_in works) (looks_in job) (flat_map moves_in works) (moves_in job)
          (flat_map passes_in works) (passes_in job) v u w d.adds does.adds);
      reports = λ before e. does.reports (before ++ map reported_of works) (d.reports before e)
          ∙ ap (λ (l : List (ℕ × JobEnd)). Some l) (append_assoc before (map reported_of works) (reported_of job ∷ []) ∙ ap (λ (l : List (ℕ × JobEnd)). before ++ l) (sym (map-append reported_of works (job ∷ []))));
    }

    -- a job that was opened
    pub opened : (job : LaneJob R K C) (flow : Flow R K C) (stop : Bool) (v w : WorkerView) → way_in flow ≡ way_of job → Opens k job flow → RunsTransfer k may_want (user_of job) (session_of job) flow stop v w → RunsJob k may_want job stop v w
    opened job flow stop v w way opens r = (
      record { job = job; opening = Some flow; turns = r.turns; halt = r.halt; end = r.end },
      refl,
      r.stops,
      record {
        is_work = record {
          bear = subst (λ (q : Way). All (Bears (user_of job) (session_of job) q) (map (λ (t : Turn). t.ask) r.turns ++ asks_at r.halt)) way r.bear;
          runs = (opens, (r.final, r.are_turns, r.ends));
        };
        sittings_are = r.sittings_are;
        adds = r.adds;
        reports = r.reports;
      },
    )

    -- a job that was not
    pub unopened : (job : LaneJob R K C) (end : JobEnd) (v w : WorkerView) → (end ≡ ReadFault) ⊎ (end ≡ Memory) → w.lane ≡ v.lane → w.tally ≡ v.tally → w.passed ≡ v.passed → Reports v.heard w.heard (session_of job) end → RunsJob k may_want job false v w
    unopened job end v w fault lane tally passed reports = (
      record { job = job; opening = None; turns = []; halt = None; end = end },
      refl,
      apart end fault,
      record {
        is_work = record {
          bear = All-nil (Bears (user_of job) (session_of job) (way_of job));
          runs = (refl, refl, fault);
        };
        sittings_are = ap (λ l. l.sittings) lane ∙ sym (append-nil v.lane.sittings);
        adds = adds_still [] [] 0 [] [] v v w (adds_none v) (ap (λ l. l.asks) lane) (ap (λ l. l.taken) lane) (ap (λ l. l.looks) lane) (ap (λ t. t.moved) tally) passed;
        reports = reports;
      },
    )
      where
        apart : (end : JobEnd) → (end ≡ ReadFault) ⊎ (end ≡ Memory) → end ≢ Stopped
        apart end (inl e) = λ f. absurd (cc)
        apart end (inr e) = λ f. absurd (cc)

pub fault_is : (f : OpenFault) (end : JobEnd) → end ≡ fault_of f → (end ≡ ReadFault) ⊎ (end ≡ Memory)
fault_is opening.ReadFault end e = inl e
fault_is opening.Memory end e = inr e
