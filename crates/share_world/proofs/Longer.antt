-- A run goes on by one event.
use Rattle.std.proofs.Common.{◌≡◌, ℕ, ◌+◌, ◌<◌, List, [], ◌∷◌, ◌++◌, length, map, take, get_or, refl, sym, ap, ◌∙◌, subst, inl, inr, arith}
use Rattle.std.proofs.lemmas.List.{take_more, reverse-append}
use Rattle.std.specs.Prelude.{Result, Ok, Err}
use Rattle.std.specs.List.{All}
use Rattle.std.proofs.lemmas.List.Elements.{All-append, All-from_recursion, All-nil}
use Rattle.std.specs.Result.{MatchResult}
use Rattle.share_world.specs.Stopped.{HadMemory, IsStoppedRun}
use Rattle.line_rates.specs.Rates.{Rates}
use Rattle.world_terms.specs.declared.event.Event.{Event}
use Rattle.world_terms.specs.declared.event.EventAnswer.{EventAnswer}
use Rattle.world_terms.specs.declared.fault.StepFault.{StepFault}
use Rattle.world_terms.specs.Lanes.{World}
use Rattle.world_terms.specs.Runs.{TraceEntry, IsRun, event_of, reply_of, tick_of}
use Rattle.world_terms.specs.Steps.{Step}

pub run_none : (r : ℕ → Rates) (start : World) → IsRun r start [] [] start
run_none r start = record { past = []; runs = refl; events_are = refl; replies_are = refl }

pub run_more : (r : ℕ → Rates) (start w end : World) (es : List Event) (rs : List (Result EventAnswer StepFault)) (e : Event) (reply : Result EventAnswer StepFault)
    → IsRun r start es rs w → Step (r (tick_of e)) w e reply end → IsRun r start (es ++ e ∷ []) (rs ++ reply ∷ []) end
run_more r start w end es rs e reply run step =
    let x : TraceEntry = record { before = w; event = e; reply = reply } in
    record {
      past = x ∷ run.past;
      runs = (run.runs, step);
      events_are = reverse-append (e ∷ []) (map event_of run.past) ∙ ap (λ (xs : List Event). xs ++ e ∷ []) run.events_are;
      replies_are = reverse-append (reply ∷ []) (map reply_of run.past) ∙ ap (λ (xs : List (Result EventAnswer StepFault)). xs ++ reply ∷ []) run.replies_are;
    }

-- under the same rates in each tick
pub run_at : (r r' : Rates) (start w end : World) (events : List Event) (i : ℕ) (rs rs' : List (Result EventAnswer StepFault)) (d : Event) (reply : Result EventAnswer StepFault) → i < length events → r' ≡ r → rs' ≡ rs ++ reply ∷ []
    → IsRun (λ _. r) start (take i events) rs w → Step r' w (get_or events i d) reply end → IsRun (λ _. r) start (take (i + 1) events) rs' end
run_at r r' start w end events i rs rs' d reply less same more run step =
    let step_r : Step r w (get_or events i d) reply end = subst (λ (x : Rates). Step x w (get_or events i d) reply end) same step in
    subst (λ (xs : List (Result EventAnswer StepFault)). IsRun (λ _. r) start (take (i + 1) events) xs end) (sym more)
    (subst (λ (es : List Event). IsRun (λ _. r) start es (rs ++ reply ∷ []) end) (sym (take_more events i d less)) (run_more (λ _. r) start w end (take i events) rs (get_or events i d) reply run step_r))

-- a run that stops before an event
pub stopped_run : (r : ℕ → Rates) (start end now : World) (events : List Event) (i : ℕ) (replies : List (Result EventAnswer StepFault)) → IsRun r start (take i events) replies end → now ≡ end → All HadMemory replies → i < length events
    → IsStoppedRun r start events now
stopped_run r start end now events i replies run same had less = record { some = record { done = i; replies = replies; run = subst (IsRun r start (take i events) replies) (sym same) run }; had = had; left = inl less }

-- a run that stops before its first event
pub unbegun_run : (r : ℕ → Rates) (start : World) (events : List Event) → IsStoppedRun r start events start
unbegun_run r start [] = record { some = record { done = 0; replies = []; run = run_none r start }; had = All-nil HadMemory; left = inr refl }
unbegun_run r start (e ∷ es) = record { some = record { done = 0; replies = []; run = run_none r start }; had = All-nil HadMemory; left = inl (omega arith) }

-- one reply more
pub had_more : (replies more : List (Result EventAnswer StepFault)) (reply : Result EventAnswer StepFault) → more ≡ replies ++ reply ∷ [] → All HadMemory replies → HadMemory reply → All HadMemory more
had_more replies more reply is had one = subst (All HadMemory) (sym is) (All-append HadMemory replies (reply ∷ []) had (All-from_recursion HadMemory (reply ∷ []) (one, tt)))

-- lack of memory changes nothing
pub unmoved : (r : Rates) (w : World) (e : Event) (reply : Result EventAnswer StepFault) (f : StepFault) (end : World) → Step r w e reply end → reply ≡ Err f → end ≡ w
unmoved r w e reply f end step is = (subst (λ (x : Result EventAnswer StepFault). Step r w e x end) is step).0

pub on_err : {X E : Type 0} (P : Type 0) (r : Result X E) → P → MatchResult r (λ x. Unit {0}) (λ e. P)
on_err P (Ok x) h = tt
on_err P (Err e) h = h
