-- Runs, one after another.
use Rattle.std.proofs.Common.{◌≡◌, ℕ, List, [], ◌∷◌, ◌++◌, map, reverse, sym, refl, ap, ◌∙◌, subst}
use Rattle.std.proofs.lemmas.List.{map-append, reverse-append}
use Rattle.line_rates.specs.Rates.{Rates}
use Rattle.world_terms.specs.declared.event.Event.{Event}
use Rattle.world_terms.specs.Lanes.{World}
use Rattle.world_terms.specs.Runs.{TraceEntry, Runs, IsRun, event_of, reply_of, tick_of}
use Rattle.world_terms.specs.Steps.{Step}
use Rattle.round_events.specs.Events.{Reply}

pub run_none : (rates : ℕ → Rates) (w : World) → IsRun rates w [] [] w
run_none rates w = record { past = []; runs = refl; events_are = refl; replies_are = refl }

pub run_one : (rates : ℕ → Rates) (w : World) (e : Event) (r : Reply) (end : World) → Step (rates (tick_of e)) w e r end → IsRun rates w (e ∷ []) (r ∷ []) end
run_one rates w e r end s = record { past = record { before = w; event = e; reply = r } ∷ []; runs = (refl, s); events_are = refl; replies_are = refl }

runs_then : (rates : ℕ → Rates) (a b c : World) (past later : List TraceEntry) → Runs rates a past b → Runs rates b later c → Runs rates a (later ++ past) c
runs_then rates a b c past [] h e = subst (Runs rates a past) (sym e) h
runs_then rates a b c past (x ∷ later) h k = (runs_then rates a b x.before past later h k.0, k.1)

pub run_then : (rates : ℕ → Rates) (a b c : World) (es es' : List Event) (rs rs' : List Reply) → IsRun rates a es rs b → IsRun rates b es' rs' c → IsRun rates a (es ++ es') (rs ++ rs') c
run_then rates a b c es es' rs rs' h k = record {
  past = k.past ++ h.past;
  runs = runs_then rates a b c h.past k.past h.runs k.runs;
  events_are = ap reverse (map-append event_of k.past h.past) ∙ reverse-append (map event_of k.past) (map event_of h.past) ∙ (λ q. h.events_are q ++ k.events_are q);
  replies_are = ap reverse (map-append reply_of k.past h.past) ∙ reverse-append (map reply_of k.past) (map reply_of h.past) ∙ (λ q. h.replies_are q ++ k.replies_are q);
}

-- a step, and then a run
pub run_from : (rates : ℕ → Rates) (a b c : World) (e : Event) (r : Reply) (es : List Event) (rs : List Reply) → Step (rates (tick_of e)) a e r b → IsRun rates b es rs c → IsRun rates a (e ∷ es) (r ∷ rs) c
run_from rates a b c e r es rs s k = run_then rates a b c (e ∷ []) es (r ∷ []) rs (run_one rates a e r b s) k

-- the same run to a world that is equal
pub run_to : (rates : ℕ → Rates) (a b c : World) (es : List Event) (rs : List Reply) → b ≡ c → IsRun rates a es rs b → IsRun rates a es rs c
run_to rates a b c es rs e h = subst (IsRun rates a es rs) e h
