use Rattle.std.proofs.Common.{[], ◌∷◌, ◌++◌, Option, refl, sym, subst}
use Rattle.handler_hooks.specs.Events.Event.{Disconnected}
use Rattle.session_events.specs.Leaving.{leaving_by}
use Rattle.session_events.specs.declared.closing.Leaving.{Leaving}
use Rattle.control_session.specs.Calls.HostCall.{Noted}
use Rattle.control_session.specs.Turns.{Carries}
use Rattle.control_session.proofs.Going.{chain_more}
use Rattle.control_session.proofs.Turning.{carries_both}
use Rattle.control_session.proofs.closing.leave.Goals as goal

pub returns-in-Some-clause-carries : goal.returns-in-Some-clause-carries
returns-in-Some-clause-carries g c lost =
    let first = c.abort_if.ensures.aborts lost in
    let second = c.note_logout-left.ensures.notes lost in
    let calls = (first.0 ++ second.0) ++ (Noted Disconnected ∷ []) in (
      calls,
      chain_more _ _ _ _ (first.0 ++ second.0) (Noted Disconnected ∷ []) (chain_more _ _ _ _ first.0 second.0 first.1 second.1) ((c.note.new.self, c.note.ensures, refl)),
      subst (λ (l : Option (Leaving g.row.A.Denot)). Carries {A = g.row.A.Denot} {S = g.row.H-Store.Denot} {R = g.row.H-Source.Denot} {K = g.row.H-Sink.Denot} (leaving_by l) lost calls lost) (sym c.in-Some.is)
          (carries_both _ _ lost lost lost (first.0 ++ second.0) (Noted Disconnected ∷ []) (carries_both _ _ lost lost lost first.0 second.0 first.2 second.2)
          (Noted Disconnected ∷ [], [], lost, refl, (refl, refl), (refl, refl))),
    )
