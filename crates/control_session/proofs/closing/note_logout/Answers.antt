use Rattle.std.proofs.Common.{[], ◌∷◌, Option, refl, sym, subst}
use Rattle.handler_hooks.specs.Events.Event.{LoggedOut as logged_out}
use Rattle.session_events.specs.Leaving.{logout_actions}
use Rattle.session_events.specs.declared.closing.LoggedOut.{LoggedOut}
use Rattle.control_session.specs.Calls.HostCall.{Noted}
use Rattle.control_session.specs.Turns.{Carries}
use Rattle.control_session.proofs.closing.note_logout.Goals as goal

pub returns-in-Some-clause-notes : goal.returns-in-Some-clause-notes
returns-in-Some-clause-notes g c lost =
    let reported = Noted (logged_out c.in-Some.left.name) in (
      reported ∷ [],
      (c.note.new.self, c.note.ensures, refl),
      subst (λ (l : Option (LoggedOut g.row.A.Denot)). Carries {A = g.row.A.Denot} {S = g.row.H-Store.Denot} {R = g.row.H-Source.Denot} {K = g.row.H-Sink.Denot} (logout_actions l) lost (reported ∷ []) lost) (sym c.in-Some.is)
          (reported ∷ [], [], lost, refl, (refl, refl), ([], [], lost, refl, (refl, refl), (refl, refl))),
    )
