use Rattle.std.proofs.Common.{[], ◌∷◌, Bool, refl, sym, subst}
use Rattle.control_session.specs.Sides.SideCall.{Aborts}
use Rattle.session_events.specs.Leaving.{abort_actions}
use Rattle.control_session.specs.Calls.HostCall.{Asked}
use Rattle.control_session.specs.Turns.{Carries}
use Rattle.control_session.proofs.closing.abort_if.Goals as goal

pub returns-then-aborts : goal.returns-then-aborts
returns-then-aborts g c = record {
  aborts = λ lost. (
    Asked Aborts ∷ [],
    (c.abort.new.self, c.abort.ensures, refl),
    subst (λ (b : Bool). Carries {A = g.row.A.Denot} {S = g.row.H-Store.Denot} {R = g.row.H-Source.Denot} {K = g.row.H-Sink.Denot} (abort_actions b) lost (Asked Aborts ∷ []) lost) (sym c.if-aborts.true)
        (Asked Aborts ∷ [], [], lost, refl, (refl, refl), (refl, refl)),
  );
}
