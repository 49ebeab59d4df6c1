use Rattle.std.proofs.Common.{List, subst}
use Rattle.session_table.specs.Laws.{releases}
use Rattle.session_table.specs.declared.actions.Action.{Action}
use Rattle.control_session.specs.Calls.{Chain}
use Rattle.control_session.specs.Turns.{release_calls}
use Rattle.control_session.proofs.Going.{chain_more}
use Rattle.control_session.proofs.carrying.carry_out.Goals as goal

pub returns : goal.returns
returns g c =
    let second = c.carry_all.ensures.carries in
    record {
      carries = (
        second.0,
        chain_more g.H.Host.Does _ c.release_all.new.host _ (release_calls (releases c.args.actions.items)) second.0
            (subst (λ (x : List (Action _ _ _)). Chain g.H.Host.Does c.args.host.now (release_calls (releases x)) c.release_all.new.host) c.deref.ensures.value c.release_all.ensures.released) second.1,
        second.2,
      );
    }
